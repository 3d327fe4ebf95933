-- The parts of a statement and of the total line, put together. Assumes nothing.
use Rattle.std.proofs.Common.{◌≡◌, ℕ, ◌<◌, List, cond, [], ◌++◌, sym, refl, ap, ◌∙◌, lt-ltb}
use Rattle.day.specs.declared.book.Book.{Book}
use Rattle.day.specs.Bills.{fees, charges, penalties, refunds}
use Rattle.statements.specs.declared.entries.Clearing.{Clearing}
use Rattle.statements.specs.Lines.{where_above, each}
use Rattle.statements.specs.Forms.{C_line, T_line}
use Rattle.statements.specs.Billed.{clearing_of}
use Rattle.statements.specs.Statement.{sale_line, area_line, plant_line, unit_line, left_line, round_lines, statement_of, total_text}

stands : (n : ℕ) (text : List ℕ) → 0 < n → text ≡ where_above n text
stands n text h = ap (λ t. cond t text []) (sym (lt-ltb 0 n h))

-- a round in which something was wanted
pub round_stands : (b : Book) (p k : ℕ) (c : Clearing) → c ≡ clearing_of b p k → 0 < c.wanted → C_line c.period c.round c.wanted c.brought c.price ++ each (sale_line b p k) 64 ≡ round_lines b p k
round_stands b p k c e h =
    let sales = each (sale_line b p k) 64 in
    stands c.wanted _ h ∙ ap (λ (x : Clearing). where_above x.wanted (C_line x.period x.round x.wanted x.brought x.price ++ sales)) e

pub all_parts : (b : Book) (p : ℕ) →
    round_lines b p 0 ++ (round_lines b p 1 ++ (each (area_line b p) 8 ++ (each (plant_line b p) 64 ++ (each (unit_line b p) 64 ++ each (left_line b p) 8))))
    ≡ statement_of b p
unfolding statement_of
all_parts b p = refl

pub total_is : (b : Book) → T_line (fees b) (charges b) (penalties b) (refunds b) ≡ total_text b
unfolding total_text
total_is b = refl
