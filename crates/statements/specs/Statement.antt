-- What a period's statement and the total line say, read off a day's book. Assumes nothing.
use Rattle.std.specs.Prelude.{◌≡◌, ℕ, ◌-◌, ◌<◌, ◌≤◌, List, ◌++◌, length, replicate, Ok, Err, Result}
use Rattle.day.specs.declared.book.Book.{Book}
use Rattle.day.specs.Bills.{call_of, price_of, wanted_of, brought_of, fee, charge, users, uncarried_charge, plant_charge, penalty, refund, uncarried_refund, fees, charges, penalties, refunds}
use Rattle.statements.specs.declared.fault.StatementFault.{StatementFault}
use Rattle.statements.specs.declared.fault.StatementFault.TheVariants.{Period, Long}
use Rattle.statements.specs.Lines.{where_above, each, Given}
use Rattle.statements.specs.Forms.{C_line, S_line, A_line, W_line, U_line, N_line, T_line}

-- The line of the period p for the seller i in the round k, the area a, the plant j or the unit i.
abbrev pub sale_line : Book → ℕ → ℕ → ℕ → List ℕ
sale_line b p k i = S_line p k i (call_of b k p i) (fee b k p i)

abbrev pub area_line : Book → ℕ → ℕ → List ℕ
area_line b p a = A_line p a (charge b p a) (users b p a) (uncarried_charge b p a)

abbrev pub plant_line : Book → ℕ → ℕ → List ℕ
plant_line b p j = W_line p j (plant_charge b p j)

abbrev pub unit_line : Book → ℕ → ℕ → List ℕ
unit_line b p i = U_line p i (penalty b p i) (refund b p i)

abbrev pub left_line : Book → ℕ → ℕ → List ℕ
left_line b p a = N_line p a (uncarried_refund b p a)

-- A cleared round in which something was wanted: its own line, then those of its sellers.
abbrev pub round_lines : Book → ℕ → ℕ → List ℕ
round_lines b p k = where_above (wanted_of b k p) (C_line p k (wanted_of b k p) (brought_of b k p) (price_of b k p) ++ each (sale_line b p k) 64)

-- The statement of a period: both rounds, then areas, plants and units, then what no unit is refunded.
unfoldable pub statement_of : Book → ℕ → List ℕ
statement_of b p =
    round_lines b p 0 ++ (round_lines b p 1 ++ (each (area_line b p) 8 ++ (each (plant_line b p) 64
    ++ (each (unit_line b p) 64 ++ each (left_line b p) 8))))

-- What is answered to one who asks for the statement of a period and lends a buffer: refused, the buffer is as it was.
abbrev pub Stated : Book → ℕ → List ℕ → Result ℕ StatementFault → List ℕ → Type 0
Stated b p old (Ok n) new = (p ≤ 95) × Given (statement_of b p) old n new
Stated b p old (Err Period) new = (95 < p) × (new ≡ old)
Stated b p old (Err Long) new = (p ≤ 95) × (length old < length (statement_of b p)) × (new ≡ old)

-- The total line up to its line feed, and with spaces up to 96 bytes.
unfoldable pub total_text : Book → List ℕ
total_text b = T_line (fees b) (charges b) (penalties b) (refunds b)

abbrev pub total_line : Book → List ℕ
total_line b = total_text b ++ replicate (96 - length (total_text b)) 32
