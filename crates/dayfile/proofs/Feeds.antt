-- Where the first line of some bytes ends, and that the total line is the first of its bytes.
use Rattle.std.proofs.Common.{◌≡◌, ℕ, zero, suc, ◌+◌, ◌-◌, ◌/◌, ◌%◌, Bool, true, false, cond, eqb, ltb, List, [], ◌∷◌, ◌++◌, length, take, replicate, decimal, Option, Some, None, MatchOption, ◌==◌, position, eqb-true, lt-ltb, sym, refl, ap, ◌∙◌, append_assoc, arith, length-append}
use Rattle.std.specs.Fmt.{digit_glyph, digits_onto, digits}
use Rattle.std.specs.List.{All, flat_map, position_or_len}
use Rattle.std.proofs.lemmas.List.{take_at}
use Rattle.std.proofs.lemmas.List.Elements.{All-nil, All-cons, All-head, All-tail, All-append}
use Rattle.std.proofs.lemmas.Bool.{cond_both}
use Rattle.day.specs.declared.book.Book.{Book}
use Rattle.day.specs.Bills.{fees, charges, penalties, refunds}
use Rattle.statements.specs.Lines.{field}
use Rattle.statements.specs.Statement.{total_text, total_line}
use Rattle.dayfile.specs.Printed.{FirstLine}

abbrev No : ℕ → Type 0
No x = x ≡ 10 → ⊥

-- Whether a byte is a line feed.
abbrev pub feeds : ℕ → Bool
feeds x = x == 10

plain_byte : (x : ℕ) → No x → feeds x ≡ false
plain_byte x none = go (eqb x 10) refl
  where
    go : (b : Bool) → eqb x 10 ≡ b → b ≡ false
    go true e = absurd (none (eqb-true x 10 e))
    go false e = refl

text_len : (text rest : List ℕ) → All No text → position_or_len feeds (text ++ 10 ∷ rest) ≡ length text
text_len [] rest none = refl
text_len (x ∷ xs) rest none = rw (plain_byte x (All-head No x xs none)) (omega (arith, text_len xs rest (All-tail No x xs none)))

-- The first line feed ends the first line.
pub feed_place : (text rest : List ℕ) → All No text → position feeds (text ++ 10 ∷ rest) ≡ Some (length text)
feed_place text rest none =
    let n = text_len text rest none in
    let short : ltb (length text) (length (text ++ 10 ∷ rest)) ≡ true = lt-ltb (length text) (length (text ++ 10 ∷ rest)) (omega (arith, length-append text (10 ∷ rest))) in
    rw n (rw short refl)

pub past_feed : (o : Option ℕ) (long n : ℕ) (Q : ℕ → Type 0) → MatchOption o (n ≡ long) Q → ((x : ℕ) → Q x → n ≡ x + 1) → (x : ℕ) → o ≡ Some x → n ≡ x + 1
past_feed None long n Q h tells x e = absurd (let z : ◌≡◌ {A = ℕ} 0 1 = cc in omega arith)
past_feed (Some y) long n Q h tells x e = let z : y ≡ x = cc in tells y h ∙ ap (λ k. k + 1) z

glyph_plain : (upper : Bool) (d : ℕ) → No (digit_glyph upper d)
glyph_plain upper d = go (ltb d 10) upper
  where
    go : (s t : Bool) → No (cond s (48 + d) (cond t (55 + d) (87 + d)))
    go true t e = omega arith
    go false true e = omega arith
    go false false e = omega arith

spelled_plain : (k base : ℕ) (upper : Bool) (n : ℕ) (acc : List ℕ) → All No acc → All No (digits_onto k base upper n acc)
spelled_plain zero base upper n acc none = none
spelled_plain (suc k) base upper n acc none =
    let here : All No (digit_glyph upper (n % base) ∷ acc) = All-cons No (digit_glyph upper (n % base)) acc (glyph_plain upper (n % base)) none in
    cond_both (eqb (n / base) 0) _ _ (All No) (λ _. here) (λ _. spelled_plain k base upper (n / base) (digit_glyph upper (n % base) ∷ acc) here)

decimal_plain : (n : ℕ) → All No (decimal n)
unfolding digits
decimal_plain n = spelled_plain 64 10 false n [] (All-nil No)

fields_plain : (ns : List ℕ) → All No (flat_map field ns)
fields_plain [] = All-nil No
fields_plain (n ∷ ns) = All-append No (field n) (flat_map field ns) (All-cons No 32 (decimal n) (λ e. omega arith) (decimal_plain n)) (fields_plain ns)

-- The first line of the 96 bytes is the total line.
pub total_part : (b : Book) (bytes : List ℕ) (n : ℕ) → bytes ≡ total_line b → FirstLine bytes n → take n bytes ≡ total_text b
unfolding total_text
total_part b bytes n e first =
    let ns = fees b ∷ charges b ∷ penalties b ∷ refunds b ∷ [] in
    let text = 84 ∷ flat_map field ns in
    let rest = replicate (96 - length (total_text b)) 32 in
    let parted : bytes ≡ text ++ 10 ∷ rest = e ∙ append_assoc text (10 ∷ []) rest in
    let long = first text rest (All-cons No 84 (flat_map field ns) (λ e1. omega arith) (fields_plain ns)) parted in
    ap (take n) e ∙ take_at (total_text b) rest n (length-append text (10 ∷ []) ∙ sym long)
