-- How a statement is written: fields, lines, lines for each number, and what it means that a text is put on a page. Assumes nothing.
use Rattle.std.specs.Prelude.{◌≡◌, ℕ, zero, suc, ◌+◌, ◌<◌, ◌≤◌, cond, List, [], ◌∷◌, ◌++◌, length, drop, decimal, nat_lt}
use Rattle.std.specs.List.{flat_map}

-- A field: a space and a decimal number.
abbrev pub field : ℕ → List ℕ
field n = 32 ∷ decimal n

-- A line: its letter, its fields, a line feed.
abbrev pub line : ℕ → List ℕ → List ℕ
line letter fields = letter ∷ (flat_map field fields ++ 10 ∷ [])

-- A text that stands only where a number is above 0.
abbrev pub where_above : ℕ → List ℕ → List ℕ
where_above n text = cond (nat_lt 0 n) text []

-- A text for each number below n, in rising number.
unfoldable pub each : (ℕ → List ℕ) → ℕ → List ℕ
each f zero = []
each f (suc n) = each f n ++ f n

-- A text of so many bytes at most, put on a page, which is as long as the longest statement: where it fits, what was written before it stays, and the text follows.
pub record Put (most : ℕ) (old text new : List ℕ) : Type 0 where
  pub short : length text ≤ most
  pub written : length old + length text ≤ 24950 → new ≡ old ++ text

-- The lines of the entries of the numbers below n, in rising number.
abbrev pub lines_of : {X : Type 0} → (X → List ℕ) → (ℕ → X) → ℕ → List ℕ
lines_of text entry n = each (λ i. text (entry i)) n

-- All that is given to a number below n is its entry.
abbrev pub Gives : {X : Type 0} → (ℕ → X → Type 0) → ℕ → (ℕ → X) → Type 0
Gives {X} given n entry = (i : ℕ) (x : X) → i < n → given i x → x ≡ entry i

-- A text given into a buffer that it fits: its length is answered, and the bytes after it stay.
abbrev pub Given : List ℕ → List ℕ → ℕ → List ℕ → Type 0
Given text old n new = (n ≡ length text) × (length text ≤ length old) × (new ≡ text ++ drop (length text) old)
