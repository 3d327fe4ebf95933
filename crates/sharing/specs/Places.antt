-- The places of a row, at most 64: what stands at each, and sums over them. Assumes nothing.
use Rattle.std.specs.Prelude.{ℕ, zero, suc, ◌+◌, Bool, cond, List, map, slice_index}

-- f 0 + f 1 + .. + f (n - 1)
unfoldable pub upto : (ℕ → ℕ) → ℕ → ℕ
upto f zero = 0
upto f (suc n) = upto f n + f n

-- The sum over the 64 places.
abbrev pub total : (ℕ → ℕ) → ℕ
total f = upto f 64

-- One where the test holds, so that a sum counts the places where it does.
abbrev pub one_if : Bool → ℕ
one_if test = cond test 1 0

-- The number that a list has at a place: 0 past its end.
abbrev pub at_place : List ℕ → ℕ → ℕ
at_place xs i = slice_index xs i

-- A figure of what stands at a place: 0 where nothing stands.
abbrev pub by_place : {X : Type 0} → (X → ℕ) → List X → ℕ → ℕ
by_place f xs i = slice_index (map f xs) i
