-- What it is to hand tenths out by the fraction rule. Assumes nothing.
use Rattle.std.specs.Prelude.{◌≡◌, ℕ, ◌<◌, ◌≤◌, true, cond, nat_lt}
use Rattle.sharing.specs.Order.{least_first}
use Rattle.sharing.specs.Places.{total}

-- How many tenths each party can take: what it has room for, and none where it weighs nothing.
abbrev pub takes : (ℕ → ℕ) → (ℕ → ℕ) → ℕ → ℕ
takes weights rooms i = cond (nat_lt 0 (weights i)) (rooms i) 0

-- The parties have room for so many tenths, and were given so many: the first of all claims j / weight with 1 ≤ j ≤ room.
-- Whoever has had a j-th tenth stands before whoever could still have a k-th, by the fractions and then by number.
pub record ByFraction (weights rooms given : ℕ → ℕ) : Type 0 where
  pub within : (i : ℕ) → given i ≤ rooms i
  pub order : (a b j k : ℕ) → 0 < j → j ≤ given a → given b < k → k ≤ rooms b → least_first j (weights a) a k (weights b) b ≡ true

-- There is no other way to hand out as many.
abbrev pub OnlyTenths : (ℕ → ℕ) → (ℕ → ℕ) → (ℕ → ℕ) → Type 0
OnlyTenths weights rooms given = (other : ℕ → ℕ) → ByFraction weights rooms other → total other ≡ total given → (i : ℕ) → i < 64 → other i ≡ given i
