-- What a share-out is: an amount over parties, by their weights. Assumes nothing.
use Rattle.std.specs.Prelude.{◌≡◌, ℕ, ◌+◌, ◌-◌, ◌*◌, ◌/◌, ◌%◌, ◌<◌, true, cond, ◌⊎◌, ◌==◌, nat_lt}
use Rattle.sharing.specs.Order.{most_first}
use Rattle.sharing.specs.Places.{total, one_if}

module _ (weights : ℕ → ℕ) (amount : ℕ) where
  -- What is due to the party numbered i, rounded down.
  abbrev pub part_of : ℕ → ℕ
  part_of i = amount * weights i / total weights

  -- What the rounding leaves of it.
  abbrev pub left_of : ℕ → ℕ
  left_of i = amount * weights i % total weights

  -- How many are left over once every party has its part.
  abbrev pub odd : ℕ
  odd = amount - total part_of

  -- How many of the 64 parties come before the party i in the order of remainders.
  unfoldable pub ahead_of : ℕ → ℕ
  ahead_of i = total (λ j. one_if (most_first (left_of j) j (left_of i) i))

  -- What the party i gets: its part, and one more where fewer come before it than are left over; nothing where nobody weighs anything.
  unfoldable pub share_of : ℕ → ℕ
  share_of i = cond (total weights == 0) 0 (part_of i + one_if (nat_lt (ahead_of i) odd))

  -- Each party has its part or one more, the shares add up to the amount, and whoever has one more comes before whoever has not.
  pub record SharedOut (shares : ℕ → ℕ) : Type 0 where
    pub adds : total shares ≡ amount
    pub rounded : (i : ℕ) → (shares i ≡ part_of i) ⊎ (shares i ≡ part_of i + 1)
    pub order : (i j : ℕ) → shares i ≡ part_of i + 1 → shares j ≡ part_of j → most_first (left_of i) i (left_of j) j ≡ true

  -- There is no other such share-out.
  abbrev pub OnlyShares : (ℕ → ℕ) → Type 0
  OnlyShares shares = (other : ℕ → ℕ) → SharedOut other → (i : ℕ) → i < 64 → other i ≡ shares i

-- Shares, and what no party carries: all of the amount where nobody weighs anything, and else nothing.
pub record Shared (weights : ℕ → ℕ) (amount : ℕ) (shares : ℕ → ℕ) (uncarried : ℕ) : Type 0 where
  pub carried : 0 < total weights → SharedOut weights amount shares × (uncarried ≡ 0)
  pub weightless : total weights ≡ 0 → ((i : ℕ) → shares i ≡ 0) × (uncarried ≡ amount)
