-- The price of a round: what its sellers offer together, and the least price at which that suffices. Assumes nothing.
use Rattle.std.specs.Prelude.{ℕ, ◌<◌, ◌≤◌, List, map, slice_index_or}
use Rattle.sharing.specs.Places.{total}
use Rattle.sharing.specs.declared.row.Row.{Row}

-- The curve of each of the sellers, by its number: nothing is offered where nobody stands.
abbrev pub curves_at : {S : Type 0} → (S → ℕ → ℕ) → List S → ℕ → ℕ → ℕ
curves_at power sellers i = slice_index_or (map power sellers) i (λ _. 0)

-- The same of a row.
abbrev pub curves : {S : Type 0} → (S → ℕ → ℕ) → Row S → ℕ → ℕ → ℕ
curves power row = curves_at power row.items.now

-- What all sellers together offer at a price or less.
abbrev pub offered : (ℕ → ℕ → ℕ) → ℕ → ℕ
offered powers q = total (λ i. powers i q)

-- p is the least price, of 0 to 60, at which what is offered reaches an amount.
pub record Least (offer : ℕ → ℕ) (amount p : ℕ) : Type 0 where
  pub within : p ≤ 60
  pub reaches : amount ≤ offer p
  pub least : (q : ℕ) → q < p → offer q < amount
