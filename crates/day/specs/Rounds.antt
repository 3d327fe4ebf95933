-- What a cleared round of a day is. Assumes nothing.
use Rattle.std.specs.Prelude.{◌≡◌, ℕ, ◌<◌, Option}
use Rattle.sharing.specs.Places.{total}
use Rattle.sharing.specs.Shares.{share_of}
use Rattle.clearing.specs.Calls.{Clears, Short}
use Rattle.clearing.specs.Costs.{Cheapest, Settled}

-- The round is cleared by the rules for what the areas want together, and they share what is brought out by their wants.
-- Power falls short exactly where there is less; no rival costs less; no seller would gain, at no lower price.
pub record Stands (weights : ℕ → ℕ) (curves : ℕ → ℕ → ℕ) (wants : ℕ → ℕ) (brought : ℕ) (price : Option ℕ) (calls received : ℕ → ℕ) : Type 0 where
  pub clears : Clears weights curves (total wants) brought price calls
  pub shared : (a : ℕ) → a < 8 → received a ≡ share_of wants brought a
  pub short : Short curves (total wants) brought
  pub cheapest : Cheapest curves calls
  pub settled : Settled curves price calls
