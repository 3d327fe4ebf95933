-- Defines what a seller's curve and weight have to be.
use Rattle.std.specs.Prelude.{ℕ, ◌≤◌}

-- A curve never offers less at a higher price up to 60, and offers at most 20,000 tenths at 60.
pub record Lawful (curve : ℕ → ℕ) : Type 0 where
  pub rises : (p q : ℕ) → p ≤ q → q ≤ 60 → curve p ≤ curve q
  pub capped : curve 60 ≤ 20000

-- A weight is a capacity of 1 to 2000 megawatts.
pub record Weighs (weight : ℕ) : Type 0 where
  pub some : 1 ≤ weight
  pub most : weight ≤ 2000
