-- What waits once each party's first claim has been entered, party by party. Assumes nothing.
use Rattle.std.specs.Prelude.{◌≡◌, ℕ, ◌+◌, ◌<◌, List, All, Contains}
use Rattle.sharing.specs.Handed.{Apart}
use Rattle.sharing.specs.Shares.{part_of, left_of}
use Rattle.sharing.specs.declared.fraction.Fraction.{Fraction}
use Rattle.sharing.specs.declared.remainder.Remainder.{Remainder}

-- Only the first n parties wait, none of them twice.
pub record Below {C : Type 0} (holder : C → ℕ) (n : ℕ) (waits : List C) : Type 0 where
  pub apart : Apart holder waits
  pub inside : All (λ c. holder c < n) waits

-- Of the first n parties, each that has room waits for its first tenth, and nobody else waits.
pub record Roomed (weights rooms : ℕ → ℕ) (n : ℕ) (waits : List Fraction) : Type 0 where
  pub claims : (i : ℕ) → i < n → 0 < rooms i → (c : Fraction) × Contains waits c × (c.had ≡ 0) × (c.weight ≡ weights i) × (c.room ≡ rooms i) × (c.number ≡ i)
  pub below : Below (λ c. c.number) n waits
  pub roomy : All (λ c. 0 < rooms c.number) waits

-- Each of the first n parties has its part and waits for one more by its remainder; the others have nothing.
pub record Rounded (weights : ℕ → ℕ) (amount n : ℕ) (parts : ℕ → ℕ) (waits : List Remainder) : Type 0 where
  pub given : (i : ℕ) → i < n → parts i ≡ part_of weights amount i
  pub past : (i : ℕ) → n < i + 1 → parts i ≡ 0
  pub claims : (i : ℕ) → i < n → (c : Remainder) × Contains waits c × (c.part ≡ left_of weights amount i) × (c.number ≡ i)
  pub below : Below (λ c. c.number) n waits
