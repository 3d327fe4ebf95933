-- Defines what a pool's steps have to be, and the power that they offer.
use Rattle.std.specs.Prelude.{ℕ, ◌+◌, ◌*◌, ◌<◌, ◌≤◌, cond, List, length, sum_by, nat_le, slice_index_or}
use Rattle.sellers.specs.declared.step.Step.{Step}

-- What is read past the last step.
abbrev pub no_step : Step
no_step = record { price = 0; power = 0 }

-- There are one to eight steps.
abbrev pub Counted : List Step → Type 0
Counted steps = (1 ≤ length steps) × (length steps ≤ 8)

-- No price is above 60.
abbrev pub Priced : List Step → Type 0
Priced steps = (k : ℕ) → k < length steps → (slice_index_or steps k no_step).price ≤ 60

-- No price is below the one before it.
abbrev pub Rising : List Step → Type 0
Rising steps = (k : ℕ) → k + 1 < length steps → (slice_index_or steps k no_step).price ≤ (slice_index_or steps (k + 1) no_step).price

-- No step is of power 0.
abbrev pub Filled : List Step → Type 0
Filled steps = (k : ℕ) → k < length steps → 1 ≤ (slice_index_or steps k no_step).power

-- The power of all steps together.
abbrev pub whole : List Step → ℕ
whole steps = sum_by (λ s. s.power) steps

-- No step is of power 0, and together they are at most ten times the capacity.
abbrev pub Powered : ℕ → List Step → Type 0
Powered capacity steps = Filled steps × (whole steps ≤ 10 * capacity)

-- What a pool offers at q or less: the power of the steps priced so.
abbrev pub pool_power : List Step → ℕ → ℕ
pool_power steps q = sum_by (λ s. cond (nat_le s.price q) s.power 0) steps
