-- Defines the weight and the curve of a place that may stand empty.
use Rattle.std.specs.Option.{option_map_or}
use Rattle.std.specs.Prelude.{ℕ, Option}

-- The weight of whoever stands there, and 1 where nobody does: the least that there is.
abbrev pub slot_heft : {S : Type 0} → (S → ℕ) → Option S → ℕ
slot_heft heft place = option_map_or heft place 1

-- The curve of whoever stands there; nothing is offered where nobody does.
abbrev pub slot_power : {S : Type 0} → (S → ℕ → ℕ) → Option S → ℕ → ℕ
slot_power power place q = option_map_or (λ s. power s q) place 0
