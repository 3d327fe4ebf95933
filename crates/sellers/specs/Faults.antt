-- Defines the number of each fault, and which fault an offer has.
use Rattle.std.specs.Prelude.{ℕ, List, Some, None, Option}
use Rattle.sellers.specs.Steps.{Counted, Priced, Rising, Powered}
use Rattle.sellers.specs.Tiers.{Capped, Ordered}
use Rattle.sellers.specs.declared.fault.OfferFault.{OfferFault}
use Rattle.sellers.specs.declared.fault.OfferFault.TheVariants.{StepCount, PriceAboveCap, PriceFalls, StepPower}
use Rattle.sellers.specs.declared.step.Step.{Step}

-- The number that a refusal for this fault has.
abbrev pub fault_number : OfferFault → ℕ
fault_number StepCount = 8
fault_number PriceAboveCap = 9
fault_number PriceFalls = 10
fault_number StepPower = 11

-- The fault of an offer by four tests, the failed one with the lowest number: its count, its prices' caps, their order, its powers.
abbrev pub FirstFault : Type 0 → Type 0 → Type 0 → Type 0 → Option OfferFault → Type 0
FirstFault Count Caps Order Powers None = Count × Caps × Order × Powers
FirstFault Count Caps Order Powers (Some StepCount) = Count → ⊥
FirstFault Count Caps Order Powers (Some PriceAboveCap) = Count × (Caps → ⊥)
FirstFault Count Caps Order Powers (Some PriceFalls) = Count × Caps × (Order → ⊥)
FirstFault Count Caps Order Powers (Some StepPower) = Count × Caps × Order × (Powers → ⊥)

-- The fault of a unit's prices, or none: there are always eight, and no powers.
abbrev pub TiersFault : List ℕ → Option OfferFault → Type 0
TiersFault prices = FirstFault (Unit {0}) (Capped prices) (Ordered prices) (Unit {0})

-- The fault of a pool's steps under its capacity, or none.
abbrev pub StepsFault : ℕ → List Step → Option OfferFault → Type 0
StepsFault capacity steps = FirstFault (Counted steps) (Priced steps) (Rising steps) (Powered capacity steps)
