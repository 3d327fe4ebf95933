-- An offer has one answer: two faults of it, or a fault and none, are the same.
use Rattle.std.proofs.Common.{◌≡◌, ℕ, List, Some, None, Option, refl}
use Rattle.sellers.specs.Faults.{FirstFault, TiersFault, StepsFault}
use Rattle.sellers.specs.Steps.{Counted, Priced, Rising, Powered}
use Rattle.sellers.specs.Tiers.{Capped, Ordered}
use Rattle.sellers.specs.declared.fault.OfferFault.{OfferFault}
use Rattle.sellers.specs.declared.fault.OfferFault.TheVariants.{StepCount, PriceAboveCap, PriceFalls, StepPower}
use Rattle.sellers.specs.declared.step.Step.{Step}

module _ (A B C D : Type 0) where
  pub fault_only : (a b : Option OfferFault) → FirstFault A B C D a → FirstFault A B C D b → a ≡ b
  fault_only (Some StepCount) (Some StepCount) x y = refl
  fault_only (Some StepCount) (Some PriceAboveCap) x y = absurd (x y.0)
  fault_only (Some StepCount) (Some PriceFalls) x y = absurd (x y.0)
  fault_only (Some StepCount) (Some StepPower) x y = absurd (x y.0)
  fault_only (Some StepCount) None x y = absurd (x y.0)
  fault_only (Some PriceAboveCap) (Some StepCount) x y = absurd (y x.0)
  fault_only (Some PriceAboveCap) (Some PriceAboveCap) x y = refl
  fault_only (Some PriceAboveCap) (Some PriceFalls) x y = absurd (x.1 y.1)
  fault_only (Some PriceAboveCap) (Some StepPower) x y = absurd (x.1 y.1)
  fault_only (Some PriceAboveCap) None x y = absurd (x.1 y.1)
  fault_only (Some PriceFalls) (Some StepCount) x y = absurd (y x.0)
  fault_only (Some PriceFalls) (Some PriceAboveCap) x y = absurd (y.1 x.1)
  fault_only (Some PriceFalls) (Some PriceFalls) x y = refl
  fault_only (Some PriceFalls) (Some StepPower) x y = absurd (x.2 y.2)
  fault_only (Some PriceFalls) None x y = absurd (x.2 y.2)
  fault_only (Some StepPower) (Some StepCount) x y = absurd (y x.0)
  fault_only (Some StepPower) (Some PriceAboveCap) x y = absurd (y.1 x.1)
  fault_only (Some StepPower) (Some PriceFalls) x y = absurd (y.2 x.2)
  fault_only (Some StepPower) (Some StepPower) x y = refl
  fault_only (Some StepPower) None x y = absurd (x.3 y.3)
  fault_only None (Some StepCount) x y = absurd (y x.0)
  fault_only None (Some PriceAboveCap) x y = absurd (y.1 x.1)
  fault_only None (Some PriceFalls) x y = absurd (y.2 x.2)
  fault_only None (Some StepPower) x y = absurd (y.3 x.3)
  fault_only None None x y = refl

pub tiers_fault_only : (prices : List ℕ) (a b : Option OfferFault) → TiersFault prices a → TiersFault prices b → a ≡ b
tiers_fault_only prices = fault_only (Unit {0}) (Capped prices) (Ordered prices) (Unit {0})

pub steps_fault_only : (capacity : ℕ) (steps : List Step) (a b : Option OfferFault) → StepsFault capacity steps a → StepsFault capacity steps b → a ≡ b
steps_fault_only capacity steps = fault_only (Counted steps) (Priced steps) (Rising steps) (Powered capacity steps)
