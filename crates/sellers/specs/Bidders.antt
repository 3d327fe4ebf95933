-- Defines the weight and the curve of a seller of either kind.
use Rattle.std.specs.Prelude.{ℕ, take}
use Rattle.sellers.specs.Steps.{pool_power}
use Rattle.sellers.specs.Tiers.{unit_power}
use Rattle.sellers.specs.declared.bidder.Bidder.{Bidder}
use Rattle.sellers.specs.declared.bidder.Bidder.TheVariants.{Thermal, Pooled}

-- The weight is the capacity, for both kinds.
abbrev pub heft_of : Bidder → ℕ
heft_of (Thermal u) = u.capacity.megawatts
heft_of (Pooled p) = p.capacity.megawatts

-- The curve is that of the unit, or that of the pool's steps.
abbrev pub power_of : Bidder → ℕ → ℕ
power_of (Thermal u) q = unit_power u.capacity.megawatts u.floor.tenths u.base.tenths u.prices.prices q
power_of (Pooled p) q = pool_power (take p.offer.count p.offer.steps) q
