-- A seller as it stands in a round: a place that may be empty, of the rest of a unit or pool. Assumes nothing.
use Rattle.std.specs.Prelude.{ℕ, ◌-◌, Option}
use Rattle.sellers.specs.Bidders.{heft_of, power_of}
use Rattle.sellers.specs.Slots.{slot_heft, slot_power}
use Rattle.sellers.specs.declared.bidder.Bidder.{Bidder}
use Rattle.sellers.specs.declared.rest.Rest.{Rest}

-- What the place weighs, and what it offers at a price or less.
abbrev pub weight_of : Option (Rest Bidder) → ℕ
weight_of = slot_heft (λ r. heft_of r.seller)

abbrev pub curve_of : Option (Rest Bidder) → ℕ → ℕ
curve_of = slot_power (λ r q. power_of r.seller q - r.called)
