use Rattle.day.specs.Calls.{enrol_unit}
use Rattle.day.proofs.Accepted.{enrols_unit}
use Rattle.day.proofs.Reach.{grow_early}
use Rattle.day.proofs.opening.OpeningDay.enrol_unit.Goals as goal

pub invariant_of-self : goal.invariant_of-self
invariant_of-self c = record { reached = grow_early (enrol_unit c.args.seller c.args.area c.args.capacity c.args.floor) c.args.self.now.reached (enrols_unit _ _ _ _ _ _ c.in_ok-at.ensures c.in_ok-capacity.ensures c.in_ok-within.ensures.0 _ _ c.in_ok-floor.ensures) }

pub returns : goal.returns
returns c = enrols_unit _ _ _ _ _ _ c.in_ok-at.ensures c.in_ok-capacity.ensures c.in_ok-within.ensures.0 _ _ c.in_ok-floor.ensures
