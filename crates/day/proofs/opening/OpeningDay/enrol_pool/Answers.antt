use Rattle.day.specs.Calls.{enrol_pool}
use Rattle.day.proofs.Accepted.{enrols_pool}
use Rattle.day.proofs.Reach.{grow_early}
use Rattle.day.proofs.opening.OpeningDay.enrol_pool.Goals as goal

pub invariant_of-self : goal.invariant_of-self
invariant_of-self c = record { reached = grow_early (enrol_pool c.args.seller c.args.area c.args.capacity) c.args.self.now.reached (enrols_pool _ _ _ _ _ _ c.in_ok-at.ensures c.in_ok-capacity.ensures c.in_ok-within.ensures.0) }

pub returns : goal.returns
returns c = enrols_pool _ _ _ _ _ _ c.in_ok-at.ensures c.in_ok-capacity.ensures c.in_ok-within.ensures.0
