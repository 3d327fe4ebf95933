use Rattle.day.specs.Calls.{enrol_plant}
use Rattle.day.proofs.Accepted.{enrols_plant}
use Rattle.day.proofs.Reach.{grow_early}
use Rattle.day.proofs.opening.OpeningDay.enrol_plant.Goals as goal

pub invariant_of-self : goal.invariant_of-self
invariant_of-self c = record { reached = grow_early (enrol_plant c.args.plant c.args.area) c.args.self.now.reached (enrols_plant _ _ _ _ c.in_ok-within.ensures.0 c.in_ok-at.ensures c.in_ok-vacant.ensures.0) }
