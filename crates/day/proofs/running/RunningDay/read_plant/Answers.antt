use Rattle.day.specs.Calls.{read_plant}
use Rattle.day.proofs.Accepted.{reads_plant}
use Rattle.day.proofs.Reach.{grow}
use Rattle.day.proofs.running.RunningDay.read_plant.Goals as goal

pub invariant_of-self : goal.invariant_of-self
invariant_of-self c = record { reached = grow c.args.period (read_plant c.args.plant c.args.energy) c.args.self.now.reached (reads_plant c.args.self.now.book _ _ c.in_ok-at.ensures _ c.args.energy _ _ c.in_ok-j.ensures c.in_ok-ok_or.ensures.ok_part c.in_ok-readable.ensures.0) }
