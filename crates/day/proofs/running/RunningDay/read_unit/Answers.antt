use Rattle.day.specs.Calls.{read_unit}
use Rattle.day.proofs.Accepted.{reads_unit}
use Rattle.day.proofs.Reach.{grow}
use Rattle.day.proofs.running.RunningDay.read_unit.Goals as goal

pub invariant_of-self : goal.invariant_of-self
invariant_of-self c = record { reached = grow c.args.period (read_unit c.args.seller c.args.energy) c.args.self.now.reached (reads_unit c.args.self.now.book _ _ c.in_ok-at.ensures _ c.period_at.ensures _ c.args.energy _ c.in_ok-i.ensures c.in_ok-unit_at.ensures.0 c.in_ok-settled.ensures.0 c.in_ok-readable.ensures.0) }
