use Rattle.day.specs.Calls.{want}
use Rattle.day.proofs.Accepted.{wants}
use Rattle.day.proofs.Reach.{grow}
use Rattle.day.proofs.running.RunningDay.want.Goals as goal

pub invariant_of-self : goal.invariant_of-self
invariant_of-self c = record { reached = grow c.args.period (want c.args.round c.args.area c.args.power) c.args.self.now.reached (wants c.args.self.now.book _ _ c.in_ok-at.ensures _ c.period_at.ensures _ _ _ c.in_ok-kind.ensures c.in_ok-open_round.ensures.0 c.index.ensures.value _ c.args.power _ c.in_ok-a.ensures c.in_ok-tradable.ensures.0) }
