use Rattle.day.specs.Calls.{plan}
use Rattle.day.proofs.Accepted.{plans}
use Rattle.day.proofs.Reach.{grow}
use Rattle.day.proofs.running.RunningDay.plan.Goals as goal

pub invariant_of-self : goal.invariant_of-self
invariant_of-self c = record { reached = grow c.args.period (plan c.args.round c.args.seller c.args.base) c.args.self.now.reached (plans c.args.self.now.book _ _ c.in_ok-at.ensures _ c.period_at-of.ensures _ _ _ c.in_ok-kind.ensures c.in_ok-open_round.ensures.0 c.index.ensures.value _ c.args.base _ c.in_ok-capacity.capacity c.in_ok-i.ensures c.in_ok-capacity.ensures c.in_ok-within_capacity.ensures.0 c.in_ok-not_called.ensures.0) }
