use Rattle.std.proofs.Common.{ℕ, sym, subst, arith}
use Rattle.day.specs.Calls.{clear}
use Rattle.day.specs.Reading.{plan_at}
use Rattle.day.proofs.Accepted.{clears}
use Rattle.day.proofs.OneProof.{ran_sound}
use Rattle.day.proofs.Soundness.{AtMost, base_low}
use Rattle.day.proofs.Reach.{grow}
use Rattle.day.proofs.running.RunningDay.clear.Goals as goal

pub invariant_of-self : goal.invariant_of-self
invariant_of-self c = record { reached = grow c.args.period (clear c.args.round) c.args.self.now.reached (clears c.args.self.now.book _ _ c.in_ok-at.ensures _ c.period_at-of.ensures _ _ _ c.in_ok-kind.ensures c.in_ok-open_round.ensures.0 c.index.ensures.value _ c.clear-cleared.ensures) }

pub returns : goal.returns
returns c = clears c.args.self.now.book _ _ c.in_ok-at.ensures _ c.period_at-of.ensures _ _ _ c.in_ok-kind.ensures c.in_ok-open_round.ensures.0 c.index.ensures.value _ c.clear-cleared.ensures

pub invariant_of-round : goal.invariant_of-round
invariant_of-round c = record { all = omega arith; low = base_low _ _ (subst (λ q. (k i : ℕ) → AtMost 20000 (plan_at q k i)) (sym c.period_at-of.ensures) ((ran_sound c.args.self.now.reached).2 c.in_ok-at.at)) _ }
