use Rattle.std.proofs.lemmas.Result.{err_from_is_err_and}
use Rattle.day.specs.Calls.{offer_pool}
use Rattle.day.proofs.Accepted.{offers_pool, refuses_steps}
use Rattle.day.proofs.Reach.{grow_early}
use Rattle.day.proofs.opening.OpeningDay.offer_pool.Goals as goal

pub invariant_of-self : goal.invariant_of-self
invariant_of-self c = record { reached = grow_early (offer_pool c.args.seller c.args.steps.now) c.args.self.now.reached (offers_pool c.args.self.now.book c.args.seller c.in_ok-at.at c.in_ok-at.who c.in_ok-at.ensures _ _ c.in-Pooled.is _ c.in_ok-new.ensures.made) }

pub returns : goal.returns
returns c = offers_pool c.args.self.now.book c.args.seller c.in_ok-at.at c.in_ok-at.who c.in_ok-at.ensures _ _ c.in-Pooled.is _ c.in_ok-new.ensures.made

pub returns-in_err-new : goal.returns-in_err-new
returns-in_err-new c =
    let p = err_from_is_err_and c.from_residual-in_err-new.result c.from_residual-in_err-new.ensures.1 in
    rw (p.1, p.2) (refuses_steps c.args.self.now.book c.args.seller c.in_ok-at.at c.in_ok-at.who c.in_ok-at.ensures _ _ c.in-Pooled.is _ c.in_err-new.ensures.refused)
