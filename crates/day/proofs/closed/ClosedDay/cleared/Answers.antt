use Rattle.std.proofs.Common.{◌∙◌}
use Rattle.day.proofs.closed.ClosedDay.cleared.Goals as goal

pub returns : goal.returns
returns c = c.cleared_in.ensures ∙ (λ t. c.period.ensures.clearings t c.args.round)
