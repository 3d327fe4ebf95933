use Rattle.std.proofs.Common.{ap, ◌∙◌}
use Rattle.sharing.specs.Places.{total, by_place}
use Rattle.sharing.proofs.Sums.{itself}
use Rattle.day.proofs.rounds.wanted.Goals as goal

pub returns : goal.returns
returns c = c.total.ensures ∙ ap (λ l. total (by_place (λ x. x) l)) c.from.ensures ∙ ap total (itself c.args.wants.now)
