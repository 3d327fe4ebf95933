use Rattle.std.proofs.Common.{rules, ap, ◌∙◌}
use Rattle.day.specs.Bills.{plan_in, reading_in}
use Rattle.day.proofs.Units.{plan_read, reading_read}
use Rattle.day.proofs.closed.ClosedDay.output.Goals as goal

pub returns : goal.returns
returns c =
    let b = c.args.self.now.book in
    let q = c.period-of.result in
    let at = c.from-i.ensures in (
      search rules,
      c.reading.ensures ∙ ap (reading_in q) at ∙ reading_read b c.args.period c.args.seller q c.period-of.ensures,
      c.plan.ensures.value ∙ ap (plan_in q) at ∙ plan_read b c.args.period c.args.seller q c.period-of.ensures,
    )
