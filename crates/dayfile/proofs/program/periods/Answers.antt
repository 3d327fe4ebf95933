use Rattle.std.proofs.Common.{◌++◌, sym, ap, ◌∙◌, arith}
use Rattle.statements.specs.Lines.{each}
use Rattle.statements.specs.Statement.{statement_of}
use Rattle.statements.proofs.Groups.{each_none, each_more}
use Rattle.dayfile.proofs.program.periods.Goals as goal

pub loop-period-init : goal.loop-period-init
loop-period-init c = (c.new-text.ensures.items ∙ each_none (statement_of c.args.day.now.book), c.in_ok-page.ensures.len)

pub loop-period-preserved : goal.loop-period-preserved
loop-period-preserved c =
    let text = statement_of c.args.day.now.book in
    let p = c.loop-period.period in
    (c.in_ok-add_period.ensures ∙ (ap (λ l. l ++ text p) c.loop-period.invariant.0 ∙ sym (each_more text p)), c.loop-period.invariant.1)

pub returns : goal.returns
returns c = c.loop-period.invariant.0 ∙ ap (each (statement_of c.args.day.now.book)) (omega arith)
