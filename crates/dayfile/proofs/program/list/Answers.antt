use Rattle.std.proofs.Common.{◌++◌, ap, ◌∙◌}
use Rattle.std.proofs.lemmas.Slice.{pushed}
use Rattle.statements.specs.Lines.{each}
use Rattle.statements.specs.Statement.{statement_of}
use Rattle.dayfile.proofs.Feeds.{total_part}
use Rattle.dayfile.proofs.program.list.Goals as goal

pub returns : goal.returns
returns c =
    let b = c.args.day.book in
    pushed _ c.in_ok-text.ensures c.in_ok-extend_from_slice.was c.extend_from_slice.ensures.items
    ∙ ap (λ l. each (statement_of b) 96 ++ l) (total_part b c.total_line-total.result c.first_line-long.result c.total_line-total.ensures c.first_line-long.ensures.line)
