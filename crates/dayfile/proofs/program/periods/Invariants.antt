use Rattle.std.proofs.Common.{◌≡◌, vec_items, vec_len}
use Rattle.statements.specs.Lines.{each}
use Rattle.statements.specs.Statement.{statement_of}
use Rattle.dayfile.proofs.program.periods.Given as goal

abbrev pub invariant-loop-period : goal.invariant-loop-period
invariant-loop-period l = (vec_items l.text ≡ each (statement_of l.day.book) l.period) × (vec_len l.page ≡ 24950)
