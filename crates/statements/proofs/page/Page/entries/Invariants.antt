use Rattle.std.proofs.Common.{ℕ, ◌*◌}
use Rattle.statements.specs.Lines.{lines_of, Put, Gives}
use Rattle.statements.proofs.page.Page.entries.Given as goal

abbrev pub invariant-loop-number : goal.invariant-loop-number
invariant-loop-number g l = (e : ℕ → _) → Gives (goal.F-post g l.entry) l.number e → Put (g.E.Entry.width * l.number) l.initial.self (lines_of g.E.Entry.text e l.number) l.self
