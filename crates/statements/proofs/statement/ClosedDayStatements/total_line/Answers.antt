use Rattle.std.proofs.Common.{◌≡◌, ◌++◌, length, drop, replicate, ap, ◌∙◌, arith}
use Rattle.std.proofs.lemmas.List.{drop-replicate}
use Rattle.statements.specs.Statement.{total_text}
use Rattle.statements.proofs.Puts.{alone}
use Rattle.statements.proofs.Texts.{total_is}
use Rattle.statements.proofs.statement.ClosedDayStatements.total_line.Goals as goal

pub returns : goal.returns
returns c =
    let b = c.args.self.book in
    let sums = c.totals-totals.ensures in
    let said : c.line.new.self ≡ total_text b = alone c.new-line.ensures c.line.ensures (omega arith) ∙ rw (sums.fees, sums.charges, sums.penalties, sums.refunds) (total_is b) in
    c.copy_to.ensures ∙ (ap (λ l. l ++ drop (length l) (replicate 96 32)) said ∙ ap (λ l. total_text b ++ l) (drop-replicate (length (total_text b)) 96 32))
