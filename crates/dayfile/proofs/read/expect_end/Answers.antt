use Rattle.std.proofs.Common.{length, MatchResult, sym, refl, subst, arith, eqb-true}
use borrow.Author.Tests.{eqb-false}
use Rattle.records.specs.declared.kind.Stage.TheVariants as s
use Rattle.records.specs.Records.{shown}
use Rattle.dayfile.specs.Files.{ends}
use Rattle.dayfile.specs.Parts.{Stands, Unread}
use Rattle.dayfile.proofs.Records.{unreadable_stops}
use Rattle.dayfile.proofs.read.expect_end.Goals as goal

pub returns-then-is_read : goal.returns-then-is_read
returns-then-is_read c = λ b. ends (omega (arith, eqb-true c.args.file.place (length c.args.file.bytes.now) (sym c.if-is_read.ensures))) refl

pub returns : goal.returns
returns c =
    let f = c.args.file in
    let unread = subst (λ r. MatchResult r (λ x. Stands s.Closed f.bytes.now f.place (shown x)) (Unread s.Closed f.bytes.now f.place)) c.unwrap_err.ensures c.next.ensures in
    λ b. unreadable_stops refl (λ e. eqb-false f.place (length f.bytes.now) (sym c.if-is_read.ensures) e) unread
