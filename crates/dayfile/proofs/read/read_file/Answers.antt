use Rattle.std.proofs.Common.{Some, sym, ◌∙◌, subst, subst₂}
use Rattle.std.proofs.lemmas.Result.{MatchResult-weaker}
use Rattle.dayfile.specs.Files.{none, Taken, Stops, unopened, opening}
use Rattle.dayfile.proofs.Accounts.{file_law}
use Rattle.dayfile.proofs.Records.{then_read}
use Rattle.dayfile.proofs.read.read_file.Goals as goal

pub returns-in-Ok : goal.returns-in-Ok
returns-in-Ok c =
    let opens = subst (λ b. Taken c.new.result.bytes.now c.new.result.place unopened c.in-Ok.file.place (opening b)) (sym c.open.ensures) c.in-Ok.ensures.0 in
    let run = subst₂ (λ b n. Taken b n unopened c.in-Ok.file.place (opening c.open.result.book)) c.new.ensures.whole c.new.ensures.unread opens in
    let same = c.in-Ok.ensures.1 ∙ c.new.ensures.whole in
    record { read = MatchResult-weaker c.read_on.result c.read_on.ensures (λ _ more. then_read run same more) (λ _ more. then_read run same more); law = file_law }

pub returns-in-Err : goal.returns-in-Err
returns-in-Err c = record { read = record { place = 0; taken = none; stops = subst₂ (λ b n. Stops b n unopened (Some c.in-Err.fault)) c.new.ensures.whole c.new.ensures.unread c.in-Err.ensures }; law = file_law }
