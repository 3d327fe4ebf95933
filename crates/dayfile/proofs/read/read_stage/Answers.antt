use Rattle.std.proofs.lemmas.Result.{MatchResult-weaker}
use Rattle.dayfile.proofs.Records.{stage_closed, then_read}
use Rattle.dayfile.proofs.read.read_stage.Goals as goal

pub returns-in-Ok : goal.returns-in-Ok
returns-in-Ok g c =
    let run = stage_closed c.in-Ok.ensures (g.met.D.TakesRecords.at_stage c.take_records.new.day) c.close.ensures in
    MatchResult-weaker c.read_on.result c.read_on.ensures (λ _ more. then_read run.0 run.1 more) (λ _ more. then_read run.0 run.1 more)
