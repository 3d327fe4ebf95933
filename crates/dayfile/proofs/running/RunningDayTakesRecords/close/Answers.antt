use Rattle.std.proofs.Common.{Ok, sym, subst}
use Rattle.dayfile.specs.Files.{Takes, day_closes, running, closed, closes_day}
use Rattle.dayfile.proofs.running.RunningDayTakesRecords.close.Goals as goal

pub returns : goal.returns
returns c = subst (λ b. Takes day_closes (running c.args.self.book) (Ok tt) (closed b)) (sym c.close.ensures.book) closes_day
