use Rattle.std.proofs.Common.{Some, sym, subst}
use Rattle.dayfile.specs.Files.{none, ReadFrom, closed}
use Rattle.dayfile.proofs.closed.ClosedDayReadsOn.read_on.Goals as goal

pub returns-in-Ok : goal.returns-in-Ok
returns-in-Ok c = record { place = c.args.file.place; taken = none; stops = c.in-Ok.ensures c.args.self.book }

pub returns-in-Err : goal.returns-in-Err
returns-in-Err c = subst (ReadFrom c.args.file.bytes.now c.args.file.place (closed c.args.self.book) (Some c.in-Err.fault)) (sym c.reached.ensures) (record { place = c.args.file.place; taken = none; stops = c.in-Err.ensures c.args.self.book })
