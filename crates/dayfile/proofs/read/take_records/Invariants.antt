use Rattle.std.proofs.Common.{◌≡◌, ◌-◌, length}
use Rattle.dayfile.specs.Files.{Taken}
use Rattle.dayfile.proofs.read.take_records.Given as goal

abbrev pub invariant-loop-record : goal.invariant-loop-record
invariant-loop-record g l = (l.left.bytes.now ≡ l.file.bytes.now) × Taken l.file.bytes.now l.file.place (g.D.Staged.state l.initial.day) l.left.place (g.D.Staged.state l.day)

abbrev pub decreases-loop-record : goal.decreases-loop-record
decreases-loop-record g l = length l.left.bytes.now - l.left.place
