use Rattle.std.proofs.Common.{◌≡◌, ◌+◌, ◌≤◌, length}
use Rattle.sharing.specs.Entered.{Rounded}
use Rattle.sharing.specs.Places.{upto, at_place}
use Rattle.sharing.specs.Rows.{weights}
use Rattle.sharing.specs.Shares.{part_of}
use Rattle.sharing.specs.Waiting.{waiting, room}
use Rattle.sharing.proofs.share.round_down.Given as goal

abbrev pub invariant-loop-i : goal.invariant-loop-i
invariant-loop-i g l = let w = weights g.P.Party.heft l.parties in
    Rounded w l.amount l.i (at_place l.parts) (waiting l.list)
    × (upto (part_of w l.amount) l.i + l.left ≡ l.amount) × (length l.parts ≡ 64)
    × (length (waiting l.list) ≤ l.i) × (room l.list ≡ 64)
