use Rattle.std.proofs.Common.{◌≡◌, ◌≤◌, length}
use Rattle.sharing.specs.Entered.{Roomed}
use Rattle.sharing.specs.Places.{at_place}
use Rattle.sharing.specs.Rows.{weights}
use Rattle.sharing.specs.Tenths.{takes}
use Rattle.sharing.specs.Waiting.{waiting, room}
use Rattle.sharing.proofs.tenths.enter_rooms.Given as goal

abbrev pub invariant-loop-i : goal.invariant-loop-i
invariant-loop-i g l = let w = weights g.P.Party.heft l.parties in
    Roomed w (takes w (at_place l.rooms)) l.i (waiting l.list) × (length (waiting l.list) ≤ l.i) × (room l.list ≡ 64)
