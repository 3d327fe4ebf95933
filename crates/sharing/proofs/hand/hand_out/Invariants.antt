use Rattle.std.proofs.Common.{◌≡◌, length}
use Rattle.sharing.specs.Handed.{Apart}
use Rattle.sharing.specs.Places.{total, at_place}
use Rattle.sharing.specs.Waiting.{waiting, room}
use Rattle.sharing.proofs.Serving.{Serving}
use Rattle.sharing.proofs.hand.hand_out.Given as goal

abbrev pub invariant-loop-k : goal.invariant-loop-k
invariant-loop-k g l = let c = g.C.Claim in
    (length l.parts ≡ 64) × (total (at_place l.parts) ≡ l.k) × (room l.list ≡ room l.initial.list)
    × (Apart c.holder (waiting l.initial.list) →
    Serving c.ahead c.holder c.next g.met.C.Claim.ranks g.met.C.Claim.later (waiting l.initial.list) (at_place l.parts) (waiting l.list))
