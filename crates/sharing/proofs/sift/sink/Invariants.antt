use Rattle.std.proofs.Common.{◌-◌}
use Rattle.std.specs.List.Sorted.{IsPermutation}
use Rattle.std.specs.Slice.Heapsort.{IsHeapWithin}
use Rattle.sharing.specs.Order.{behind}
use Rattle.sharing.proofs.Heaps.{Hole}
use Rattle.sharing.proofs.sift.sink.Given as goal

abbrev pub invariant-loop-j : goal.invariant-loop-j
invariant-loop-j g l = let lt = behind g.C.Claim.ahead in
    IsPermutation l.initial.s l.s × (IsHeapWithin lt l.initial.s 1 l.end → Hole lt l.s 0 l.j l.end)

abbrev pub decreases-loop-j : goal.decreases-loop-j
decreases-loop-j g l = l.end - l.j
