use Rattle.std.proofs.Common.{◌-◌, ◌≤◌, length}
use Rattle.std.specs.List.Sorted.{IsPermutation}
use Rattle.std.specs.Slice.Heapsort.{IsHeapWithin}
use Rattle.sharing.specs.Order.{behind}
use Rattle.sharing.proofs.Heaps.{Bulge}
use Rattle.sharing.proofs.sift.rise.Given as goal

abbrev pub invariant-loop-j : goal.invariant-loop-j
invariant-loop-j g l = let lt = behind g.C.Claim.ahead in
    (l.j ≤ length l.initial.s - 1) × IsPermutation l.initial.s l.s × (IsHeapWithin lt l.initial.s 0 (length l.initial.s - 1) → Bulge lt l.s l.j (length l.initial.s))

abbrev pub decreases-loop-j : goal.decreases-loop-j
decreases-loop-j g l = l.j
