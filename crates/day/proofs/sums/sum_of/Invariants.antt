use Rattle.std.proofs.Common.{◌≡◌, ℕ, ◌*◌, ◌^◌, ◌<◌, ◌≤◌}
use Rattle.sharing.specs.Places.{upto}
use Rattle.day.proofs.sums.sum_of.Given as goal

abbrev pub invariant-loop-i : goal.invariant-loop-i
invariant-loop-i g l = ((f : ℕ → ℕ) → ((k r : ℕ) → k < l.count → goal.F-post g l.figure k r → r ≡ f k) → l.sum ≡ upto f l.i)
    × ((m : ℕ) → ((k r : ℕ) → k < l.count → goal.F-post g l.figure k r → r ≤ m) → l.sum ≤ m * l.i)
    × (l.sum ≤ 2 ^ 64 * l.i)
