use Rattle.std.proofs.Common.{◌≡◌, ℕ, ◌*◌, ◌^◌, ◌<◌, ◌≤◌}
use Rattle.sharing.specs.Places.{upto}
use Rattle.day.proofs.sums.in_day.Given as goal

abbrev pub invariant-loop-period : goal.invariant-loop-period
invariant-loop-period g l = ((f : ℕ → ℕ → ℕ) → ((p i r : ℕ) → p < 96 → i < l.parties → goal.F-post g l.figure p i r → r ≡ f p i) → l.sum ≡ upto (λ p. upto (f p) l.parties) l.period-counter)
    × ((m : ℕ) → ((p i r : ℕ) → p < 96 → i < l.parties → goal.F-post g l.figure p i r → r ≤ m) → l.sum ≤ m * l.parties * l.period-counter)
    × (l.sum ≤ 2 ^ 64 * 255 * l.period-counter)
