-- Lines for each number, one further. Assumes nothing.
use Rattle.std.proofs.Common.{◌≡◌, ℕ, suc, ◌+◌, List, [], ◌++◌, refl, ap, arith}
use Rattle.statements.specs.Lines.{each}

pub each_none : (f : ℕ → List ℕ) → [] ≡ each f 0
unfolding each
each_none f = refl

pub each_more : (f : ℕ → List ℕ) (n : ℕ) → each f (n + 1) ≡ each f n ++ f n
unfolding each
each_more f n = let e : n + 1 ≡ suc n = omega arith in ap (each f) e
