-- What a pool's steps offer: more at a higher price, and at most all of them.
use Rattle.std.specs.Prelude.{◌≤◌, List}
use Rattle.std.proofs.Common.{arith}
use Rattle.std.proofs.lemmas.List.Sums.{sum_by-le-sum_by}
use Rattle.std.proofs.lemmas.Bool.Decides.{nat_tests}
use Rattle.sellers.specs.Curves.{Lawful}
use Rattle.sellers.specs.Steps.{whole, pool_power}
use Rattle.sellers.specs.declared.step.Step.{Step}

pub pool_lawful : (steps : List Step) → whole steps ≤ 20000 → Lawful (pool_power steps)
pool_lawful steps held = record {
  rises = λ p q below within. sum_by-le-sum_by _ _ steps (λ s. grind (arith, nat_tests));
  capped = let all : pool_power steps 60 ≤ whole steps = sum_by-le-sum_by _ _ steps (λ s. grind (arith, nat_tests)) in omega arith;
}
