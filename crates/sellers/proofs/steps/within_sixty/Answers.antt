use Rattle.std.proofs.Common.{◌<◌, ◌≤◌, rules, arith}
use Rattle.std.proofs.lemmas.Iterator.{cases_from_all, YieldsList-from_slice}
use borrow.Author.Tests.{tests}
use Rattle.sellers.proofs.Found.{decided}
use Rattle.sellers.proofs.steps.within_sixty.Goals as goal

pub returns : goal.returns
returns c =
    decided (λ s. s.price ≤ 60) (λ s. 60 < s.price) (λ s yes no. omega arith) _ _
    (cases_from_all _ _ _ (λ s. s.price ≤ 60) (λ s. 60 < s.price) c.all.ensures.ran (YieldsList-from_slice c.args.steps.now cc) (λ x q k. search (rules, tests)) (λ x q k. search (rules, tests)))
