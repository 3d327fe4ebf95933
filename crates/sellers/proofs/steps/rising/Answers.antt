use Rattle.std.proofs.Common.{rules}
use Rattle.std.proofs.lemmas.Fn.{always_returns_same}
use Rattle.sellers.proofs.Found.{rising_decided}
use Rattle.sellers.proofs.steps.rising.Goals as goal

pub returns : goal.returns
returns c = rising_decided _ _ (c.is_sorted_by_key.ensures.cases (λ s. s.price) (always_returns_same _ _ _ (λ a r f' k. search rules)))
