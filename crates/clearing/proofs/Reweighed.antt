-- The weight of a seller that offers nothing has no say. Assumes nothing.
use Rattle.std.proofs.Common.{◌≡◌, ℕ, ◌<◌, Some, None, Option, sym, ◌∙◌, arith}
use Rattle.sharing.specs.Order.{least_first}
use Rattle.sharing.specs.Tenths.{ByFraction}
use Rattle.clearing.specs.Calls.{at_price, Priced, Clears}

module _ (weights weights' : ℕ → ℕ) where
  same_rule : (rooms given : ℕ → ℕ) → ((i : ℕ) → 0 < rooms i → weights i ≡ weights' i) → ByFraction weights rooms given → ByFraction weights' rooms given
  same_rule rooms given same fair = record {
    within = fair.within;
    order = λ a b j k j0 ja kb kr.
        let u = same a (let w = fair.within a in omega arith) in
        let v = same b (omega arith) in
        sym (λ t. least_first j (u t) a k (v t) b) ∙ fair.order a b j k j0 ja kb kr;
  }

  module _ (curves : ℕ → ℕ → ℕ) (same : (i q : ℕ) → 0 < curves i q → weights i ≡ weights' i) where
    same_priced : (brought : ℕ) (price : Option ℕ) (calls : ℕ → ℕ) → Priced weights curves brought price calls → Priced weights' curves brought price calls
    same_priced brought None calls at = at
    same_priced brought (Some p) calls at = (
      at.0,
      at.1,
      record {
        low = at.2.low;
        high = at.2.high;
        adds = at.2.adds;
        fair = same_rule (λ i. at_price (curves i) p) _ (λ i some. same i p (omega arith)) at.2.fair;
      },
    )

    pub reweighed : (wanted brought : ℕ) (price : Option ℕ) (calls : ℕ → ℕ) → Clears weights curves wanted brought price calls → Clears weights' curves wanted brought price calls
    reweighed wanted brought price calls at = record { brings = at.brings; priced = same_priced brought price calls at.priced }
