-- Rows of sellers that are alike are cleared in just one way. Assumes nothing.
use Rattle.std.proofs.Common.{◌≡◌, ℕ, zero, suc, ◌+◌, ◌-◌, ◌<◌, ◌≤◌, min, Some, None, Option, sym, refl, ap, ◌∙◌, inl, inr, arith}
use Rattle.std.proofs.lemmas.Bool.{cases_lt}
use Rattle.sharing.specs.Places.{total}
use Rattle.sharing.proofs.Sums.{upto_same, upto_add}
use Rattle.sharing.proofs.OneHanding.{alike_handing}
use Rattle.clearing.specs.Prices.{Least, offered}
use Rattle.clearing.specs.Calls.{under, at_price, CalledAt, Priced, Clears, Alike, OnlyAnswer}

-- the least price is one, and hangs on what is offered at the prices 0 to 60
one_least : (f g : ℕ → ℕ) (amount p q : ℕ) → ((r : ℕ) → r ≤ 60 → f r ≡ g r) → Least f amount p → Least g amount q → p ≡ q
one_least f g amount p q same at at' =
    elim (cases_lt p q) [
      | inl lt ↦ omega (arith, at'.least p lt, same p at.within)
      | inr ge ↦ elim (cases_lt q p) [ inl lt ↦ omega (arith, at.least q lt, same q at'.within) | inr le ↦ omega arith ]
    ]

same_under : (f g : ℕ → ℕ) → ((q : ℕ) → q ≤ 60 → f q ≡ g q) → (p : ℕ) → p ≤ 60 → under f p ≡ under g p
same_under f g same zero most = refl
same_under f g same (suc p) most = same p (omega arith)

-- what goes out at the price, and what goes out below it
two_parts : (weights : ℕ → ℕ) (curves : ℕ → ℕ → ℕ) (p brought : ℕ) (calls : ℕ → ℕ) → CalledAt weights curves p brought calls →
    total (λ i. calls i - under (curves i) p) + total (λ i. under (curves i) p) ≡ brought
two_parts weights curves p brought calls at =
    sym (upto_add (λ i. calls i - under (curves i) p) (λ i. under (curves i) p) 64) ∙
    upto_same (λ i. calls i - under (curves i) p + under (curves i) p) calls 64 (λ i l. omega (arith, at.low i)) ∙ at.adds

module _ (weights weights' : ℕ → ℕ) (curves curves' : ℕ → ℕ → ℕ) (alike : Alike weights weights' curves curves') where
  same_offered : (q : ℕ) → q ≤ 60 → offered curves q ≡ offered curves' q
  same_offered q most = upto_same (λ i. curves i q) (λ i. curves' i q) 64 (λ i l. alike.offer i q l most)

  same_calls : (p brought : ℕ) (calls calls' : ℕ → ℕ) → p ≤ 60 →
      CalledAt weights curves p brought calls → CalledAt weights' curves' p brought calls' → (i : ℕ) → i < 64 → calls i ≡ calls' i
  same_calls p brought calls calls' most at at' i l =
      let below : (i : ℕ) → i < 64 → under (curves i) p ≡ under (curves' i) p = λ i l. same_under (curves i) (curves' i) (λ q. alike.offer i q l) p most in
      let sums = upto_same (λ i. under (curves i) p) (λ i. under (curves' i) p) 64 below in
      let handed = alike_handing weights weights' (λ i. at_price (curves i) p) (λ i. at_price (curves' i) p)
      (λ i. calls i - under (curves i) p) (λ i. calls' i - under (curves' i) p)
      alike.weigh (λ i l. omega (arith, below i l, alike.offer i p l most)) at.fair at'.fair
      (omega (arith, two_parts weights curves p brought calls at, two_parts weights' curves' p brought calls' at')) i l in
      omega (arith, below i l, at.low i, at'.low i)

  same_priced : (brought : ℕ) (price price' : Option ℕ) (calls calls' : ℕ → ℕ) →
      Priced weights curves brought price calls → Priced weights' curves' brought price' calls' →
      (price ≡ price') × ((i : ℕ) → i < 64 → calls i ≡ calls' i)
  same_priced brought None None calls calls' at at' = (refl, λ i l. at.1 i ∙ sym (at'.1 i))
  same_priced brought None (Some p) calls calls' at at' = absurd (omega arith)
  same_priced brought (Some p) None calls calls' at at' = absurd (omega arith)
  same_priced brought (Some p) (Some q) calls calls' at at' =
      let e = one_least (offered curves) (offered curves') brought p q same_offered at.1 at'.1 in
      (ap Some e, same_calls p brought calls calls' at.1.within at.2 (rw e at'.2))

pub all_only : (weights : ℕ → ℕ) (curves : ℕ → ℕ → ℕ) (wanted brought : ℕ) (price : Option ℕ) (calls : ℕ → ℕ) →
    Clears weights curves wanted brought price calls → OnlyAnswer weights curves wanted brought price calls
all_only weights curves wanted brought price calls clears weights' curves' brought' price' calls' alike clears' =
    let same : brought ≡ brought' = clears.brings ∙ ap (min wanted) (same_offered weights weights' curves curves' alike 60 (omega arith)) ∙ sym clears'.brings in
    let rest = same_priced weights weights' curves curves' alike brought price price' calls calls' clears.priced (rw same clears'.priced) in
    (same, rest.0, rest.1)
