-- The offer of a tenth is the one least price that reaches it. Assumes nothing.
use Rattle.std.proofs.Common.{◌≡◌, ℕ, zero, suc, ◌+◌, ◌<◌, ◌≤◌, leb, ap, inl, inr, arith}
use Rattle.std.proofs.lemmas.Bool.{leb-true, leb-false, cond_both, cases_lt}
use Rattle.clearing.specs.Prices.{Least}
use Rattle.clearing.specs.Costs.{first_reaching, offer, Offers}

-- a price such that none below it reaches j is at most the one found
reaching_low : (curve : ℕ → ℕ) (j n q p : ℕ) → ((r : ℕ) → r < p → curve r < j) → p ≤ q + n → p ≤ first_reaching curve j n q
unfolding first_reaching
reaching_low curve j zero q p short far = omega arith
reaching_low curve j (suc n) q p short far =
    cond_both (leb j (curve q)) q (first_reaching curve j n (q + 1)) (λ x. p ≤ x)
    (λ e. elim (cases_lt q p) [ inl lt ↦ omega (arith, short q lt, leb-true j (curve q) e) | inr ge ↦ ge ])
    (λ e. reaching_low curve j n (q + 1) p short (omega arith))

-- a price that reaches j is at least the one found
reaching_high : (curve : ℕ → ℕ) (j n q p : ℕ) → j ≤ curve p → q ≤ p → first_reaching curve j n q ≤ p
unfolding first_reaching
reaching_high curve j zero q p h from = from
reaching_high curve j (suc n) q p h from =
    cond_both (leb j (curve q)) q (first_reaching curve j n (q + 1)) (λ x. x ≤ p)
    (λ e. from)
    (λ e. elim (cases_lt q p) [
      | inl lt ↦ reaching_high curve j n (q + 1) p h (omega arith)
      | inr ge ↦ let same : curve p ≡ curve q = ap curve (omega arith) in omega (arith, leb-false j (curve q) e)
    ])

-- where the last price reaches j, so does the one found
reaching_hits : (curve : ℕ → ℕ) (j n q : ℕ) → j ≤ curve (q + n) → j ≤ curve (first_reaching curve j n q)
unfolding first_reaching
reaching_hits curve j zero q h = let same : curve (q + 0) ≡ curve q = ap curve (omega arith) in omega arith
reaching_hits curve j (suc n) q h =
    cond_both (leb j (curve q)) q (first_reaching curve j n (q + 1)) (λ x. j ≤ curve x)
    (λ e. leb-true j (curve q) e)
    (λ e. let same : curve (q + suc n) ≡ curve (q + 1 + n) = ap curve (omega arith) in reaching_hits curve j n (q + 1) (omega arith))

pub offer_high : (curve : ℕ → ℕ) (j p : ℕ) → j ≤ curve p → offer curve j ≤ p
unfolding offer
offer_high curve j p h = reaching_high curve j 60 0 p h (omega arith)

pub offer_low : (curve : ℕ → ℕ) (j p : ℕ) → p ≤ 60 → ((r : ℕ) → r < p → curve r < j) → p ≤ offer curve j
unfolding offer
offer_low curve j p most short = reaching_low curve j 60 0 p short (omega arith)

pub all_offers : (curve : ℕ → ℕ) → Offers curve
unfolding offer
all_offers curve j h =
    let this : Least curve j (offer curve j) = record {
      within = offer_high curve j 60 h;
      reaches = reaching_hits curve j 60 0 h;
      least = λ q lt. elim (cases_lt (curve q) j) [ inl low ↦ low | inr high ↦ omega (arith, offer_high curve j q high) ];
    } in
    (this, λ q at. omega (arith, offer_low curve j q at.within at.least, offer_high curve j q at.reaches))
