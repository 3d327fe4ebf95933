-- Calls at the price cost least, no seller gains by another call, and at a lower price some seller does. Assumes nothing.
use Rattle.std.proofs.Common.{◌≡◌, ℕ, zero, suc, ◌+◌, ◌*◌, ◌<◌, ◌≤◌, Some, None, Option, ap, ◌∙◌, inl, inr, mul_assoc, suc-mul, mul-le-mul_left, mul-suc, arith}
use Rattle.std.proofs.lemmas.Int.{ints}
use Rattle.std.proofs.lemmas.Bool.{cases_lt}
use Rattle.sharing.specs.Places.{total}
use Rattle.sharing.proofs.Sums.{upto_le, upto_add, upto_times, upto_zero, somewhere_less}
use Rattle.sellers.specs.Curves.{Lawful}
use Rattle.clearing.specs.Calls.{under, Priced}
use Rattle.clearing.specs.Costs.{offer, offers, cost, costs, Gains, Cheapest, Settled}
use Rattle.clearing.proofs.Offering.{offer_high, offer_low}

-- past what is offered under p each offer is p or more
dear_past : (curve : ℕ → ℕ) → Lawful curve → (p c : ℕ) → p ≤ 60 → under curve p ≤ c → (j : ℕ) → c < j → p ≤ offer curve j
dear_past curve law zero c most low j past = omega arith
dear_past curve law (suc p) c most low j past = offer_low curve j (suc p) most (λ r lt. omega (arith, law.rises r p (omega arith) (omega arith)))

-- a call of more than c, where past c each offer is p or more
more_called : (curve : ℕ → ℕ) (p c : ℕ) → ((j : ℕ) → c < j → p ≤ offer curve j) → (d : ℕ) → c ≤ d → p * d + offers curve c ≤ p * c + offers curve d
unfolding offers
more_called curve p c dear zero h = let none : c ≡ 0 = omega arith in rw none (omega arith)
more_called curve p c dear (suc d) h =
    elim (cases_lt c (suc d)) [
      | inl lt ↦ omega (arith, more_called curve p c dear d (omega arith), dear (suc d) lt, mul-suc p d)
      | inr ge ↦ let same : c ≡ suc d = omega arith in rw same (omega arith)
    ]

-- a call of less than c, where up to c each offer is p or less
less_called : (curve : ℕ → ℕ) (p d c : ℕ) → ((j : ℕ) → j ≤ c → offer curve j ≤ p) → d ≤ c → p * d + offers curve c ≤ p * c + offers curve d
unfolding offers
less_called curve p d zero cheap h = let none : d ≡ 0 = omega arith in rw none (omega arith)
less_called curve p d (suc c) cheap h =
    elim (cases_lt d (suc c)) [
      | inl lt ↦ omega (arith, less_called curve p d c (λ j at. cheap j (omega arith)) (omega arith), cheap (suc c) (omega arith), mul-suc p c)
      | inr ge ↦ let same : d ≡ suc c = omega arith in rw same (omega arith)
    ]

-- at the price p no other call is better
best_call : (curve : ℕ → ℕ) → Lawful curve → (p c : ℕ) → p ≤ 60 → under curve p ≤ c → c ≤ curve p → (d : ℕ) →
    25 * p * d + cost curve c ≤ 25 * p * c + cost curve d
best_call curve law p c most low high d =
    let best : p * d + offers curve c ≤ p * c + offers curve d = elim (cases_lt d c) [
      | inl lt ↦ less_called curve p d c (λ j h. offer_high curve j p (omega arith)) (omega arith)
      | inr ge ↦ more_called curve p c (dear_past curve law p c most low) d ge
    ] in
    omega (arith, mul_assoc 25 p c, mul_assoc 25 p d)

-- a seller called for more than it offers at r gains at r by a call of what it offers
call_gains : (curve : ℕ → ℕ) → Lawful curve → (r c : ℕ) → r < 60 → curve r < c → Gains r curve c
call_gains curve law r c lt more =
    let fewer = more_called curve (suc r) (curve r) (dear_past curve law (suc r) (curve r) (omega arith) (omega arith)) c (omega arith) in (
      curve r,
      law.rises r 60 (omega arith) (omega arith),
      omega (arith, ints, fewer, suc-mul r c, suc-mul r (curve r), mul_assoc 25 r c, mul_assoc 25 r (curve r)),
    )

cost_none : (curve : ℕ → ℕ) (c : ℕ) → c ≡ 0 → cost curve c ≡ 0
unfolding offers
cost_none curve c e = rw e (omega arith)

pub all_cheapest : (weights : ℕ → ℕ) (curves : ℕ → ℕ → ℕ) → ((i : ℕ) → Lawful (curves i)) → (brought : ℕ) (price : Option ℕ) (calls : ℕ → ℕ) →
    Priced weights curves brought price calls → Cheapest curves calls
all_cheapest weights curves law brought None calls at rival within enough =
    omega (arith, upto_zero (λ i. cost (curves i) (calls i)) 64 (λ i l. cost_none (curves i) (calls i) (at.1 i)))
all_cheapest weights curves law brought (Some p) calls at rival within enough =
    let sides : (ℕ → ℕ) → (ℕ → ℕ) → ℕ → ℕ = λ c d i. 25 * p * d i + cost (curves i) (c i) in
    let sums : (c d : ℕ → ℕ) → total (sides c d) ≡ 25 * p * total d + costs curves c =
    λ c d. upto_add (λ i. 25 * p * d i) (λ i. cost (curves i) (c i)) 64 ∙ ap (λ n. n + costs curves c) (upto_times (25 * p) d 64) in
    let each = upto_le (sides calls rival) (sides rival calls) 64
    (λ i l. best_call (curves i) (law i) p (calls i) at.1.within (at.2.low i) (at.2.high i) (rival i)) in
    omega (arith, sums calls rival, sums rival calls, mul-le-mul_left (25 * p) enough)

pub all_settled : (weights : ℕ → ℕ) (curves : ℕ → ℕ → ℕ) → ((i : ℕ) → Lawful (curves i)) → (brought : ℕ) (price : Option ℕ) (calls : ℕ → ℕ) →
    Priced weights curves brought price calls → Settled curves price calls
all_settled weights curves law brought None calls at = tt
all_settled weights curves law brought (Some p) calls at = (
  λ i other within. omega (arith, ints, best_call (curves i) (law i) p (calls i) at.1.within (at.2.low i) (at.2.high i) other),
  λ r lt.
      let s = somewhere_less (λ i. curves i r) calls 64 (omega (arith, at.1.least r lt, at.2.adds)) in
      (s.0, s.1, call_gains (curves s.0) (law s.0) r (calls s.0) (omega (arith, at.1.within)) s.2),
)
