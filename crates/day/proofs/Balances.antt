-- A day's fees equal its charges and its penalties its refunds; no area's plants are charged by another's readings.
use Rattle.std.proofs.Common.{◌≡◌, ℕ, ◌+◌, ◌*◌, ◌<◌, false, cond, eqb, Some, None, Option, sym, refl, ap, ◌∙◌, arith}
use Rattle.std.proofs.lemmas.Bool.{cases_lt, cases_eq, cond-true, cond-false, eq-eqb, ne_eqb}
use Rattle.std.proofs.lemmas.Bool.Decides.{nat_tests}
use Rattle.sharing.specs.Places.{upto, total}
use Rattle.sharing.specs.Shares.{share_of}
use Rattle.sharing.proofs.Sums.{cases, upto_same, upto_add, upto_times, upto_zero, upto_single, upto_swap}
use Rattle.sharing.proofs.ByRank.{share_weightless, shares_add, none_for_none', share_same}
use Rattle.money.specs.Money.{fee_of}
use Rattle.money.proofs.Parts.{part_le}
use Rattle.day.specs.declared.book.Book.{Book}
use Rattle.day.specs.Terms.{Enrolment, nobody, unit, pool, is_unit, or_else}
use Rattle.day.specs.Reading.{seller_at, plant_at, period_at, plant_read}
use Rattle.day.specs.Bills.{call_of, price_of, received_of, fee, charge, producers, users, in_area, net, part_in, plant_charge, uncarried_charge, reading_of, penalty, unit_area, payee_area, fines, payee, refund, uncarried_refund}
use Rattle.day.specs.Balance.{Balanced, Even, Isolated}

-- One area's share-out: who weighs nothing gets nothing, and the shares and what nobody carries are the amount.
module _ (weights : ℕ → ℕ) (amount : ℕ) where
  nothing : (i : ℕ) → i < 64 → weights i ≡ 0 → share_of weights amount i ≡ 0
  nothing i l none = cases (cases_lt 0 (total weights))
      (λ some. none_for_none' weights amount some i l none)
      (λ no. share_weightless weights amount (omega arith) i)

  all_carried : total (share_of weights amount) + cond (eqb (total weights) 0) amount 0 ≡ amount
  all_carried = cases (cases_lt 0 (total weights))
      (λ some. let adds = shares_add weights amount some in grind (arith, nat_tests))
      (λ no. let none = upto_zero (share_of weights amount) 64 (λ i l. share_weightless weights amount (omega arith) i) in grind (arith, nat_tests))

-- Every area's share-out, to parties that weigh nothing outside their area.
module _ (areas : ℕ → Option ℕ) (below : (i a : ℕ) → areas i ≡ Some a → a < 8)
    (weights : ℕ → ℕ → ℕ) (outside : (i a : ℕ) → in_area (areas i) a ≡ false → weights a i ≡ 0) (amount : ℕ → ℕ) where
  -- what a party gets is what it gets of all areas
  of_all_areas : (i : ℕ) → i < 64 → part_in (areas i) weights amount i ≡ upto (λ a. share_of (weights a) (amount a) i) 8
  of_all_areas i l = by_area (areas i) (below i) (outside i)
    where
      by_area : (o : Option ℕ) → ((a : ℕ) → o ≡ Some a → a < 8) → ((a : ℕ) → in_area o a ≡ false → weights a i ≡ 0) →
          part_in o weights amount i ≡ upto (λ a. share_of (weights a) (amount a) i) 8
      by_area None low out = sym (upto_zero _ 8 (λ a k. nothing (weights a) (amount a) i l (out a refl)))
      by_area (Some x) low out = sym (upto_single _ 8 x (low x refl) (λ a k not. nothing (weights a) (amount a) i l (out a (ne_eqb x a (λ e. not (sym e))))))

  parts_add : total (λ i. part_in (areas i) weights amount i) + upto (λ a. cond (eqb (total (weights a)) 0) (amount a) 0) 8 ≡ upto amount 8
  parts_add =
      let shares : ℕ → ℕ = λ a. total (share_of (weights a) (amount a)) in
      let uncarried : ℕ → ℕ = λ a. cond (eqb (total (weights a)) 0) (amount a) 0 in
      let parts : total (λ i. part_in (areas i) weights amount i) ≡ upto shares 8 = upto_same _ _ 64 of_all_areas ∙ upto_swap (λ a. share_of (weights a) (amount a)) 8 64 in
      ap (λ n. n + upto uncarried 8) parts ∙ sym (upto_add shares uncarried 8) ∙ upto_same _ amount 8 (λ a l. all_carried (weights a) (amount a))

-- A unit that has an offer is a unit of its area.
payee_outside : (s : Enrolment) (a n : ℕ) → in_area (unit_area s) a ≡ false → cond (in_area (payee_area s) a) n 0 ≡ 0
payee_outside nobody a n out = refl
payee_outside (unit x c f None) a n out = refl
payee_outside (unit x c f (Some ps)) a n out = cond-false _ n 0 out
payee_outside (pool x c o) a n out = refl

-- What a unit pays counts in its area and in no other.
in_one_area : (s : Enrolment) → ((a : ℕ) → unit_area s ≡ Some a → a < 8) → (n : ℕ) →
    cond (is_unit s) n 0 ≡ upto (λ a. cond (in_area (unit_area s) a) (cond (is_unit s) n 0) 0) 8
in_one_area nobody low n = sym (upto_zero _ 8 (λ a l. refl))
in_one_area (unit x c f o) low n = sym (upto_single _ 8 x (low x refl) (λ a l not. cond-false _ n 0 (ne_eqb x a (λ e. not (sym e)))) ∙ cond-true _ n 0 (eq-eqb x x refl))
in_one_area (pool x c o) low n = sym (upto_zero _ 8 (λ a l. refl))

module _ (b : Book) (even : Even b) (p : ℕ) where
  -- a round's fees are what the areas are charged for it
  round_fees : (k : ℕ) → total (fee b k p) ≡ upto (λ a. fee_of (or_else (price_of b k p) 0) (received_of b k p a)) 8
  round_fees k =
      let rate : ℕ = 25 * or_else (price_of b k p) 0 in
      upto_times rate (call_of b k p) 64 ∙ ap (λ n. rate * n) (even.received p k) ∙ sym (upto_times rate (received_of b k p) 8)

  period_fees : total (λ i. fee b 0 p i + fee b 1 p i) ≡ upto (charge b p) 8
  period_fees = upto_add (fee b 0 p) (fee b 1 p) 64 ∙ cc (round_fees 0, round_fees 1) ∙ sym (upto_add _ _ 8)

  -- producers and users bear the charge
  both_parts : upto (producers b p) 8 + upto (users b p) 8 ≡ upto (charge b p) 8
  both_parts = sym (upto_add (producers b p) (users b p) 8) ∙ upto_same _ (charge b p) 8 (λ a l.
      omega (arith, part_le b.share.thousandths (charge b p a) b.share.within))

  plants_bear : total (plant_charge b p) + upto (uncarried_charge b p) 8 ≡ upto (producers b p) 8
  plants_bear = parts_add (plant_at b) even.plants (net b p) (λ i a. cond-false _ _ 0) (producers b p)

  period_charges : total (λ i. fee b 0 p i + fee b 1 p i) ≡ total (plant_charge b p) + upto (λ a. users b p a + uncarried_charge b p a) 8
  period_charges = omega (arith, period_fees, both_parts, plants_bear, upto_add (users b p) (uncarried_charge b p) 8)

  -- the penalties of all units are those of all areas, and are refunded
  period_penalties : total (penalty b p) ≡ upto (fines b p) 8
  period_penalties = upto_same _ _ 64 (λ i l. in_one_area (seller_at b i) (even.units i) _) ∙
      upto_swap (λ a i. cond (in_area (unit_area (seller_at b i)) a) (penalty b p i) 0) 8 64

  period_refunds : total (penalty b p) ≡ total (refund b p) + upto (uncarried_refund b p) 8
  period_refunds = period_penalties ∙
      sym (parts_add (λ i. unit_area (seller_at b i)) even.units (payee b p) (λ i a. payee_outside (seller_at b i) a (reading_of b p i)) (fines b p))

pub balanced : (b : Book) → Even b → Balanced b
balanced b even = (upto_same _ _ 96 (λ p l. period_charges b even p), upto_same _ _ 96 (λ p l. period_refunds b even p))

-- Plants of the area weigh alike where their readings are alike, and all others nothing.
alike_in : (o : Option ℕ) (a m n : ℕ) → (o ≡ Some a → m ≡ n) → cond (in_area o a) m 0 ≡ cond (in_area o a) n 0
alike_in None a m n same = refl
alike_in (Some x) a m n same = cases (cases_eq x a)
    (λ e. ap (λ v. cond (eqb x a) v 0) (same (ap Some e)))
    (λ not. let out = ne_eqb x a not in cond-false _ m 0 out ∙ sym (cond-false _ n 0 out))

-- The charge of a plant of the area a.
charge_in : (b : Book) (p a j : ℕ) → plant_at b j ≡ Some a → plant_charge b p j ≡ share_of (net b p a) (producers b p a) j
charge_in b p a j own = ap (λ o. part_in o (net b p) (producers b p) j) own

pub isolated : Isolated
isolated a b b' alike p j l own =
    let bear : producers b p a ≡ producers b' p a = cc (alike.share, alike.rounds p 0, alike.rounds p 1) in
    charge_in b p a j own ∙
    share_same (net b p a) (net b' p a) nets (producers b p a) j l ∙
    ap (λ n. share_of (net b' p a) n j) bear ∙
    sym (charge_in b' p a j (sym (alike.plants j) ∙ own))
  where
    nets : (i : ℕ) → i < 64 → net b p a i ≡ net b' p a i
    nets i h = alike_in (plant_at b i) a _ _ (alike.readings p i) ∙ ap (λ o. cond (in_area o a) (plant_read (period_at b' p) i) 0) (alike.plants i)
