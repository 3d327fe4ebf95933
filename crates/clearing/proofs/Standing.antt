-- The curves of a round's sellers by their numbers, and the calls made from them. Assumes nothing.
use Rattle.std.proofs.Common.{◌≡◌, ℕ, zero, suc, ◌+◌, ◌-◌, ◌*◌, ◌≤◌, List, [], ◌∷◌, map, length, refl, subst, arith}
use Rattle.std.proofs.lemmas.List.{get_or_past, length-map}
use Rattle.sharing.specs.Places.{total}
use Rattle.sharing.specs.Tenths.{ByFraction}
use Rattle.sharing.proofs.Sums.{upto_le, upto_add, upto_same, upto_times, upto_ones, upto_zero}
use Rattle.sellers.specs.Curves.{Lawful}
use Rattle.clearing.specs.Calls.{under, at_price, CalledAt}
use Rattle.clearing.specs.Prices.{curves_at, offered, Least}

module _ {S : Type 0} (power : S → ℕ → ℕ) where
  pub curve_past : (xs : List S) (i : ℕ) → length xs ≤ i → curves_at power xs i ≡ (λ _. 0)
  curve_past xs i l = get_or_past (map power xs) i (λ _. 0) (let e = length-map xs power in omega arith)

  pub lawful_at : ((s : S) → Lawful (power s)) → (xs : List S) (i : ℕ) → Lawful (curves_at power xs i)
  lawful_at law [] i = record { rises = λ p q l m. omega arith; capped = omega arith }
  lawful_at law (x ∷ xs) zero = law x
  lawful_at law (x ∷ xs) (suc i) = lawful_at law xs i

under_le : (curve : ℕ → ℕ) → Lawful curve → (p : ℕ) → p ≤ 60 → under curve p ≤ curve p
under_le curve law zero most = omega arith
under_le curve law (suc p) most = law.rises p (suc p) (omega arith) most

module _ (curves : ℕ → ℕ → ℕ) (lawful : (i : ℕ) → Lawful (curves i)) where
  pub offered_rises : (p q : ℕ) → p ≤ q → q ≤ 60 → offered curves p ≤ offered curves q
  offered_rises p q l most = upto_le (λ i. curves i p) (λ i. curves i q) 64 (λ i h. (lawful i).rises p q l most)

  -- 64 sellers have 20,000 each at most
  pub offered_most : offered curves 60 ≤ 1280000
  offered_most =
      let l = upto_le (λ i. curves i 60) (λ _. 20000 * 1) 64 (λ i h. (lawful i).capped) in
      omega (arith, upto_times 20000 (λ _. 1) 64, upto_ones 64)

  module _ (weights : ℕ → ℕ) (p brought : ℕ) (least : Least (offered curves) brought p) (low rooms : ℕ → ℕ) (is_low : (i : ℕ) → low i ≡ under (curves i) p) (is_room : (i : ℕ) → rooms i ≡ curves i p - low i) where
    -- what is offered below the price is not yet enough
    pub low_le : total low ≤ brought
    low_le = let e = upto_same low (λ i. under (curves i) p) 64 (λ i l. is_low i) in let f = before p least in omega arith
      where
        before : (p : ℕ) → Least (offered curves) brought p → total (λ i. under (curves i) p) ≤ brought
        before zero at = let n = upto_zero (λ _. 0) 64 (λ i l. refl) in omega arith
        before (suc p) at = let l = at.least p (omega arith) in omega arith

    -- there is room at the price for the rest
    pub room_enough : brought - total low ≤ total rooms
    room_enough =
        let e = upto_same (λ i. curves i p) (λ i. low i + rooms i) 64 (λ i l. let u = under_le (curves i) (lawful i) p least.within in let v = is_low i in let r = is_room i in omega arith) in
        let f = upto_add low rooms 64 in
        let g = least.reaches in
        omega arith

    module _ (given : ℕ → ℕ) (fair : ByFraction weights rooms given) (adds : total given ≡ brought - total low) where
      pub called_at : (calls : ℕ → ℕ) → ((i : ℕ) → calls i ≡ low i + given i) → CalledAt weights curves p brought calls
      called_at calls is = record {
        low = λ i. let c = is i in let v = is_low i in omega arith;
        high = λ i. let c = is i in let w = fair.within i in let r = is_room i in let v = is_low i in let u = under_le (curves i) (lawful i) p least.within in omega arith;
        adds = let s = upto_same calls (λ i. low i + given i) 64 (λ i l. is i) in let d = upto_add low given 64 in let b = low_le in omega arith;
        fair = subst (λ (g : ℕ → ℕ). ByFraction weights (λ i. at_price (curves i) p) g) (λ k i. given_is i k)
            (subst (λ (r : ℕ → ℕ). ByFraction weights r given) (λ k i. room_is i k) fair);
      }
        where
          given_is : (i : ℕ) → given i ≡ calls i - under (curves i) p
          given_is i = let c = is i in let v = is_low i in omega arith

          room_is : (i : ℕ) → rooms i ≡ at_price (curves i) p
          room_is i = let r = is_room i in let v = is_low i in omega arith
