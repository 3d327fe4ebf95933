-- The tier that a price reaches: there is one, only one, and a higher price reaches no lower one.
use Rattle.std.specs.Prelude.{◌≡◌, ℕ, zero, suc, ◌-◌, ◌<◌, ◌≤◌, List, nat_le, slice_index, slice_index_or}
use Rattle.std.proofs.Common.{⊎_elim, subst, eq-or-lt_of_le, mul-le-mul_right, arith}
use Rattle.std.proofs.lemmas.Bool.{leb-true, leb-false, cond_both, cases_lt}
use Rattle.sellers.specs.Curves.{Lawful}
use Rattle.sellers.specs.Tiers.{Capped, Reaches, highest, edge, unit_power}

-- Of the tiers 0 to n, k is the highest-numbered that is priced q or less.
record Among (prices : List ℕ) (q n k : ℕ) : Type 0 where
  within : k ≤ n
  priced : slice_index_or prices k 0 ≤ q
  above : (j : ℕ) → k < j → j ≤ n → q < slice_index prices j

highest_among : (prices : List ℕ) (q n : ℕ) → slice_index prices 0 ≤ q → Among prices q n (highest prices q n)
unfolding highest
highest_among prices q zero first = record { within = omega arith; priced = first; above = λ j low high. omega arith }
highest_among prices q (suc n) first =
    let t = slice_index_or prices (suc n) 0 in
    let rest = highest_among prices q n first in
    cond_both (nat_le t q) (suc n) (highest prices q n) (Among prices q (suc n))
    (λ e. record { within = omega arith; priced = leb-true t q e; above = λ j low high. omega arith })
    (λ e. record { within = omega (arith, rest.within); priced = rest.priced; above = λ j low high. ⊎_elim (λ here. rw here (leb-false t q e)) (λ less. rest.above j low (omega arith)) (eq-or-lt_of_le high) })

-- What holds of the tiers above k, and of k, holds of those above the one before.
pub above_more : (prices : List ℕ) (q k : ℕ) → ((j : ℕ) → k < j → j ≤ 7 → q < slice_index prices j) → q < slice_index prices k → (j : ℕ) → k - 1 < j → j ≤ 7 → q < slice_index prices j
above_more prices q k above here j low high =
    ⊎_elim (λ e. subst (λ i. q < slice_index prices i) e here) (λ less. above j less high) (eq-or-lt_of_le (let le : k ≤ j = omega arith in le))

-- The first price is 0, so every price reaches a tier.
pub highest_reaches : (prices : List ℕ) (q : ℕ) → Capped prices → Reaches prices q (highest prices q 7)
highest_reaches prices q capped =
    let first : slice_index_or prices 0 0 ≤ q = omega (arith, capped 0 (omega arith)) in
    let found = highest_among prices q 7 first in
    record { tier = found.within; priced = found.priced; above = found.above }

pub reaches_rises : (prices : List ℕ) (p q k l : ℕ) → p ≤ q → Reaches prices p k → Reaches prices q l → k ≤ l
reaches_rises prices p q k l le low high =
    ⊎_elim (λ less. absurd (omega (arith, high.above k less low.tier, low.priced))) (λ h. h) (cases_lt l k)

pub reaches_only : (prices : List ℕ) (q k l : ℕ) → Reaches prices q k → Reaches prices q l → k ≡ l
reaches_only prices q k l here there =
    omega (arith, reaches_rises prices q q k l (omega arith) here there, reaches_rises prices q q l k (omega arith) there here)

pub edge_falls : (capacity k l : ℕ) → k ≤ l → edge capacity l ≤ edge capacity k
edge_falls capacity k l h = mul-le-mul_right capacity (omega arith)

pub unit_lawful : (capacity floor base : ℕ) (prices : List ℕ) → base ≤ 20000 → Capped prices → Lawful (unit_power capacity floor base prices)
unit_lawful capacity floor base prices most capped = record {
  rises = λ p q below within. omega (arith, edge_falls capacity _ _ (reaches_rises prices p q _ _ below (highest_reaches prices p capped) (highest_reaches prices q capped)));
  capped = omega arith;
}
