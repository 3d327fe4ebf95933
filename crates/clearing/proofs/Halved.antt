-- The point where the prices 0 to 60 part, too low ones from those that reach an amount, is the least price. Assumes nothing.
use Rattle.std.proofs.Common.{◌≡◌, ℕ, ◌<◌, ◌≤◌, min, ltb, true, false, List, length, get_or, ap, arith}
use Rattle.std.proofs.lemmas.Bool.{cases_lt, lt-ltb, ltb-true, ltb-false}
use Rattle.std.specs.List.Sorted.{IsPartitionPoint, IsPartitionedBy}
use Rattle.sharing.proofs.Sums.{cases}
use Rattle.clearing.specs.Prices.{Least}

module _ (offer : ℕ → ℕ) (amount : ℕ) (prices : List ℕ) (long : length prices ≡ 61) (is : (i d : ℕ) → i < 61 → get_or prices i d ≡ i) where
  price_at : (i d : ℕ) → i < 61 → offer (min (get_or prices i d) 60) ≡ offer i
  price_at i d l = let e = is i d l in ap offer (omega arith)

  pub parted : ((p q : ℕ) → p ≤ q → q ≤ 60 → offer p ≤ offer q) → IsPartitionedBy (λ q. ltb (offer (min q 60)) amount) prices
  parted rises i j d le l low =
      let here = price_at i d (omega arith) in
      let there = price_at j d (omega arith) in
      lt-ltb _ _ (omega (arith, ltb-true _ _ low, rises i j le (omega arith)))

  pub least_parted : (p : ℕ) → amount ≤ offer 60 → p ≤ length prices → IsPartitionPoint (λ q. ltb (offer (min q 60)) amount ≡ true) (λ q. ltb (offer (min q 60)) amount ≡ false) prices p → Least offer amount p
  least_parted p enough most point =
      let below : (q : ℕ) → q < p → offer q < amount = λ q l. omega (arith, price_at q 0 (omega arith), ltb-true _ _ (point.0 q 0 (omega arith) l)) in
      let within : p ≤ 60 = cases (cases_lt p 61) (λ l. omega arith) (λ past. absurd (omega (arith, below 60 (omega arith)))) in
      record {
        within = within;
        reaches = omega (arith, price_at p 0 (omega arith), ltb-false _ _ (point.1 p 0 (omega arith) (omega arith)));
        least = below;
      }
