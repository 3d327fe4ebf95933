-- The sum of a figure of the numbers below n, as a chain over their range gives it. Assumes nothing.
use Rattle.std.proofs.Common.{◌≡◌, ℕ, zero, suc, ◌+◌, map, sum, sym, subst, ◌∙◌, arith}
use Rattle.std.proofs.lemmas.List.FromFn.{sum_by-map-range_with_len_more}
use Rattle.std.specs.List.{range_with_len}
use Rattle.sharing.specs.Places.{upto}
use Rattle.sharing.proofs.Sums.{upto_none, upto_more}

pub sum_upto : (f : ℕ → ℕ) (n : ℕ) → sum (map f (range_with_len 0 n)) ≡ upto f n
sum_upto f zero = sym (upto_none f)
sum_upto f (suc n) =
    let more : n + 1 ≡ suc n = omega arith in
    subst (λ m. sum (map f (range_with_len 0 m)) ≡ upto f m) more (sum_by-map-range_with_len_more (λ x. x) f 0 n n (omega arith) ∙ (λ t. sum_upto f n t + f n) ∙ sym (upto_more f n))
