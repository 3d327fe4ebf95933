-- What each party gets in a share-out, by how many come before it. Assumes nothing.
use Rattle.std.proofs.Common.{◌≡◌, ℕ, zero, suc, ◌+◌, ◌-◌, ◌<◌, ◌≤◌, Bool, true, false, ltb, ◌⊎◌, refl, ap, inl, inr, arith}
use Rattle.std.proofs.lemmas.Bool.{cases_lt, cases_Bool, cond-true, cond-false, lt-ltb, le-ltb, eq-eqb, ne_eqb}
use Rattle.std.proofs.lemmas.Bool.Decides.{nat_tests}
use Rattle.sharing.specs.Order.{most_first}
use Rattle.sharing.specs.Places.{upto, total, one_if}
use Rattle.sharing.specs.Shares.{part_of, left_of, odd, ahead_of, share_of, SharedOut}
use Rattle.sharing.proofs.Rounding.{first_of_two, parts_le, few_left, only_shares, none_for_none}
use Rattle.sharing.proofs.Sums.{cases, upto_le, upto_lt, upto_same, upto_add, upto_ones}

-- whoever comes before the first of two comes before the second
before_both : (a i b j c k : ℕ) → most_first a i b j ≡ true → one_if (most_first c k a i) ≤ one_if (most_first c k b j)
before_both a i b j c k h = grind (arith, nat_tests)

-- and the first of two comes before the second and not before itself
before_one : (a i b j : ℕ) → most_first a i b j ≡ true → one_if (most_first a i a i) < one_if (most_first a i b j)
before_one a i b j h = grind (arith, nat_tests)

module _ (rest : ℕ → ℕ) where
  abbrev before : ℕ → ℕ → Bool
  before i j = most_first (rest i) i (rest j) j

  -- how many of the first n come before i
  abbrev ahead : ℕ → ℕ → ℕ
  ahead n i = upto (λ j. one_if (before j i)) n

  -- who comes before another has no more before it, and fewer where it is one of the n itself
  no_more_ahead : (n i j : ℕ) → before i j ≡ true → ahead n i ≤ ahead n j
  no_more_ahead n i j h = upto_le _ _ n (λ k l. before_both (rest i) i (rest j) j (rest k) k h)

  fewer_ahead : (n i j : ℕ) → i < n → before i j ≡ true → ahead n i < ahead n j
  fewer_ahead n i j l h = upto_lt _ _ n i (λ k l. before_both (rest i) i (rest j) j (rest k) k h) l (before_one (rest i) i (rest j) j h)

  -- one party more, n: who comes before it keeps its place, and who comes after it moves one on
  moved : (n i : ℕ) → i < n → ((one_if (before n i) ≡ 0) × (ahead n i < ahead n n)) ⊎ ((one_if (before n i) ≡ 1) × (ahead n n ≤ ahead n i))
  moved n i l = cases (cases_Bool (before n i))
      (λ e. inr (ap one_if e, no_more_ahead n n i e))
      (λ e. inl (ap one_if e, fewer_ahead n i n l (first_of_two (rest i) i (rest n) n e (λ same. omega arith))))

  -- of n parties just k have fewer than k before them
  counted : (n k : ℕ) → k ≤ n → upto (λ i. one_if (ltb (ahead n i) k)) n ≡ k
  unfolding upto
  counted zero k l = omega arith
  counted (suc n) k l = cases (cases_lt (ahead n n) k)
      (λ in_front.
      let others = upto_same _ _ n (λ i h. one_on (ahead n i) (one_if (before n i)) (ahead n n) k (moved n i h) in_front) in
      let new = ap one_if (lt-ltb (ahead n n + one_if (before n n)) k (omega (arith, not_itself (rest n) n))) in
      omega (arith, others, new, counted n (k - 1) (omega arith)))
      (λ behind.
      let others = upto_same _ _ n (λ i h. as_was (ahead n i) (one_if (before n i)) (ahead n n) k (moved n i h) behind) in
      let new = ap one_if (le-ltb (ahead n n + one_if (before n n)) k (omega arith)) in
      let most = upto_le (λ j. one_if (before j n)) (λ _. 1) n (λ j h. at_most_one (before j n)) in
      omega (arith, others, new, counted n k (omega (arith, most, upto_ones n))))
    where
      one_on : (a b r k : ℕ) → ((b ≡ 0) × (a < r)) ⊎ ((b ≡ 1) × (r ≤ a)) → r < k → one_if (ltb (a + b) k) ≡ one_if (ltb a (k - 1))
      one_on a b r k h l = grind (arith, nat_tests)

      as_was : (a b r k : ℕ) → ((b ≡ 0) × (a < r)) ⊎ ((b ≡ 1) × (r ≤ a)) → k ≤ r → one_if (ltb (a + b) k) ≡ one_if (ltb a k)
      as_was a b r k h l = grind (arith, nat_tests)

      not_itself : (a i : ℕ) → one_if (most_first a i a i) ≡ 0
      not_itself a i = grind (arith, nat_tests)

      at_most_one : (b : Bool) → one_if b ≤ 1
      at_most_one true = omega arith
      at_most_one false = omega arith

-- one more, or not
with_one : (s p a o : ℕ) → s ≡ p + one_if (ltb a o) → s ≡ p + 1 → a < o
with_one s p a o e more = grind (arith, nat_tests)

without : (s p a o : ℕ) → s ≡ p + one_if (ltb a o) → s ≡ p → o ≤ a
without s p a o e same = grind (arith, nat_tests)

one_or_not : (s p a o : ℕ) → s ≡ p + one_if (ltb a o) → (s ≡ p) ⊎ (s ≡ p + 1)
one_or_not s p a o e = cases (cases_lt a o) (λ l. inr (grind (arith, nat_tests))) (λ l. inl (grind (arith, nat_tests)))

module _ (weights : ℕ → ℕ) (amount : ℕ) where
  -- where nobody weighs anything nobody gets anything
  pub share_weightless : total weights ≡ 0 → (i : ℕ) → share_of weights amount i ≡ 0
  unfolding share_of
  share_weightless none i = cond-true _ _ _ (eq-eqb (total weights) 0 none)

  -- with fewer before it a party comes first
  in_order : (i j : ℕ) → ahead_of weights amount i < ahead_of weights amount j → most_first (left_of weights amount i) i (left_of weights amount j) j ≡ true
  unfolding ahead_of
  in_order i j l = cases (cases_Bool (most_first (left_of weights amount j) j (left_of weights amount i) i))
      (λ e. absurd (omega (arith, no_more_ahead (left_of weights amount) 64 j i e)))
      (λ e. first_of_two (left_of weights amount i) i (left_of weights amount j) j e (λ same. omega (arith, ap (ahead_of weights amount) same)))

  module _ (pos : 0 < total weights) where
    -- its part, and one more where fewer come before it than are left over
    pub share_is : (i : ℕ) → share_of weights amount i ≡ part_of weights amount i + one_if (ltb (ahead_of weights amount i) (odd weights amount))
    unfolding share_of
    share_is i = cond-false _ _ _ (ne_eqb (total weights) 0 (λ none. omega arith))

    -- the shares add up to the amount
    pub shares_add : total (share_of weights amount) ≡ amount
    unfolding ahead_of
    shares_add =
        let extra : ℕ → ℕ = λ i. one_if (ltb (ahead_of weights amount i) (odd weights amount)) in
        let parts = parts_le weights amount (total weights) pos 64 (omega arith) in
        let few = few_left weights amount (total weights) pos 64 refl in
        let handed : total extra ≡ odd weights amount = counted (left_of weights amount) 64 (odd weights amount) (omega arith) in
        omega (arith, upto_same (share_of weights amount) (λ i. part_of weights amount i + extra i) 64 (λ i l. share_is i), upto_add (part_of weights amount) extra 64)

    -- such shares are a share-out
    pub share_shared : SharedOut weights amount (share_of weights amount)
    share_shared = record {
      adds = shares_add;
      rounded = λ i. one_or_not _ _ _ _ (share_is i);
      order = λ i j more same. in_order i j (omega (arith, with_one _ _ _ _ (share_is i) more, without _ _ _ _ (share_is j) same));
    }

    -- and there is no other
    pub is_share_of : (s : ℕ → ℕ) → SharedOut weights amount s → (i : ℕ) → i < 64 → s i ≡ share_of weights amount i
    is_share_of s shared = only_shares weights amount s (share_of weights amount) shared share_shared

    -- who weighs nothing gets nothing
    pub none_for_none' : (i : ℕ) → i < 64 → weights i ≡ 0 → share_of weights amount i ≡ 0
    none_for_none' = none_for_none weights amount (share_of weights amount) pos share_shared

-- equal weights, equal shares
pub share_same : (weights weights' : ℕ → ℕ) → ((i : ℕ) → i < 64 → weights i ≡ weights' i) → (amount i : ℕ) → i < 64 →
    share_of weights amount i ≡ share_of weights' amount i
unfolding share_of ahead_of
share_same weights weights' alike amount i l =
    let part = part_same i l in
    let over : odd weights amount ≡ odd weights' amount = ap (λ v. amount - v) (upto_same (part_of weights amount) (part_of weights' amount) 64 part_same) in
    let ahead : ahead_of weights amount i ≡ ahead_of weights' amount i = upto_same _ _ 64 (λ j h. let here = left_same i l in let there = left_same j h in cc) in
    cc weigh
  where
    weigh : total weights ≡ total weights'
    weigh = upto_same weights weights' 64 alike

    part_same : (j : ℕ) → j < 64 → part_of weights amount j ≡ part_of weights' amount j
    part_same j h = cc (weigh, alike j h)

    left_same : (j : ℕ) → j < 64 → left_of weights amount j ≡ left_of weights' amount j
    left_same j h = cc (weigh, alike j h)
