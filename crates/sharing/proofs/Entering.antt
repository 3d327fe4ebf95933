-- Claims entered party by party. Assumes nothing.
use Rattle.std.proofs.Common.{◌≡◌, ℕ, ◌+◌, ◌<◌, ◌≤◌, cond, eqb, List, [], ◌∷◌, sym, ap, ◌∙◌, subst, arith}
use Rattle.std.specs.List.Sorted.{IsPermutation}
use Rattle.std.proofs.lemmas.List.Elements.{All-nil, All-cons, All-weaker}
use Rattle.std.proofs.lemmas.List.Sorted.{sum_by-IsPermutation, All-permutation, Contains-permutation}
use Rattle.std.proofs.lemmas.List.Sums.{sum_by-cons, sum_by-le}
use Rattle.std.proofs.lemmas.Bool.{cases_lt, cases_eq, eq-eqb, ne_eqb, lt-ltb, le-ltb, cond-true, cond-false}
use Rattle.std.proofs.lemmas.Bool.Decides.{nat_tests}
use Rattle.sharing.specs.Entered.{Below, Roomed, Rounded}
use Rattle.sharing.specs.Shares.{part_of, left_of}
use Rattle.sharing.specs.Tenths.{takes}
use Rattle.sharing.specs.declared.fraction.Fraction.{Fraction}
use Rattle.sharing.specs.declared.remainder.Remainder.{Remainder}
use Rattle.sharing.proofs.Serving.{has_here, has_there}
use Rattle.sharing.proofs.Sums.{cases}

module _ {C : Type 0} (holder : C → ℕ) where
  below_none : Below holder 0 []
  below_none = record { apart = λ i. omega arith; inside = All-nil _ }

  below_skip : (n : ℕ) (W : List C) → Below holder n W → Below holder (n + 1) W
  below_skip n W was = record { apart = was.apart; inside = All-weaker (λ c. holder c < n) (λ c. holder c < n + 1) (λ c l. omega arith) W was.inside }

  abbrev one : ℕ → C → ℕ
  one i c = cond (eqb (holder c) i) 1 0

  not_at : (m k : ℕ) → m < k → cond (eqb m k) 1 0 ≤ 0
  not_at m k l = grind (arith, nat_tests)

  -- the party numbered n enters
  below_more : (n : ℕ) (c : C) (W W' : List C) → holder c ≡ n → IsPermutation (c ∷ W) W' → Below holder n W → Below holder (n + 1) W'
  below_more n c W W' is moved was = record {
    apart = λ i.
        let s = sum_by-IsPermutation (one i) _ _ moved in
        let t = sum_by-cons (one i) c W in
        let a = was.apart i in
        cases (cases_eq n i)
        (λ e. let absent = sum_by-le (one i) 0 W (All-weaker (λ x. holder x < n) (λ x. one i x ≤ 0) (λ x l. not_at (holder x) i (omega arith)) W was.inside) in
        let u : one i c ≡ 1 = cond-true _ 1 0 (eq-eqb (holder c) i (is ∙ e)) in omega arith)
        (λ e. let u : one i c ≡ 0 = cond-false _ 1 0 (ne_eqb (holder c) i (λ f. e (sym is ∙ f))) in omega arith);
    inside = All-permutation (λ x. holder x < n + 1) _ _ moved (All-cons (λ x. holder x < n + 1) c W (omega arith) (All-weaker (λ x. holder x < n) (λ x. holder x < n + 1) (λ x l. omega arith) W was.inside));
  }

module _ (weights rooms : ℕ → ℕ) (i : ℕ) where
  pub takes_room : 0 < weights i → takes weights rooms i ≡ rooms i
  takes_room l = cond-true _ (rooms i) 0 (lt-ltb 0 (weights i) l)

  pub takes_some : 0 < takes weights rooms i → (0 < weights i) × (0 < rooms i)
  takes_some some = cases (cases_lt 0 (weights i))
      (λ l. (l, omega (arith, takes_room l)))
      (λ none. absurd (omega (arith, cond-false _ (rooms i) 0 (le-ltb 0 (weights i) none))))

  -- where only parties with a weight have room
  pub takes_all : (0 < rooms i → 0 < weights i) → takes weights rooms i ≡ rooms i
  takes_all heavy = cases (cases_lt 0 (weights i)) takes_room
      (λ none. cases (cases_lt 0 (rooms i)) (λ l. absurd (omega (arith, heavy l))) (λ z. omega (arith, cond-false _ (rooms i) 0 (le-ltb 0 (weights i) none))))

module _ (weights rooms : ℕ → ℕ) where
  pub roomed_skip : (n : ℕ) (W : List Fraction) → (0 < rooms n → ⊥) → Roomed weights rooms n W → Roomed weights rooms (n + 1) W
  roomed_skip n W none was = record {
    claims = λ i l roomy. cases (cases_eq i n)
        (λ e. absurd (none (subst (λ m. 0 < rooms m) e roomy)))
        (λ e. was.claims i (omega arith) roomy);
    below = below_skip _ n W was.below;
    roomy = was.roomy;
  }

  pub roomed_more : (n : ℕ) (W W' : List Fraction) (c : Fraction) → 0 < rooms n → c.had ≡ 0 → c.weight ≡ weights n → c.room ≡ rooms n → c.number ≡ n → IsPermutation (c ∷ W) W' → Roomed weights rooms n W → Roomed weights rooms (n + 1) W'
  roomed_more n W W' c pos hd wt rm nm moved was = record {
    claims = λ i l roomy. cases (cases_eq i n)
        (λ e. (c, Contains-permutation _ _ c moved (has_here c W), hd, wt ∙ ap weights (sym e), rm ∙ ap rooms (sym e), nm ∙ sym e))
        (λ e. let o = was.claims i (omega arith) roomy in (o.0, Contains-permutation _ _ o.0 moved (has_there c W o.0 o.1), o.2, o.3, o.4, o.5));
    below = below_more _ n c W W' nm moved was.below;
    roomy = All-permutation (λ (x : Fraction). 0 < rooms x.number) _ _ moved (All-cons (λ (x : Fraction). 0 < rooms x.number) c W (subst (λ m. 0 < rooms m) (sym nm) pos) was.roomy);
  }

module _ (weights : ℕ → ℕ) (amount : ℕ) where
  pub rounded_none : (parts : ℕ → ℕ) (W : List Remainder) → W ≡ [] → ((i : ℕ) → parts i ≡ 0) → Rounded weights amount 0 parts W
  rounded_none parts W e z = subst (Rounded weights amount 0 parts) (sym e) record {
    given = λ i l. absurd (omega arith);
    past = λ i l. z i;
    claims = λ i l. absurd (omega arith);
    below = below_none _;
  }

  pub rounded_more : (n : ℕ) (parts parts' : ℕ → ℕ) (W W' : List Remainder) (c : Remainder) → parts' n ≡ part_of weights amount n → ((i : ℕ) → (i ≡ n → ⊥) → parts' i ≡ parts i) →
      c.part ≡ left_of weights amount n → c.number ≡ n → IsPermutation (c ∷ W) W' → Rounded weights amount n parts W → Rounded weights amount (n + 1) parts' W'
  rounded_more n parts parts' W W' c here other pt nm moved was = record {
    given = λ i l. cases (cases_eq i n)
        (λ e. ap parts' e ∙ here ∙ ap (part_of weights amount) (sym e))
        (λ e. other i e ∙ was.given i (omega arith));
    past = λ i l. other i (omega arith) ∙ was.past i (omega arith);
    claims = λ i l. cases (cases_eq i n)
        (λ e. (c, Contains-permutation _ _ c moved (has_here c W), pt ∙ ap (left_of weights amount) (sym e), nm ∙ sym e))
        (λ e. let o = was.claims i (omega arith) in (o.0, Contains-permutation _ _ o.0 moved (has_there c W o.0 o.1), o.2, o.3));
    below = below_more _ n c W W' nm moved was.below;
  }
