-- Tenths handed out to claims by fraction follow the fraction rule. Assumes nothing.
use Rattle.std.proofs.Common.{◌≡◌, ℕ, zero, suc, ◌+◌, ◌-◌, ◌*◌, ◌<◌, ◌≤◌, Bool, true, false, cond, eqb, ltb, List, is_some, Some, None, Option, sym, refl, ap, ◌∙◌, mul-lt-mul_of_pos_right, arith}
use Rattle.std.specs.List.{Contains as Has}
use Rattle.std.proofs.lemmas.List.Elements.{All-contains}
use Rattle.std.proofs.lemmas.Bool.{both_ways, cases_lt, cases_eq, cond-true, cond-false, lt-ltb, le-ltb}
use Rattle.std.proofs.lemmas.Bool.Decides.{nat_tests}
use Rattle.sharing.specs.Entered.{Roomed}
use Rattle.sharing.specs.Handed.{HandedOut, Exhausted, after, then}
use Rattle.sharing.specs.Kinds.{by_fraction, next_tenth, had_more}
use Rattle.sharing.specs.Order.{least_first}
use Rattle.sharing.specs.Places.{total}
use Rattle.sharing.specs.Tenths.{ByFraction}
use Rattle.sharing.specs.declared.fraction.Fraction.{Fraction}
use Rattle.sharing.proofs.Sums.{cases, upto_le}

-- the claim after j tenths: the same with j more, where there is room for it
abbrev Stands : Option Fraction → ℕ → Fraction → Type 0
Stands o j x = (y : Fraction) × (o ≡ Some y) × (y.had ≡ x.had + j) × (y.weight ≡ x.weight) × (y.room ≡ x.room) × (y.number ≡ x.number)

stands : (j : ℕ) (x : Fraction) → x.had + j < x.room → Stands (after next_tenth j x) j x
stands zero x l = (x, refl, omega arith, refl, refl, refl)
stands (suc j) x l =
    let s = stands j x (omega arith) in
    let y = s.0 in
    (had_more 1 y, ap (λ o. then o next_tenth) s.1 ∙ cond-true _ _ _ (lt-ltb (y.had + 1) y.room (let a = s.2 in let b = s.4 in omega arith)), (let a = s.2 in omega arith), s.3, s.4, s.5)

ends_at : (j : ℕ) (x : Fraction) → x.had + j ≡ x.room → 0 < j → after next_tenth j x ≡ None
ends_at zero x e l = absurd (omega arith)
ends_at (suc j) x e l =
    let s = stands j x (omega arith) in
    let y = s.0 in
    ap (λ o. then o next_tenth) s.1 ∙ cond-false _ _ _ (le-ltb (y.had + 1) y.room (let a = s.2 in let b = s.4 in omega arith))

first_of_two : (p q i j : ℕ) → cond (eqb q p) (ltb j i) (ltb q p) ≡ false → (i ≡ j → ⊥) → cond (eqb p q) (ltb i j) (ltb p q) ≡ true
first_of_two p q i j h n = grind (arith, nat_tests)

less_first : (p q i j : ℕ) → p < q → cond (eqb p q) (ltb i j) (ltb p q) ≡ true
less_first p q i j l = grind (arith, nat_tests)

none_is_some : (o : Option Fraction) → o ≡ None → is_some o ≡ true → ⊥
none_is_some o e f = let z : ◌≡◌ {A = Bool} false true = ap is_some (sym e) ∙ f in both_ways true (sym z) refl

module _ (weights rooms given : ℕ → ℕ) (n : ℕ) (W : List Fraction) (inside : (i : ℕ) → 0 < weights i → i < n) (heavy : (i : ℕ) → 0 < rooms i → 0 < weights i)
    (roomed : Roomed weights rooms n W) (handed : HandedOut by_fraction (λ c. c.number) next_tenth W given) where
  abbrev first_claim : (i : ℕ) → 0 < rooms i → (c : Fraction) × Has W c × (c.had ≡ 0) × (c.weight ≡ weights i) × (c.room ≡ rooms i) × (c.number ≡ i)
  first_claim i pos = roomed.claims i (inside i (heavy i pos)) pos

  within : (i : ℕ) → given i ≤ rooms i
  within i = cases (cases_lt 0 (rooms i))
      (λ pos. cases (cases_lt (rooms i) (given i))
      (λ h. let o = first_claim i pos in
      let c = o.0 in
      let hd = o.2 in
      let rm = o.4 in
      let up = ap given o.5 in
      absurd (none_is_some (after next_tenth (rooms i) c) (ends_at (rooms i) c (omega arith) pos) (handed.granted c (rooms i) o.1 (omega arith))))
      (λ h. h))
      (λ none. let z = handed.others i (λ x hx e. let h = All-contains (λ (c : Fraction). 0 < rooms c.number) W x roomed.roomy hx in let f = ap rooms e in omega arith) in omega arith)

  pub follows_rule : ByFraction weights rooms given
  follows_rule = record {
    within = within;
    order = λ a b j k j0 ja kb kr.
        let wa = within a in
        let o = first_claim a (omega arith) in
        let q = first_claim b (omega arith) in
        let o_had = o.2 in
        let o_room = o.4 in
        let q_had = q.2 in
        let q_room = q.4 in
        let s = stands (j - 1) o.0 (omega arith) in
        let t = stands (k - 1) q.0 (omega arith) in
        let ga = ap given o.5 in
        let gb = ap given q.5 in
        let h = handed.order o.0 q.0 s.0 t.0 (j - 1) (k - 1) o.1 q.1 (omega arith) (omega arith) s.1 t.1 in
        let s_had = s.2 in
        let t_had = t.2 in
        let e1 : t.0.had + 1 ≡ k = omega arith in
        let f1 : s.0.had + 1 ≡ j = omega arith in
        let e2 = t.3 ∙ q.3 in
        let f2 = s.3 ∙ o.3 in
        let e3 = t.5 ∙ q.5 in
        let f3 = s.5 ∙ o.5 in
        let whole : least_first k (weights b) b j (weights a) a ≡ false = sym (λ i. least_first (e1 i) (e2 i) (e3 i) (f1 i) (f2 i) (f3 i)) ∙ h in
        cases (cases_eq a b)
        (λ e. let v : weights a ≡ weights b = ap weights e in
        let some : 0 < weights b = heavy b (omega arith) in
        let me : given a ≡ given b = ap given e in
        let jk : j < k = omega arith in
        let m : j * weights b < k * weights b = mul-lt-mul_of_pos_right jk some in
        let x : k * weights a ≡ k * weights b = ap (λ z. k * z) v in
        less_first (j * weights b) (k * weights a) a b (omega arith))
        (λ e. first_of_two (j * weights b) (k * weights a) a b whole e);
  }

  -- once every claim is served, each party has all it has room for
  full : Exhausted (λ c. c.number) next_tenth W given → (i : ℕ) → rooms i ≤ given i
  full out i = cases (cases_lt (given i) (rooms i))
      (λ h. let o = first_claim i (omega arith) in
      let hd = o.2 in
      let rm = o.4 in
      let up = ap given o.5 in
      let s = stands (given o.0.number) o.0 (omega arith) in
      absurd (none_is_some _ (out o.0 o.1) (ap is_some s.1)))
      (λ h. h)

  pub left_is : (rest left : ℕ) → total given + left ≡ rest → (0 < left → Exhausted (λ c. c.number) next_tenth W given) → left ≡ rest - total rooms
  left_is rest left adds out =
      let w = upto_le given rooms 64 (λ i l. within i) in
      cases (cases_lt 0 left)
      (λ some. let f = upto_le rooms given 64 (λ i l. full (out some) i) in omega arith)
      (λ none. omega arith)
