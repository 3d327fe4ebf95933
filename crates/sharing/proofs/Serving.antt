-- Units handed out one by one to the first claim. Assumes nothing.
use Rattle.std.proofs.Common.{◌≡◌, ℕ, zero, suc, ◌+◌, ◌<◌, ◌≤◌, Bool, true, false, cond, eqb, ◌⊎◌, List, [], ◌∷◌, ◌++◌, get_or, is_some, Some, None, sum_by, Option, sym, refl, ap, ◌∙◌, subst, inl, inr, arith}
use Rattle.std.specs.Cmp.{IsStrictWeakOrder}
use Rattle.std.specs.Option.{option_to_list}
use Rattle.std.specs.List.{Contains as Has}
use Rattle.std.proofs.lemmas.List.Sums.{sum_by-cons, get_or-le-sum_by}
use Rattle.std.proofs.lemmas.List.Sorted.{sum_by-IsPermutation, IsPermutation-sym, Contains-permutation}
use Rattle.std.proofs.lemmas.Bool.{cases_eq, eq-eqb, cases_lt, cond-true}
use Rattle.std.proofs.lemmas.Option.{none-some, same_Some}
use Rattle.sharing.specs.Order.{First}
use Rattle.sharing.specs.Handed.{then, after, Apart, HandedOut, WaitsOn}
use Rattle.sharing.specs.Waiting.{Serves}
use Rattle.sharing.proofs.Sums.{cases}

module _ {C : Type 0} where
  pub has_here : (c : C) (xs : List C) → Has (c ∷ xs) c
  has_here c xs = (0, omega arith, refl)

  pub has_there : (c : C) (xs : List C) (x : C) → Has xs x → Has (c ∷ xs) x
  has_there c xs x (k, l, e) = (suc k, omega arith, e)

  pub has_cases : (c : C) (xs : List C) (x : C) → Has (c ∷ xs) x → (c ≡ x) ⊎ Has xs x
  has_cases c xs x (zero, l, e) = inl e
  has_cases c xs x (suc k, l, e) = inr (k, omega arith, e)

  pub has_none : (x : C) → Has [] x → ⊥
  has_none x (k, l, e) = omega arith

module _ {C : Type 0} (ahead : C → C → Bool) (holder : C → ℕ) (next : C → Option C) (ranks : IsStrictWeakOrder ahead) (later : (x y : C) → next x ≡ Some y → (ahead y x ≡ false) × (holder y ≡ holder x)) where
  abbrev of : ℕ → C → Bool
  of i c = eqb (holder c) i

  abbrev one : ℕ → C → ℕ
  one i c = cond (of i c) 1 0

  one_is : (i : ℕ) (c : C) → holder c ≡ i → one i c ≡ 1
  one_is i c e = cond-true (of i c) 1 0 (eq-eqb (holder c) i e)

  none_else : (i : ℕ) (c : C) (xs : List C) (y : C) → sum_by (one i) (c ∷ xs) ≤ 1 → holder c ≡ i → Has xs y → holder y ≡ i → ⊥
  none_else i c xs y l e (k, in', at) f =
      let a : one i c ≡ 1 = one_is i c e in
      let b : one i (get_or xs k y) ≡ 1 = one_is i (get_or xs k y) (ap holder at ∙ f) in
      let s : sum_by (one i) (c ∷ xs) ≡ one i c + sum_by (one i) xs = sum_by-cons (one i) c xs in
      let g : one i (get_or xs k y) ≤ sum_by (one i) xs = get_or-le-sum_by (one i) xs k y in' in
      omega arith

  pub same_one : (xs : List C) → Apart holder xs → (x y : C) → Has xs x → Has xs y → holder x ≡ holder y → x ≡ y
  same_one [] h x y hx hy e = absurd (has_none x hx)
  same_one (c ∷ xs) h x y hx hy e = cases (has_cases c xs x hx)
      (λ p. cases (has_cases c xs y hy) (λ q. sym p ∙ q) (λ q. absurd (none_else (holder x) c xs y (h (holder x)) (ap holder p) q (sym e))))
      (λ p. cases (has_cases c xs y hy)
      (λ q. absurd (none_else (holder y) c xs x (h (holder y)) (ap holder q) p e))
      (λ q. same_one xs (λ i. let s = sum_by-cons (one i) c xs in let g = h i in omega arith) x y p q e))

  by_then : (o : Option C) (d : C) → then o next ≡ Some d → (e : C) × (o ≡ Some e) × (next e ≡ Some d)
  by_then None d h = absurd (none-some d h)
  by_then (Some e) d h = (e, refl, h)

  pub after_holder : (j : ℕ) (x y : C) → after next j x ≡ Some y → holder y ≡ holder x
  after_holder zero x y h = ap holder (sym (same_Some x y h))
  after_holder (suc j) x y h = let s = by_then (after next j x) y h in (later s.0 y s.2).1 ∙ after_holder j x s.0 s.1

  never : (x : C) (b : Bool) → ahead x x ≡ b → ahead x x ≡ false
  never x true e = ranks.one_way x x e
  never x false e = e

  pub tail : (n k : ℕ) (y d : C) → n ≤ k → after next k y ≡ Some d → (e : C) × (after next n y ≡ Some e) × (ahead d e ≡ false)
  tail n zero y d l h = (d, ap (λ i. after next i y) (let z : n ≡ 0 = omega arith in z) ∙ h, never d _ refl)
  tail n (suc k) y d l h = cases (cases_eq n (suc k))
      (λ e. (d, ap (λ i. after next i y) e ∙ h, never d _ refl))
      (λ e. let s = by_then (after next k y) d h in
      let t = tail n k y s.0 (omega arith) s.1 in
      (t.0, t.1, ranks.chain d s.0 t.0 (later s.0 d s.2).0 t.2))

  pub record Serving (H : List C) (m : ℕ → ℕ) (W : List C) : Type 0 where
    pub apart : Apart holder W
    pub origin : (x c : C) → Has H x → Has W c → holder x ≡ holder c → after next (m (holder c)) x ≡ Some c
    pub waits : (x c : C) → Has H x → after next (m (holder x)) x ≡ Some c → Has W c
    pub granted : (x : C) (j : ℕ) → Has H x → j < m (holder x) → is_some (after next j x) ≡ true
    pub held : (c : C) → Has W c → (x : C) × Has H x × (holder x ≡ holder c)
    pub others : (i : ℕ) → ((x : C) → Has H x → holder x ≡ i → ⊥) → m i ≡ 0
    pub before : (x g c : C) (j : ℕ) → Has H x → j < m (holder x) → after next j x ≡ Some g → Has W c → ahead c g ≡ false

  pub starts : (H : List C) (m : ℕ → ℕ) → ((i : ℕ) → m i ≡ 0) → Apart holder H → Serving H m H
  starts H m z h = record {
    apart = h;
    origin = λ x c hx hc e. ap (λ i. after next i x) (z (holder c)) ∙ ap Some (same_one H h x c hx hc e);
    waits = λ x c hx e. subst (Has H) (same_Some x c (ap (λ i. after next i x) (sym (z (holder x))) ∙ e)) hx;
    granted = λ x j hx l. absurd (omega (arith, z (holder x)));
    held = λ c hc. (c, hc, refl);
    others = λ i n. z i;
    before = λ x g c j hx l e hc. absurd (omega (arith, z (holder x)));
  }

  module _ (H : List C) (m m' : ℕ → ℕ) (W W' : List C) (c : C) (s : Serves next c W W') (first : First ahead c W) (up : m' (holder c) ≡ suc (m (holder c))) (still : (k : ℕ) → (k ≡ holder c → ⊥) → m' k ≡ m k) (was : Serving H m W) where
    in_W : Has W c
    in_W = Contains-permutation _ _ c (IsPermutation-sym _ _ s.out) (has_here c s.rest)

    rest_W : (y : C) → Has s.rest y → Has W y
    rest_W y h = Contains-permutation _ _ y (IsPermutation-sym _ _ s.out) (has_there c s.rest y h)

    one_W : (i : ℕ) → sum_by (one i) (c ∷ s.rest) ≤ 1
    one_W i = let e = sum_by-IsPermutation (one i) _ _ s.out in let l = was.apart i in omega arith

    rest_other : (y : C) → Has s.rest y → holder y ≡ holder c → ⊥
    rest_other y h e = none_else (holder c) c s.rest y (one_W (holder c)) refl h e

    split : (o : Option C) (y : C) → Has (option_to_list o ++ s.rest) y → (o ≡ Some y) ⊎ Has s.rest y
    split None y h = inr h
    split (Some x) y h = cases (has_cases x s.rest y h) (λ e. inl (ap Some e)) inr

    in_W' : (y : C) → Has W' y → (next c ≡ Some y) ⊎ Has s.rest y
    in_W' y h = split (next c) y (Contains-permutation _ _ y (IsPermutation-sym _ _ s.back) h)

    put : (o : Option C) (y : C) → (o ≡ Some y) ⊎ Has s.rest y → Has (option_to_list o ++ s.rest) y
    put None y (inl e) = absurd (none-some y e)
    put None y (inr h) = h
    put (Some x) y (inl e) = subst (Has (x ∷ s.rest)) (same_Some x y e) (has_here x s.rest)
    put (Some x) y (inr h) = has_there x s.rest y h

    to_W' : (y : C) → (next c ≡ Some y) ⊎ Has s.rest y → Has W' y
    to_W' y h = Contains-permutation _ _ y s.back (put (next c) y h)

    fewer : (o : Option C) (i : ℕ) → next c ≡ o → sum_by (one i) (option_to_list o ++ s.rest) ≤ sum_by (one i) (c ∷ s.rest)
    fewer None i e = let t = sum_by-cons (one i) c s.rest in omega arith
    fewer (Some y) i e =
        let t = sum_by-cons (one i) c s.rest in
        let u = sum_by-cons (one i) y s.rest in
        let v : one i y ≡ one i c = ap (λ n. cond (eqb n i) 1 0) (later c y e).1 in
        omega arith

    was_c : (x : C) → Has H x → holder x ≡ holder c → after next (m (holder c)) x ≡ Some c
    was_c x hx e = was.origin x c hx in_W e

    grown : (x : C) → holder x ≡ holder c → m' (holder x) ≡ suc (m (holder c))
    grown x e = ap m' e ∙ up

    next_of : (x : C) → Has H x → holder x ≡ holder c → after next (m' (holder x)) x ≡ next c
    next_of x hx e = ap (λ i. after next i x) (grown x e) ∙ ap (λ o. then o next) (was_c x hx e)

    old_or_new : (x : C) (j : ℕ) → j < m' (holder x) → (j < m (holder x)) ⊎ ((holder x ≡ holder c) × (j ≡ m (holder c)))
    old_or_new x j l = cases (cases_eq (holder x) (holder c))
        (λ e. let f = grown x e in let g = ap m e in cases (cases_lt j (m (holder x))) inl (λ n. inr (e, omega arith)))
        (λ e. inl (let f = still (holder x) e in omega arith))

    pub steps : Serving H m' W'
    steps = record {
      apart = λ i. let e = sum_by-IsPermutation (one i) _ _ s.back in let f = fewer (next c) i refl in let g = one_W i in omega arith;
      origin = λ x y hx hy e. cases (in_W' y hy)
          (λ p. let f = (later c y p).1 in ap (λ i. after next (m' i) x) (sym e) ∙ next_of x hx (e ∙ f) ∙ p)
          (λ p. ap (λ i. after next i x) (still (holder y) (rest_other y p)) ∙ was.origin x y hx (rest_W y p) e);
      waits = λ x y hx e. cases (cases_eq (holder x) (holder c))
          (λ p. to_W' y (inl (sym (next_of x hx p) ∙ e)))
          (λ p. let f : after next (m (holder x)) x ≡ Some y = ap (λ i. after next i x) (sym (still (holder x) p)) ∙ e in
          let h = Contains-permutation _ _ y s.out (was.waits x y hx f) in
          cases (has_cases c s.rest y h)
          (λ q. absurd (p (sym (after_holder (m (holder x)) x y f) ∙ ap holder (sym q))))
          (λ q. to_W' y (inr q)));
      granted = λ x j hx l. cases (old_or_new x j l) (was.granted x j hx)
          (λ p. ap (λ i. is_some (after next i x)) p.1 ∙ ap is_some (was_c x hx p.0));
      held = λ y hy. cases (in_W' y hy)
          (λ p. let o = was.held c in_W in (o.0, o.1, o.2 ∙ sym (later c y p).1))
          (λ p. was.held y (rest_W y p));
      others = λ i n. cases (cases_eq i (holder c))
          (λ e. let o = was.held c in_W in absurd (n o.0 o.1 (o.2 ∙ sym e)))
          (λ e. still i e ∙ was.others i n);
      before = λ x g y j hx l e hy. cases (old_or_new x j l)
          (λ p. cases (in_W' y hy)
          (λ q. ranks.chain y c g (later c y q).0 (was.before x g c j hx p e in_W))
          (λ q. was.before x g y j hx p e (rest_W y q)))
          (λ p. let same : c ≡ g = same_Some c g (sym (was_c x hx p.0) ∙ ap (λ i. after next i x) (sym p.1) ∙ e) in
          subst (λ z. ahead y z ≡ false) same (cases (in_W' y hy) (λ q. (later c y q).0) (λ q. first_at y (rest_W y q))));
    }
      where
        first_at : (y : C) → Has W y → ahead y c ≡ false
        first_at y (k, l, e) = ap (λ z. ahead z c) (sym e) ∙ first k y l

  pub ends : (H : List C) (m : ℕ → ℕ) (W : List C) → Serving H m W → HandedOut ahead holder next H m
  ends H m W was = record {
    granted = was.granted;
    others = was.others;
    order = λ x y c d j k hx hy l n e f.
        let t = tail (m (holder y)) k y d n f in
        ranks.chain d t.0 c t.2 (was.before x c t.0 j hx l e (was.waits y t.0 hy t.1));
  }

  pub waits_on : (H : List C) (m : ℕ → ℕ) (W : List C) → Serving H m W → WaitsOn holder next H m W
  waits_on H m W was = record {
    stays = was.waits;
    from = λ c hc. let o = was.held c hc in (o.0, o.1, ap (λ i. after next (m i) o.0) o.2 ∙ was.origin o.0 c o.1 hc o.2);
    apart = was.apart;
  }
