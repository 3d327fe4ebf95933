-- The arithmetic of a share-out: parts rounded down, and the odd ones handed out by remainder. Assumes nothing.
use Rattle.std.proofs.Common.{◌≡◌, ℕ, zero, suc, ◌+◌, ◌-◌, ◌*◌, ◌/◌, ◌%◌, ◌<◌, ◌≤◌, true, false, List, None, sym, refl, ap, ◌∙◌, subst, inl, inr, mod-lt, mul_comm, mul-le-mul_left, mul-zero, mul-add, arith}
use native.Mathlib.Nat.{div-add-mod, le_of_mul-le-mul_left, zero-div}
use Rattle.std.proofs.lemmas.List.Elements.{All-contains}
use Rattle.std.proofs.lemmas.Option.{none-some}
use Rattle.std.proofs.lemmas.Bool.{cases_lt}
use Rattle.std.proofs.lemmas.Bool.Decides.{nat_tests}
use Rattle.sharing.specs.Entered.{Rounded}
use Rattle.sharing.specs.Handed.{HandedOut, Exhausted, after}
use Rattle.sharing.specs.Kinds.{by_remainder}
use Rattle.sharing.specs.Order.{most_first}
use Rattle.sharing.specs.Places.{upto, total}
use Rattle.sharing.specs.Shares.{part_of, left_of, SharedOut}
use Rattle.sharing.specs.declared.remainder.Remainder.{Remainder}
use Rattle.sharing.proofs.Sums.{cases, upto_more, upto_grows, upto_le, upto_add, upto_at, upto_past, upto_times, upto_same, upto_none, upto_ones, only_one}

module _ (w : ℕ → ℕ) (a t : ℕ) (pos : 0 < t) where
  abbrev part : ℕ → ℕ
  part i = a * w i / t

  abbrev rest : ℕ → ℕ
  rest i = a * w i % t

  -- parts and remainders make up the whole
  pub make_up : (n : ℕ) → t * upto part n + upto rest n ≡ a * upto w n
  make_up n =
      let s = upto_add (λ i. t * part i) rest n in
      let p = upto_times t part n in
      let q = upto_times a w n in
      let e = upto_same (λ i. t * part i + rest i) (λ i. a * w i) n (λ i l. div-add-mod (a * w i) t) in
      omega arith

  -- no more goes out in whole parts than there is
  pub parts_le : (n : ℕ) → upto w n ≤ t → upto part n ≤ a
  parts_le n l =
      let m = make_up n in
      let x : a * upto w n ≤ a * t = mul-le-mul_left a l in
      let y = mul_comm a t in
      le_of_mul-le-mul_left {k = t} (let h : t * upto part n ≤ t * a = omega arith in h) pos

  little : (n : ℕ) → upto rest n + n ≤ t * n
  little n =
      let s = upto_add rest (λ _. 1) n in
      let l = upto_le (λ i. rest i + 1) (λ _. t * 1) n (λ i h. let m : rest i < t = mod-lt (a * w i) pos in omega arith) in
      let p = upto_times t (λ _. 1) n in
      let c = upto_ones n in
      let d : t * upto (λ _. 1) n ≡ t * n = ap (λ k. t * k) c in
      omega arith

  -- fewer are left over than there are parties
  pub few_left : (n : ℕ) → upto w n ≡ t → a < upto part n + n
  few_left n is = cases (cases_lt a (upto part n + n)) (λ h. h)
      (λ h.
      let m = make_up n in
      let s = little n in
      let some : 0 < n = cases (cases_lt 0 n) (λ l. l) (λ z. absurd (let m : n ≡ 0 = omega arith in let e : upto w n ≡ upto w 0 = ap (upto w) m in omega (arith, upto_none w))) in
      let x : a * upto w n ≡ t * a = ap (λ k. a * k) is ∙ mul_comm a t in
      let y : t * (upto part n + n) ≤ t * a = mul-le-mul_left t h in
      let z = mul-add t (upto part n) n in
      absurd (omega arith))

-- Each order has its own: this one puts the greater number first, `least_first` the lesser.
pub first_of_two : (a i b j : ℕ) → most_first b j a i ≡ false → (i ≡ j → ⊥) → most_first a i b j ≡ true
first_of_two a i b j h n = grind (arith, nat_tests)

-- what the rounding leaves comes before nothing left, further on
pub before_none : (a i b j : ℕ) → b ≡ 0 → i < j → most_first a i b j ≡ true
before_none a i b j e l = grind (arith, nat_tests)

behind_some : (b i j : ℕ) → most_first 0 i b j ≡ true → b ≡ 0
behind_some b i j h = grind (arith, nat_tests)

not_both : (a i b j : ℕ) → most_first a i b j ≡ true → most_first b j a i ≡ true → ⊥
not_both a i b j h k = grind (arith, nat_tests)

module _ (weights : ℕ → ℕ) (amount : ℕ) where
  part_none : (i : ℕ) → 0 < total weights → weights i ≡ 0 → part_of weights amount i ≡ 0
  part_none i pos z = ap (λ v. amount * v / total weights) z ∙ ap (λ v. v / total weights) (mul-zero amount) ∙ zero-div (total weights)

  left_none : (i : ℕ) → 0 < total weights → weights i ≡ 0 → left_of weights amount i ≡ 0
  left_none i pos z =
      let d = div-add-mod (amount * weights i) (total weights) in
      let e : amount * weights i ≡ 0 = ap (λ v. amount * v) z ∙ mul-zero amount in
      omega arith

  -- what is left of the amount has room for one part more
  pub part_fits : (i left : ℕ) → 0 < total weights → i < 64 → upto (part_of weights amount) i + left ≡ amount → part_of weights amount i ≤ left
  part_fits i left pos l is =
      let m = upto_more (part_of weights amount) i in
      let f = parts_le weights amount (total weights) pos (i + 1) (upto_grows weights (i + 1) 64 (omega arith)) in
      omega arith

  -- once what was left over has been handed out among the first n parties
  module _ (parts odd : ℕ → ℕ) (n over left : ℕ) (W : List Remainder) (pos : 0 < total weights) (few : n ≤ 64) (past : (i : ℕ) → n ≤ i → weights i ≡ 0)
      (rounded : Rounded weights amount n parts W) (is : upto (part_of weights amount) n + over ≡ amount)
      (handed : HandedOut by_remainder (λ c. c.number) (λ _. None) W odd)
      (adds : total odd + left ≡ over) (exhausted : 0 < left → Exhausted (λ c. c.number) (λ _. None) W odd) where
    none_past : (i : ℕ) → n ≤ i → odd i ≡ 0
    none_past i l = handed.others i (λ x hx e. let h = All-contains (λ (c : Remainder). c.number < n) W x rounded.below.inside hx in omega arith)

    at_most : (i : ℕ) → i < n → odd i ≤ 1
    at_most i l = cases (cases_lt 1 (odd i))
        (λ h. let o = rounded.claims i l in
        let f = ap odd o.3 in
        absurd (let e = handed.granted o.0 1 o.1 (omega arith) in let z : ◌≡◌ {A = ℕ} 0 1 = cc in omega arith))
        (λ h. h)

    all_weights : upto weights n ≡ total weights
    all_weights = sym (upto_past weights n 64 few past)

    pub none_left : left ≡ 0
    none_left = cases (cases_lt 0 left)
        (λ h.
        let f = few_left weights amount (total weights) pos n all_weights in
        let g = upto_le (λ _. 1) odd n (λ i l. each i l h) in
        let p = upto_past odd n 64 few none_past in
        let c = upto_ones n in
        absurd (omega arith))
        (λ h. omega arith)
      where
        at_least : (m : ℕ) (c : Remainder) → after (λ _. None) m c ≡ None → 1 ≤ m
        at_least zero c e = absurd (none-some c (sym e))
        at_least (suc m) c e = omega arith

        each : (i : ℕ) → i < n → 0 < left → 1 ≤ odd i
        each i l h = let o = rounded.claims i l in let f = ap odd o.3 in let s = at_least (odd o.0.number) o.0 (exhausted h o.0 o.1) in omega arith

    all_parts : total parts ≡ upto (part_of weights amount) n
    all_parts = upto_past parts n 64 few (λ i l. rounded.past i (omega arith)) ∙ upto_same parts (part_of weights amount) n rounded.given

    pub both_fit : (i : ℕ) → i < 64 → parts i + odd i ≤ amount
    both_fit i l = let p = upto_at parts 64 i l in let o = upto_at odd 64 i l in let e = all_parts in omega arith

    module _ (shares : ℕ → ℕ) (sums : (i : ℕ) → shares i ≡ parts i + odd i) where
      nothing : (i : ℕ) → n ≤ i → (shares i ≡ 0) × (part_of weights amount i ≡ 0)
      nothing i l = ((let s = sums i in let z = none_past i l in let p = rounded.past i (omega arith) in omega arith), part_none i pos (past i l))

      pub shared : SharedOut weights amount shares
      shared = record {
        adds =
            let s = upto_same shares (λ i. parts i + odd i) 64 (λ i l. sums i) in
            let d = upto_add parts odd 64 in
            let p = all_parts in
            let z = none_left in
            omega arith;
        rounded = λ i. cases (cases_lt i n)
            (λ l. let s = sums i in let g = rounded.given i l in let m = at_most i l in
            cases (cases_lt 0 (odd i)) (λ h. inr (omega arith)) (λ h. inl (omega arith)))
            (λ l. let z = nothing i l in inl (z.0 ∙ sym z.1));
        order = λ i j more same. cases (cases_lt i n)
            (λ li. cases (cases_lt j n)
            (λ lj.
            let x = rounded.claims i li in
            let y = rounded.claims j lj in
            let si = sums i in let sj = sums j in
            let gi = rounded.given i li in let gj = rounded.given j lj in
            let fi = ap odd x.3 in let fj = ap odd y.3 in
            let h = handed.order x.0 y.0 x.0 y.0 0 0 x.1 y.1 (omega arith) (omega arith) refl refl in
            let xp = x.2 in let xn = x.3 in let yp = y.2 in let yn = y.3 in
            let k : most_first (left_of weights amount j) j (left_of weights amount i) i ≡ false = sym (λ m. most_first (yp m) (yn m) (xp m) (xn m)) ∙ h in
            first_of_two (left_of weights amount i) i (left_of weights amount j) j k (λ e. let u = ap shares e in let v = ap (part_of weights amount) e in omega arith))
            (λ lj. before_none (left_of weights amount i) i (left_of weights amount j) j (left_none j pos (past j lj)) (omega arith)))
            (λ li. let z = nothing i li in absurd (let u = z.0 in let v = z.1 in omega arith));
      }

  -- there is just one
  pub only_shares : (s r : ℕ → ℕ) → SharedOut weights amount s → SharedOut weights amount r → (i : ℕ) → i < 64 → s i ≡ r i
  only_shares s r hs hr = only_one s r 64 (hs.adds ∙ sym hr.adds) (λ i j li lj more less.
      let p = differ r s i hr hs more in
      let q = differ s r j hs hr less in
      not_both (left_of weights amount i) i (left_of weights amount j) j (hs.order i j p.1 q.0) (hr.order j i q.1 p.0))
    where
      differ : (x y : ℕ → ℕ) (i : ℕ) → SharedOut weights amount x → SharedOut weights amount y → x i < y i → (x i ≡ part_of weights amount i) × (y i ≡ part_of weights amount i + 1)
      differ x y i hx hy l = cases (hx.rounded i)
          (λ e. cases (hy.rounded i) (λ f. absurd (omega arith)) (λ f. (e, f)))
          (λ e. absurd (cases (hy.rounded i) (λ f. omega arith) (λ f. omega arith)))

  -- who weighs nothing gets nothing
  pub none_for_none : (s : ℕ → ℕ) → 0 < total weights → SharedOut weights amount s → (i : ℕ) → i < 64 → weights i ≡ 0 → s i ≡ 0
  none_for_none s pos shared i l z = cases (shared.rounded i)
      (λ e. e ∙ part_none i pos z)
      (λ e. absurd (
      let m = make_up weights amount (total weights) pos 64 in
      let extra : ℕ → ℕ = λ j. s j - part_of weights amount j in
      let few = upto_le (λ j. left_of weights amount j + extra j) (λ j. total weights * extra j) 64 (λ j h. bound j e) in
      let p = upto_add (left_of weights amount) extra 64 in
      let q = upto_times (total weights) extra 64 in
      let r = upto_add (part_of weights amount) extra 64 in
      let same = upto_same s (λ j. part_of weights amount j + extra j) 64 (λ j h. cases (shared.rounded j) (λ f. omega arith) (λ f. omega arith)) in
      let here = upto_at extra 64 i l in
      let d = mul-add (total weights) (total (part_of weights amount)) (total extra) in
      let a = shared.adds in
      let b : total weights * amount ≡ total weights * (total (part_of weights amount) + total extra) = ap (λ v. total weights * v) (let g : amount ≡ total (part_of weights amount) + total extra = omega arith in g) in
      let c = mul_comm amount (total weights) in
      omega arith))
    where
      bound : (j : ℕ) → s i ≡ part_of weights amount i + 1 → left_of weights amount j + (s j - part_of weights amount j) ≤ total weights * (s j - part_of weights amount j)
      bound j e = cases (shared.rounded j)
          (λ f. let b = behind_some (left_of weights amount j) i j (subst (λ v. most_first v i (left_of weights amount j) j ≡ true) (left_none i pos z) (shared.order i j e f)) in
          let g : s j - part_of weights amount j ≡ 0 = omega arith in
          let h : total weights * (s j - part_of weights amount j) ≡ 0 = ap (λ v. total weights * v) g ∙ mul-zero (total weights) in
          omega arith)
          (λ f. let m : left_of weights amount j < total weights = mod-lt (amount * weights j) pos in
          let g : s j - part_of weights amount j ≡ 1 = omega arith in
          let h : total weights * (s j - part_of weights amount j) ≡ total weights * 1 = ap (λ v. total weights * v) g in
          omega arith)
