-- A heap in the front of a slice: one more claim at its end, and the first one served. Assumes nothing.
use Rattle.std.proofs.Common.{◌≡◌, ℕ, zero, suc, ◌+◌, ◌-◌, ◌<◌, ◌≤◌, Bool, List, [], ◌∷◌, ◌++◌, length, get_or, take, drop, set, Some, None, Option, sym, refl, ap, ◌∙◌, subst, arith}
use lib.Seq.{take-set-lt}
use Rattle.std.proofs.Permutation.{taken_at}
use Rattle.std.specs.Cmp.{IsStrictWeakOrder}
use Rattle.std.specs.Slice.Heapsort.{IsHeapWithin}
use Rattle.std.specs.List.Sorted.{IsPermutation}
use Rattle.std.specs.Option.{option_to_list}
use Rattle.std.proofs.lemmas.List.{take_at, take-take, get_or_read, take_more_set, length-take, length-take-le, length-set, get_or-take, get_or-set_other}
use Rattle.std.proofs.lemmas.List.Sorted.{IsPermutation-trans, IsPermutation-sym, IsPermutation-refl, IsPermutation-to_front, IsPermutation-cons, length_permutation}
use Rattle.sharing.specs.Order.{behind, Queued, First}
use Rattle.sharing.specs.Waiting.{Serves}
use Rattle.sharing.proofs.Heaps.{top}

module _ {X : Type 0} where
  front : (ys post : List X) (n : ℕ) → length ys ≡ n → take n (ys ++ post) ≡ ys
  front ys post n e = take_at ys post n e

  -- ys: the front once the claim c has been written after the first n and has risen
  module _ (ahead : X → X → Bool) (xs ys post : List X) (n m : ℕ) (c : X) (in' : n < length xs) (is : m ≡ n + 1) (moved : IsPermutation (take m (set xs n c)) ys) where
    written : take m (set xs n c) ≡ take n xs ++ c ∷ []
    written = ap (λ k. take k (set xs n c)) is ∙ take_more_set xs n c in'

    pub long : length ys ≡ n + 1
    long = let e = length_permutation _ _ moved in
        let f = length-take m (set xs n c) in
        let h = length-set xs n c in omega arith

    pub entered : IsPermutation (c ∷ take n xs) (take (n + 1) (ys ++ post))
    entered = subst (IsPermutation (c ∷ take n xs)) (sym (front ys post (n + 1) long))
        (IsPermutation-trans _ _ _ (subst (IsPermutation (c ∷ take n xs)) (sym written) (IsPermutation-sym _ _ (IsPermutation-to_front (take n xs) c))) moved)

    same : (k : ℕ) (d : X) → k < n → get_or (take m (set xs n c)) k d ≡ get_or (take n xs) k d
    same k d l = get_or-take m (set xs n c) k d (omega arith) ∙ get_or-set_other xs n k c d (omega arith) ∙ sym (get_or-take n xs k d l)

    pub opened : Queued ahead (take n xs) → IsHeapWithin (behind ahead) (take m (set xs n c)) 0 (length (take m (set xs n c)) - 1)
    opened h = λ p k d a b e f.
        let u = length-take m (set xs n c) in
        let v = length-set xs n c in
        let w = length-take n xs in
        (λ i. ahead (same k d (omega arith) i) (same p d (omega arith) i)) ∙ h p k d a b e (omega arith)

    pub queued : IsHeapWithin (behind ahead) ys 0 (length ys) → Queued ahead (take (n + 1) (ys ++ post))
    queued h = subst (Queued ahead) (sym (front ys post (n + 1) long)) h

  -- ys: the front once another claim has been written in place of the first of n, `left` are to stay, and it has sunk
  module _ (ahead : X → X → Bool) (xs ys post : List X) (n left m : ℕ) (x head : X) (fits : n ≤ length xs) (some : 0 < n) (le : left ≤ n) (is : m ≡ left) (at : x ≡ get_or xs 0 x) (moved : IsPermutation (take m (set xs 0 head)) ys) where
    pub long_left : length ys ≡ left
    long_left = let e = length_permutation _ _ moved in
        let f = length-take m (set xs 0 head) in
        let h = length-set xs 0 head in omega arith

    kept : (k : ℕ) (d : X) → 0 < k → k < left → get_or (take m (set xs 0 head)) k d ≡ get_or (take n xs) k d
    kept k d z l = get_or-take m (set xs 0 head) k d (omega arith) ∙ get_or-set_other xs 0 k head d (omega arith) ∙ sym (get_or-take n xs k d (omega arith))

    pub holed : Queued ahead (take n xs) → IsHeapWithin (behind ahead) (take m (set xs 0 head)) 1 (length (take m (set xs 0 head)))
    holed h = λ p k d a b e f.
        let u = length-take m (set xs 0 head) in
        let v = length-set xs 0 head in
        let w = length-take-le n xs fits in
        (λ i. ahead (kept k d (omega arith) (omega arith) i) (kept p d (omega arith) (omega arith) i)) ∙ h p k d (omega arith) b e (omega arith)

    pub closed : IsHeapWithin (behind ahead) ys 0 (length ys) → Queued ahead (take left (ys ++ post))
    closed h = subst (Queued ahead) (sym (front ys post left long_left)) h

    first_of : (d : X) → x ≡ get_or (take n xs) 0 d
    first_of d = get_or_read xs 0 x (omega arith) at d ∙ sym (get_or-take n xs 0 d some)

    pub foremost : IsStrictWeakOrder (behind ahead) → Queued ahead (take n xs) → First ahead x (take n xs)
    foremost o h = λ k d l. ap (λ y. ahead (get_or (take n xs) k d) y) (first_of d) ∙ top (behind ahead) o (take n xs) (length (take n xs)) d h k k (omega arith) l

    module _ (next : X → Option X) where
      -- the follower has taken the place
      pub follows : left ≡ n → next x ≡ Some head → Serves next x (take n xs) (take left (ys ++ post))
      follows e f = record {
        rest = drop 1 (take n xs);
        out = subst (IsPermutation (take n xs)) (begins xs n some fits at) (IsPermutation-refl (take n xs));
        back = subst (λ o. IsPermutation (option_to_list o ++ drop 1 (take n xs)) (take left (ys ++ post))) (sym f)
            (subst (IsPermutation (head ∷ drop 1 (take n xs))) (sym (front ys post left long_left))
            (subst (λ zs. IsPermutation zs ys) (ap (λ k. take k (set xs 0 head)) (is ∙ e) ∙ replaced xs n some fits) moved));
      }
        where
          begins : (zs : List X) (k : ℕ) → 0 < k → k ≤ length zs → x ≡ get_or zs 0 x → take k zs ≡ x ∷ drop 1 (take k zs)
          begins zs zero z l h = absurd (omega arith)
          begins [] (suc k) z l h = absurd (omega arith)
          begins (y ∷ zs) (suc k) z l h = ap (λ w. w ∷ take k zs) (sym h)

          replaced : (zs : List X) (k : ℕ) → 0 < k → k ≤ length zs → take k (set zs 0 head) ≡ head ∷ drop 1 (take k zs)
          replaced zs zero z l = absurd (omega arith)
          replaced [] (suc k) z l = absurd (omega arith)
          replaced (y ∷ zs) (suc k) z l = refl

      -- the last claim has taken the place
      pub leaves : n ≡ left + 1 → head ≡ get_or xs left head → next x ≡ None → Serves next x (take n xs) (take left (ys ++ post))
      leaves e last f = record {
        rest = take left (ys ++ post);
        out = subst (λ l. IsPermutation (take n xs) (x ∷ l)) (sym (front ys post left long_left))
            (IsPermutation-trans _ _ _ (taken_at (take n xs) 0 x (omega (arith, full)) (first_of x)) (IsPermutation-cons x _ _ (subst (λ l. IsPermutation l ys) (sym left_over) moved)));
        back = subst (λ o. IsPermutation (option_to_list o ++ take left (ys ++ post)) (take left (ys ++ post))) (sym f) (IsPermutation-refl _);
      }
        where
          full : length (take n xs) ≡ left + 1
          full = length-take-le n xs fits ∙ e

          left_over : take (length (take n xs) - 1) (set (take n xs) 0 (get_or (take n xs) (length (take n xs) - 1) x)) ≡ take m (set xs 0 head)
          left_over =
              let g : length (take n xs) - 1 ≡ left = omega (arith, full) in
              let v : get_or (take n xs) (length (take n xs) - 1) x ≡ head = ap (λ k. get_or (take n xs) k x) g ∙ get_or-take n xs left x (omega arith) ∙ sym (get_or_read xs left head (omega arith) last x) in
              ap (λ k. take k (set (take n xs) 0 (get_or (take n xs) (length (take n xs) - 1) x))) g
              ∙ ap (λ y. take left (set (take n xs) 0 y)) v
              ∙ ap (take left) (sym (take-set-lt n xs 0 head some))
              ∙ take-take left n (set xs 0 head) (omega arith)
              ∙ ap (λ k. take k (set xs 0 head)) (sym is)
