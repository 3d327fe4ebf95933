-- An element sinks or rises in a heap, and the top of a heap is its greatest element. Assumes nothing.
use Rattle.std.proofs.Common.{◌≡◌, ℕ, zero, suc, ◌+◌, ◌-◌, ◌*◌, ◌/◌, ◌<◌, ◌≤◌, Bool, true, false, List, get_or, refl, ap, ◌∙◌, arith}
use Rattle.std.proofs.lemmas.Bool.{cases_eq}
use Rattle.std.specs.Cmp.{IsStrictWeakOrder}
use Rattle.std.specs.Slice.Heapsort.{IsHeapWithin, IsNotBelowChildren}
use Rattle.sharing.proofs.Sums.{cases}

-- what an exchange of the elements at i and j leaves
abbrev pub Exchanges : {X : Type 0} → List X → List X → ℕ → ℕ → Type 0
Exchanges {X} xs ys i j =
    ((d : X) → get_or ys i d ≡ get_or xs j d) × ((d : X) → get_or ys j d ≡ get_or xs i d)
    × ((k : ℕ) (d : X) → (k ≡ i → ⊥) → (k ≡ j → ⊥) → get_or ys k d ≡ get_or xs k d)

module _ {X : Type 0} (lt : X → X → Bool) where
  by : (a b x y : X) → a ≡ x → b ≡ y → lt x y ≡ false → lt a b ≡ false
  by a b x y p q h = (λ k. lt (p k) (q k)) ∙ h

  at : (xs : List X) (i j : ℕ) (d : X) → i ≡ j → get_or xs i d ≡ get_or xs j d
  at xs i j d e = ap (λ m. get_or xs m d) e

  -- a heap but for the element at j, whose parent is above its children
  abbrev pub Hole : List X → ℕ → ℕ → ℕ → Type 0
  Hole xs low j end =
      ((p k : ℕ) (d : X) → low ≤ p → p * 2 + 1 ≤ k → k ≤ p * 2 + 2 → k < end → (p ≡ j → ⊥) → lt (get_or xs p d) (get_or xs k d) ≡ false)
      × ((p k : ℕ) (d : X) → low ≤ p → p * 2 + 1 ≤ j → j ≤ p * 2 + 2 → j * 2 + 1 ≤ k → k ≤ j * 2 + 2 → k < end → lt (get_or xs p d) (get_or xs k d) ≡ false)

  -- a heap but for the element at j and its parent
  abbrev pub Bulge : List X → ℕ → ℕ → Type 0
  Bulge xs j end =
      ((p k : ℕ) (d : X) → p * 2 + 1 ≤ k → k ≤ p * 2 + 2 → k < end → (k ≡ j → ⊥) → lt (get_or xs p d) (get_or xs k d) ≡ false)
      × ((p k : ℕ) (d : X) → p * 2 + 1 ≤ j → j ≤ p * 2 + 2 → j * 2 + 1 ≤ k → k ≤ j * 2 + 2 → k < end → lt (get_or xs p d) (get_or xs k d) ≡ false)

  module _ (o : IsStrictWeakOrder lt) where
    never : (x : X) (b : Bool) → lt x x ≡ b → lt x x ≡ false
    never x true e = o.one_way x x e
    never x false e = e

    itself : (xs : List X) (j k : ℕ) (d : X) → k ≡ j → lt (get_or xs j d) (get_or xs k d) ≡ false
    itself xs j k d e = by _ _ _ _ refl (at xs k j d e) (never (get_or xs j d) _ refl)

    module _ (xs ys : List X) (low j c end : ℕ) (lo : low ≤ j) (from : j * 2 + 1 ≤ c) (to : c ≤ j * 2 + 2) (in' : c < end) (is : Exchanges xs ys j c) where
      first : (m : ℕ) (d : X) → m ≡ j → get_or ys m d ≡ get_or xs c d
      first m d e = at ys m j d e ∙ is.0 d

      second : (m : ℕ) (d : X) → m ≡ c → get_or ys m d ≡ get_or xs j d
      second m d e = at ys m c d e ∙ is.1 d

      pub sinks : ((d : X) → lt (get_or xs j d) (get_or xs c d) ≡ true) → IsNotBelowChildren lt xs j c end → Hole xs low j end → Hole ys low c end
      sinks t g h = (
        λ p k d a b e f n. cases (cases_eq p j)
            (λ s. cases (cases_eq k c)
            (λ u. by _ _ _ _ (first p d s) (second k d u) (o.one_way _ _ (t d)))
            (λ u. by _ _ _ _ (first p d s) (is.2 k d (omega arith) u) (g k d (omega arith) (omega arith) f)))
            (λ s. cases (cases_eq k j)
            (λ u. by _ _ _ _ (is.2 p d s n) (first k d u) (h.1 p c d a (omega arith) (omega arith) from to in'))
            (λ u. by _ _ _ _ (is.2 p d s n) (is.2 k d u (omega arith)) (h.0 p k d a b e f s))),
        λ p k d a b e f i l. by _ _ _ _ (first p d (omega arith)) (is.2 k d (omega arith) (omega arith)) (h.0 c k d (omega arith) f i l (omega arith)),
      )

      pub rises : ((d : X) → lt (get_or xs j d) (get_or xs c d) ≡ true) → Bulge xs c end → Bulge ys j end
      rises t h = (
        λ p k d a b f u. cases (cases_eq p j)
            (λ s. cases (cases_eq k c)
            (λ e. by _ _ _ _ (first p d s) (second k d e) (o.one_way _ _ (t d)))
            (λ w. by _ _ _ _ (first p d s) (is.2 k d u w) (o.chain _ _ _ (o.one_way _ _ (t d)) (h.0 j k d (omega arith) (omega arith) f w))))
            (λ s. cases (cases_eq p c)
            (λ e. by _ _ _ _ (second p d e) (is.2 k d u (omega arith)) (h.1 j k d from to (omega arith) (omega arith) f))
            (λ w. by _ _ _ _ (is.2 p d s w) (is.2 k d u (omega arith)) (h.0 p k d a b f (omega arith)))),
        λ p k d a b f g i. let over = h.0 p j d a b (omega arith) (omega arith) in cases (cases_eq k c)
            (λ e. by _ _ _ _ (is.2 p d (omega arith) (omega arith)) (second k d e) over)
            (λ w. by _ _ _ _ (is.2 p d (omega arith) (omega arith)) (is.2 k d (omega arith) w) (o.chain _ _ _ over (h.0 j k d f g i w))),
      )

    pub top : (xs : List X) (end : ℕ) (d : X) → IsHeapWithin lt xs 0 end → (fuel k : ℕ) → k ≤ fuel → k < end → lt (get_or xs 0 d) (get_or xs k d) ≡ false
    top xs end d h zero k a b = itself xs 0 k d (omega arith)
    top xs end d h (suc fuel) k a b = cases (cases_eq k 0) (itself xs 0 k d)
        (λ n. o.chain _ _ _ (top xs end d h fuel ((k - 1) / 2) (omega arith) (omega arith)) (h ((k - 1) / 2) k d (omega arith) (omega arith) (omega arith) b))
