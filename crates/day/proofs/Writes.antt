-- What a write to a list leaves at each place.
use Rattle.std.proofs.Common.{◌≡◌, ℕ, zero, suc, ◌<◌, Bool, true, false, cond, ◌&&◌, eqb, List, [], ◌∷◌, length, get_or, set, replicate, sym, refl, ap, ◌∙◌, subst, inl, inr, get_or-set_other, get_or-set_same}
use Rattle.std.proofs.lemmas.Bool.{cases_eq, eq-eqb, ne_eqb, eqb-true, cond-true, cond-false}

push : {X Y : Type 0} (g : X → Y) (β : Bool) (x y : X) → g (cond β x y) ≡ cond β (g x) (g y)
push g true x y = refl
push g false x y = refl

over : {Y : Type 0} (β γ : Bool) (w x y : Y) → (β ≡ true → x ≡ y) → cond β (cond γ w x) y ≡ cond (β && γ) w y
over true γ w x y h = ap (cond γ w) (h refl)
over false γ w x y h = refl

pub write : {X : Type 0} (l : List X) (i : ℕ) (v d : X) → i < length l → (j : ℕ) → get_or (set l i v) j d ≡ cond (eqb i j) v (get_or l j d)
write l i v d h j =
    elim (cases_eq i j) [
      | inl e ↦ subst (λ n. get_or (set l i v) n d ≡ cond (eqb i n) v (get_or l n d)) e (get_or-set_same l i v d h ∙ sym (cond-true (eqb i i) v (get_or l i d) (eq-eqb i i refl)))
      | inr ne ↦ get_or-set_other l i j v d (λ e. ne (sym e)) ∙ sym (cond-false (eqb i j) v (get_or l j d) (ne_eqb i j ne))
    ]

-- a part that the new element has as the old had it
pub part_kept : {X Y : Type 0} (g : X → Y) (l : List X) (i : ℕ) (v d : X) → g v ≡ g (get_or l i d) → (j : ℕ) → g (get_or (set l i v) j d) ≡ g (get_or l j d)
part_kept g [] i v d e j = refl
part_kept g (x ∷ xs) zero v d e zero = e
part_kept g (x ∷ xs) zero v d e (suc j) = refl
part_kept g (x ∷ xs) (suc i) v d e zero = refl
part_kept g (x ∷ xs) (suc i) v d e (suc j) = part_kept g xs i v d e j

-- a part that is another one
pub part_write : {X Y : Type 0} (g : X → Y) (l : List X) (i : ℕ) (v d : X) → i < length l → (j : ℕ) → g (get_or (set l i v) j d) ≡ cond (eqb i j) (g v) (g (get_or l j d))
part_write g l i v d h j = ap g (write l i v d h j) ∙ push g (eqb i j) v (get_or l j d)

-- a place in a list that is part of an element
pub write2 : {X Y : Type 0} (g : X → List Y) (l : List X) (k : ℕ) (v d : X) (i : ℕ) (y e : Y) → k < length l → i < length (g (get_or l k d)) → g v ≡ set (g (get_or l k d)) i y → (j n : ℕ) → get_or (g (get_or (set l k v) j d)) n e ≡ cond (eqb k j && eqb i n) y (get_or (g (get_or l j d)) n e)
write2 g l k v d i y e hk hi same j n =
    part_write (λ x. get_or (g x) n e) l k v d hk j
    ∙ ap (λ z. cond (eqb k j) z (get_or (g (get_or l j d)) n e)) (ap (λ m. get_or m n e) same ∙ write (g (get_or l k d)) i y e hi n)
    ∙ over (eqb k j) (eqb i n) y (get_or (g (get_or l k d)) n e) (get_or (g (get_or l j d)) n e) (λ t. ap (λ m. get_or (g (get_or l m d)) n e) (eqb-true k j t))

pub each_same : {X : Type 0} (P : X → Type 0) (n : ℕ) (a d : X) → P a → P d → (j : ℕ) → P (get_or (replicate n a) j d)
each_same P zero a d pa pd j = pd
each_same P (suc n) a d pa pd zero = pa
each_same P (suc n) a d pa pd (suc j) = each_same P n a d pa pd j

-- what holds of the new element and of all the old ones
pub each_set : {X : Type 0} (P : X → Type 0) (l : List X) (i : ℕ) (v d : X) → P v → ((j : ℕ) → P (get_or l j d)) → (j : ℕ) → P (get_or (set l i v) j d)
each_set P [] i v d new old j = old j
each_set P (x ∷ xs) zero v d new old zero = new
each_set P (x ∷ xs) zero v d new old (suc j) = old (suc j)
each_set P (x ∷ xs) (suc i) v d new old zero = old zero
each_set P (x ∷ xs) (suc i) v d new old (suc j) = each_set P xs i v d new (λ n. old (suc n)) j
