-- What an array holds that a closure made, place by place. Assumes nothing.
use Rattle.std.proofs.Common.{◌≡◌, ℕ, zero, suc, ◌+◌, ◌<◌, ◌≤◌, List, get_or, refl, sym, ◌∙◌, subst, arith}
use Rattle.std.specs.Fn.{Mut, Called}
use Rattle.std.specs.Array.{IsFromFnResult, IsFromFnResultFrom}
use Rattle.std.proofs.lemmas.Bool.{cases_lt, cases_eq}
use Rattle.std.proofs.lemmas.List.{get_or_past}
use Rattle.sharing.specs.Places.{at_place}
use Rattle.sharing.proofs.Sums.{cases}

-- Each call keeps P of what the closure captured, and gives at i what R says.
module _ {F B : Type 0} (g : Mut F (ℕ × Unit {0}) B) (P : F → Type 0) (R : ℕ → B → Type 0) (gives : (p q : F) (i : ℕ) (y : B) → P p → Called g p (i, tt) y q → P q × R i y) where
  pub made_each : (f : F) (ys : List B) (i n : ℕ) → IsFromFnResultFrom g f ys i n → P f → (k : ℕ) (e : B) → i ≤ k → k < i + n → R k (get_or ys k e)
  made_each f ys i zero h p k e a b = absurd (omega arith)
  made_each f ys i (suc n) (q, y, is, call, more) p k e a b =
      let both = gives f q i y p call in
      cases (cases_eq k i)
      (λ here. subst (λ m. R m (get_or ys m e)) (sym here) (subst (R i) (sym (is.1 e)) both.1))
      (λ other. made_each q ys (i + 1) n more both.0 k e (omega arith) (omega arith))

-- Where each call gives an R of its number and leaves the closure as it was, there is one at each place.
module _ {F B : Type 0} (g : Mut F (ℕ × Unit {0}) B) (f : F) (R : ℕ → B → Type 0) (each : (i : ℕ) (y : B) (q : F) → Called g f (i, tt) y q → R i y × (q ≡ f)) where
  kept : (p q : F) (i : ℕ) (y : B) → p ≡ f → Called g p (i, tt) y q → (q ≡ f) × R i y
  kept p q i y is call = let done = each i y q (subst (λ s. Called g s (i, tt) y q) is call) in (done.1, done.0)

  pub filled : (ys : List B) (n : ℕ) → IsFromFnResult g f ys n → (i : ℕ) (d : B) → i < n → R i (get_or ys i d)
  filled ys n made i d l = made_each g (λ p. p ≡ f) R kept f ys 0 n made.each refl i d (omega arith) (omega arith)

-- Where each call gives v of its number, and v is 0 past the last, the array reads as v at every place.
module _ {F : Type 0} (g : Mut F (ℕ × Unit {0}) ℕ) (f : F) (v : ℕ → ℕ) (each : (i y : ℕ) (q : F) → Called g f (i, tt) y q → (y ≡ v i) × (q ≡ f)) where
  pub reads_as : (ys : List ℕ) (n : ℕ) → IsFromFnResult g f ys n → ((i : ℕ) → n ≤ i → v i ≡ 0) → (i : ℕ) → at_place ys i ≡ v i
  reads_as ys n made past i = cases (cases_lt i n)
      (λ l. filled g f (λ i y. y ≡ v i) each ys n made i 0 l)
      (λ far. get_or_past ys i 0 (omega (arith, made.long)) ∙ sym (past i far))
