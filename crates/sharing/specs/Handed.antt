-- What it is to hand units out one by one, each to the first claim. Assumes nothing.
use Rattle.std.specs.Prelude.{◌≡◌, ℕ, zero, suc, ◌<◌, ◌≤◌, Bool, true, false, List, is_some, Some, None, count_by, Option, ◌≢◌, nat_eq, Contains}

-- What follows a claim that may be there.
abbrev pub then : {C : Type 0} → Option C → (C → Option C) → Option C
then None f = None
then (Some x) f = f x

-- The claim that x has become once j units have gone to its holder, if any is left.
abbrev pub after : {C : Type 0} → (C → Option C) → ℕ → C → Option C
after next zero x = Some x
after next (suc j) x = then (after next j x) next

-- No holder waits twice.
abbrev pub Apart : {C : Type 0} → (C → ℕ) → List C → Type 0
Apart holder xs = (i : ℕ) → count_by (λ c. nat_eq (holder c) i) xs ≤ 1

-- From the claims xs, holder i was given `given i` units: each for a claim of its own, and no claim that is left is ahead of one that was served.
pub record HandedOut {C : Type 0} (ahead : C → C → Bool) (holder : C → ℕ) (next : C → Option C) (xs : List C) (given : ℕ → ℕ) : Type 0 where
  pub granted : (x : C) (j : ℕ) → Contains xs x → j < given (holder x) → is_some (after next j x) ≡ true
  pub others : (i : ℕ) → ((x : C) → Contains xs x → holder x ≢ i) → given i ≡ 0
  pub order : (x y c d : C) (j k : ℕ) → Contains xs x → Contains xs y → j < given (holder x) → given (holder y) ≤ k → after next j x ≡ Some c → after next k y ≡ Some d → ahead d c ≡ false

-- What is left waiting once each holder i has been given `given i` units of the claims xs: for each of these the claim that it has become, if any, and nothing else.
pub record WaitsOn {C : Type 0} (holder : C → ℕ) (next : C → Option C) (xs : List C) (given : ℕ → ℕ) (ys : List C) : Type 0 where
  pub stays : (x c : C) → Contains xs x → after next (given (holder x)) x ≡ Some c → Contains ys c
  pub from : (c : C) → Contains ys c → (x : C) × Contains xs x × (after next (given (holder x)) x ≡ Some c)
  pub apart : Apart holder ys

-- Every claim in xs, and each that followed it, was served.
abbrev pub Exhausted : {C : Type 0} → (C → ℕ) → (C → Option C) → List C → (ℕ → ℕ) → Type 0
Exhausted {C} holder next xs given = (x : C) → Contains xs x → after next (given (holder x)) x ≡ None
