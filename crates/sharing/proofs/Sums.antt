-- Sums over places. Assumes nothing.
use Rattle.std.proofs.Common.{◌≡◌, ℕ, zero, suc, ◌+◌, ◌*◌, ◌<◌, ◌≤◌, ◌⊎◌, List, [], ◌∷◌, map, sum, sum_by, length, get_or, set, replicate, sym, refl, ap, ◌∙◌, inl, inr, mul-add, arith}
use Rattle.std.proofs.lemmas.List.{get_or-map, get_or_past, get_or-set_same, get_or-set_other, length-map, map-id}
use Rattle.std.proofs.lemmas.List.Sums.{sum_by-cons}
use Rattle.std.proofs.lemmas.Bool.{cases_lt, cases_eq}
use Rattle.sharing.specs.Places.{upto, at_place, by_place}

pub cases : {A B C : Type 0} → A ⊎ B → (A → C) → (B → C) → C
cases (inl a) f g = f a
cases (inr b) f g = g b

-- one place more
pub upto_more : (f : ℕ → ℕ) (n : ℕ) → upto f (n + 1) ≡ upto f n + f n
unfolding upto
upto_more f n = let e : n + 1 ≡ suc n = omega arith in ap (upto f) e

pub upto_none : (f : ℕ → ℕ) → upto f 0 ≡ 0
unfolding upto
upto_none f = refl

pub upto_same : (f g : ℕ → ℕ) (n : ℕ) → ((i : ℕ) → i < n → f i ≡ g i) → upto f n ≡ upto g n
unfolding upto
upto_same f g zero h = refl
upto_same f g (suc n) h = omega (arith, upto_same f g n (λ i l. h i (omega arith)), h n (omega arith))

pub upto_le : (f g : ℕ → ℕ) (n : ℕ) → ((i : ℕ) → i < n → f i ≤ g i) → upto f n ≤ upto g n
unfolding upto
upto_le f g zero h = omega arith
upto_le f g (suc n) h = omega (arith, upto_le f g n (λ i l. h i (omega arith)), h n (omega arith))

pub upto_add : (f g : ℕ → ℕ) (n : ℕ) → upto (λ i. f i + g i) n ≡ upto f n + upto g n
unfolding upto
upto_add f g zero = omega arith
upto_add f g (suc n) = omega (arith, upto_add f g n)

pub upto_times : (k : ℕ) (f : ℕ → ℕ) (n : ℕ) → upto (λ i. k * f i) n ≡ k * upto f n
unfolding upto
upto_times k f zero = omega arith
upto_times k f (suc n) = omega (arith, upto_times k f n, mul-add k (upto f n) (f n))

pub upto_zero : (f : ℕ → ℕ) (n : ℕ) → ((i : ℕ) → i < n → f i ≡ 0) → upto f n ≡ 0
unfolding upto
upto_zero f zero h = refl
upto_zero f (suc n) h = omega (arith, upto_zero f n (λ i l. h i (omega arith)), h n (omega arith))

pub upto_ones : (n : ℕ) → upto (λ _. 1) n ≡ n
unfolding upto
upto_ones zero = refl
upto_ones (suc n) = omega (arith, upto_ones n)

pub upto_grows : (f : ℕ → ℕ) (m n : ℕ) → m ≤ n → upto f m ≤ upto f n
unfolding upto
upto_grows f m zero l = let z : m ≡ 0 = omega arith in let e : upto f m ≡ upto f 0 = ap (upto f) z in omega arith
upto_grows f m (suc n) l = cases (cases_eq m (suc n))
    (λ e. let same : upto f m ≡ upto f (suc n) = ap (upto f) e in omega arith)
    (λ e. omega (arith, upto_grows f m n (omega arith)))

-- each one counts
pub upto_at : (f : ℕ → ℕ) (n i : ℕ) → i < n → f i ≤ upto f n
unfolding upto
upto_at f zero i l = absurd (omega arith)
upto_at f (suc n) i l = cases (cases_eq i n)
    (λ e. let same : f i ≡ f n = ap f e in omega arith)
    (λ e. omega (arith, upto_at f n i (omega arith)))

-- past the last one that counts nothing is added
pub upto_between : (f : ℕ → ℕ) (m n : ℕ) → m ≤ n → ((i : ℕ) → m ≤ i → i < n → f i ≡ 0) → upto f n ≡ upto f m
unfolding upto
upto_between f m zero l h = let e : m ≡ 0 = omega arith in ap (upto f) (sym e)
upto_between f m (suc n) l h = cases (cases_eq m (suc n))
    (λ e. ap (upto f) (sym e))
    (λ e. omega (arith, upto_between f m n (omega arith) (λ i a b. h i a (omega arith)), h n (omega arith) (omega arith)))

pub upto_past : (f : ℕ → ℕ) (m n : ℕ) → m ≤ n → ((i : ℕ) → m ≤ i → f i ≡ 0) → upto f n ≡ upto f m
upto_past f m n l h = upto_between f m n l (λ i a _. h i a)

-- a sum with one term that counts
pub upto_single : (f : ℕ → ℕ) (n j : ℕ) → j < n → ((i : ℕ) → i < n → (i ≡ j → ⊥) → f i ≡ 0) → upto f n ≡ f j
unfolding upto
upto_single f zero j l h = absurd (omega arith)
upto_single f (suc n) j l h = cases (cases_eq j n)
    (λ e. let same : f j ≡ f n = ap f e in omega (arith, upto_zero f n (λ i k. h i (omega arith) (λ x. omega arith))))
    (λ e. omega (arith, upto_single f n j (omega arith) (λ i k. h i (omega arith)), h n (omega arith) (λ x. e (sym x))))

-- a sum of sums, by columns in place of rows
pub upto_swap : (f : ℕ → ℕ → ℕ) (m n : ℕ) → upto (λ i. upto (λ a. f a i) m) n ≡ upto (λ a. upto (f a) n) m
unfolding upto
upto_swap f m zero = sym (upto_zero _ m (λ a l. refl))
upto_swap f m (suc n) = omega (arith, upto_swap f m n, upto_add (λ a. upto (f a) n) (λ a. f a n) m)

-- a smaller sum is smaller somewhere
pub somewhere_less : (f g : ℕ → ℕ) (n : ℕ) → upto f n < upto g n → (i : ℕ) × (i < n) × (f i < g i)
unfolding upto
somewhere_less f g zero l = absurd (omega arith)
somewhere_less f g (suc n) l = cases (cases_lt (f n) (g n))
    (λ here. (n, omega arith, here))
    (λ not. let s = somewhere_less f g n (omega arith) in (s.0, (let k = s.1 in omega arith), s.2))

-- Equal sums: where one is more at some place, the other is more at some place.
pub elsewhere_less : (f g : ℕ → ℕ) (n i : ℕ) → upto f n ≡ upto g n → i < n → f i < g i → (j : ℕ) × (j < n) × (g j < f j)
unfolding upto
elsewhere_less f g zero i e l h = absurd (omega arith)
elsewhere_less f g (suc n) i e l h = cases (cases_lt (g n) (f n))
    (λ here. (n, omega arith, here))
    (λ not. cases (cases_lt (upto g n) (upto f n))
    (λ more. let s = somewhere_less g f n more in (s.0, (let k = s.1 in omega arith), s.2))
    (λ no_more. cases (cases_eq i n)
    (λ at. absurd (let x : f i ≡ f n = ap f at in let y : g i ≡ g n = ap g at in omega arith))
    (λ at. let s = elsewhere_less f g n i (omega arith) (omega arith) h in (s.0, (let k = s.1 in omega arith), s.2))))

-- A sum that is nowhere more, and less at some place, is less.
pub upto_lt : (f g : ℕ → ℕ) (n i : ℕ) → ((j : ℕ) → j < n → f j ≤ g j) → i < n → f i < g i → upto f n < upto g n
upto_lt f g n i le l less = cases (cases_lt (upto f n) (upto g n)) (λ h. h)
    (λ h. absurd (let o = elsewhere_less f g n i (omega (arith, upto_le f g n le)) l less in omega (arith, le o.0 o.1, o.2)))

-- Two answers with one sum are the same where no two places can differ in opposite ways.
pub only_one : (f g : ℕ → ℕ) (n : ℕ) → upto f n ≡ upto g n →
    ((a b : ℕ) → a < n → b < n → g a < f a → f b < g b → ⊥) → (i : ℕ) → i < n → f i ≡ g i
only_one f g n e no_two i l = cases (cases_lt (f i) (g i))
    (λ less. absurd (let o = elsewhere_less f g n i e l less in no_two o.0 i o.1 l o.2 less))
    (λ not_less. cases (cases_lt (g i) (f i))
    (λ more. absurd (let o = elsewhere_less g f n i (sym e) l more in no_two i o.0 l o.1 more o.2))
    (λ not_more. omega arith))

-- an array of one value, at any place
pub alike_at : {X : Type 0} (P : X → Type 0) (n : ℕ) (x d : X) → P x → P d → (i : ℕ) → P (get_or (replicate n x) i d)
alike_at P zero x d here past i = past
alike_at P (suc n) x d here past zero = here
alike_at P (suc n) x d here past (suc i) = alike_at P n x d here past i

pub zeros : (n i : ℕ) → at_place (replicate n 0) i ≡ 0
zeros n = alike_at (λ v. v ≡ 0) n 0 0 refl refl

module _ {X : Type 0} (f : X → ℕ) where
  -- what stands at a place
  pub by_place_is : (xs : List X) (i : ℕ) (x : X) → i < length xs → x ≡ get_or xs i x → by_place f xs i ≡ f x
  by_place_is xs i x l e = get_or-map f xs i x 0 l ∙ ap f (sym e)

  pub by_place_in : (xs ys : List X) (i : ℕ) (x : X) → ys ≡ xs → i < length ys → x ≡ get_or ys i x → by_place f xs i ≡ f x
  by_place_in xs ys i x same l e = ap (λ zs. by_place f zs i) (sym same) ∙ by_place_is ys i x l e

  pub by_place_past : (xs : List X) (i : ℕ) → length xs ≤ i → by_place f xs i ≡ 0
  by_place_past xs i l = get_or_past (map f xs) i 0 (let e = length-map xs f in omega arith)

-- the first place apart
upto_first : (f : ℕ → ℕ) (n : ℕ) → upto f (suc n) ≡ f 0 + upto (λ i. f (suc i)) n
unfolding upto
upto_first f zero = omega arith
upto_first f (suc n) = omega (arith, upto_first f n)

-- the sum of a figure over a list, and of a list of numbers, is its sum over the places
pub sum_placed : {X : Type 0} (f : X → ℕ) (xs : List X) (n : ℕ) → length xs ≤ n → sum_by f xs ≡ upto (by_place f xs) n
sum_placed f [] n few = sym (upto_zero (by_place f []) n (λ i l. refl))
sum_placed f (x ∷ xs) zero few = absurd (omega arith)
sum_placed f (x ∷ xs) (suc n) few =
    let rest = sum_placed f xs n (omega arith) in
    omega (arith, sum_by-cons f x xs, upto_first (by_place f (x ∷ xs)) n, rest)

pub itself : (xs : List ℕ) → by_place (λ x. x) xs ≡ at_place xs
itself xs = ap at_place (map-id xs)

pub sum_places : (xs : List ℕ) (n : ℕ) → length xs ≤ n → sum xs ≡ upto (at_place xs) n
sum_places xs n few = sum_placed (λ x. x) xs n few ∙ ap (λ f. upto f n) (itself xs)

-- writing at one place
pub upto_set : (xs : List ℕ) (i v n : ℕ) → i < length xs → i < n → upto (at_place (set xs i v)) n + at_place xs i ≡ upto (at_place xs) n + v
unfolding upto
upto_set xs i v zero l m = absurd (omega arith)
upto_set xs i v (suc n) l m = cases (cases_eq i n)
    (λ e. let below : upto (at_place (set xs i v)) n ≡ upto (at_place xs) n = upto_same _ _ n (λ k h. get_or-set_other xs i k v 0 (omega arith)) in
    let here : at_place (set xs i v) n ≡ v = ap (at_place (set xs i v)) (sym e) ∙ get_or-set_same xs i v 0 l in
    let was : at_place xs i ≡ at_place xs n = ap (at_place xs) e in
    omega arith)
    (λ e. let ih = upto_set xs i v n l (omega arith) in
    let other : at_place (set xs i v) n ≡ at_place xs n = get_or-set_other xs i n v 0 (omega arith) in
    omega arith)
