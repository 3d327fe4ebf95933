-- Who is served first: the two orders of claims, and what a list in order owes. Assumes nothing.
use Rattle.std.specs.Prelude.{◌≡◌, ℕ, ◌*◌, ◌<◌, Bool, false, cond, List, length, ◌==◌, nat_lt, slice_index_or}
use Rattle.std.specs.Slice.Heapsort.{IsHeapWithin}

-- The greater of the remainders a and b comes first, and of equals the one with the lower number, i or j.
abbrev pub most_first : ℕ → ℕ → ℕ → ℕ → Bool
most_first a i b j = cond (a == b) (nat_lt i j) (nat_lt b a)

-- The lesser of the fractions a / u and b / v comes first, and of equals the one with the lower number, i or j.
abbrev pub least_first : ℕ → ℕ → ℕ → ℕ → ℕ → ℕ → Bool
least_first a u i b v j = cond (a * v == b * u) (nat_lt i j) (nat_lt (a * v) (b * u))

-- x is served after y.
abbrev pub behind : {X : Type 0} → (X → X → Bool) → X → X → Bool
behind ahead x y = ahead y x

-- The claims stand as a heap: none is ahead of its parent.
abbrev pub Queued : {X : Type 0} → (X → X → Bool) → List X → Type 0
Queued ahead xs = IsHeapWithin (behind ahead) xs 0 (length xs)

-- Nothing in the list is ahead of x.
abbrev pub First : {X : Type 0} → (X → X → Bool) → X → List X → Type 0
First {X} ahead x xs = (k : ℕ) (d : X) → k < length xs → ahead (slice_index_or xs k d) x ≡ false
