-- What calls cost and earn, and what makes a round's calls and its price the best there are. Assumes nothing.
use Rattle.std.specs.Prelude.{◌≡◌, ℕ, zero, suc, ◌+◌, ◌*◌, ◌<◌, ◌≤◌, cond, ℤ, pos, ◌-ℤ◌, ◌≤ℤ◌, ◌<ℤ◌, Some, None, Option, nat_le}
use Rattle.sharing.specs.Places.{total}
use Rattle.clearing.specs.Prices.{Least}

-- The first of the n numbers from q on at which the curve reaches j, or q + n where none does.
unfoldable pub first_reaching : (ℕ → ℕ) → ℕ → ℕ → ℕ → ℕ
first_reaching curve j zero q = q
first_reaching curve j (suc n) q = cond (nat_le j (curve q)) q (first_reaching curve j n (q + 1))

-- The offer of a seller's j-th tenth: the least price at which its curve reaches j (`Offers` says so).
unfoldable pub offer : (ℕ → ℕ) → ℕ → ℕ
offer curve j = first_reaching curve j 60 0

-- The offer of each tenth within the curve is the least price that reaches it, and no other price is.
abbrev pub Offers : (ℕ → ℕ) → Type 0
Offers curve = (j : ℕ) → j ≤ curve 60 → Least curve j (offer curve j) × ((q : ℕ) → Least curve j q → q ≡ offer curve j)

-- The sum of the first c offers.
unfoldable pub offers : (ℕ → ℕ) → ℕ → ℕ
offers curve zero = 0
offers curve (suc c) = offers curve c + offer curve (suc c)

-- What a call of c tenths costs, in fen.
abbrev pub cost : (ℕ → ℕ) → ℕ → ℕ
cost curve c = 25 * offers curve c

-- What one call on each seller costs together.
abbrev pub costs : (ℕ → ℕ → ℕ) → (ℕ → ℕ) → ℕ
costs curves calls = total (λ i. cost (curves i) (calls i))

-- What a seller called for c earns at the price r, in fen.
abbrev pub earns : (ℕ → ℕ) → ℕ → ℕ → ℤ
earns curve r c = pos (25 * r * c) -ℤ pos (cost curve c)

-- No rival that calls within the curves and brings as much or more costs less.
abbrev pub Cheapest : (ℕ → ℕ → ℕ) → (ℕ → ℕ) → Type 0
Cheapest curves calls =
    (rival : ℕ → ℕ) → ((i : ℕ) → rival i ≤ curves i 60) → total calls ≤ total rival → costs curves calls ≤ costs curves rival

-- At the price r a seller called for c earns at least what any other call within its curve would.
abbrev pub Content : ℕ → (ℕ → ℕ) → ℕ → Type 0
Content r curve c = (other : ℕ) → other ≤ curve 60 → earns curve r other ≤ℤ earns curve r c

-- At the price r a seller called for c would earn more by some other call within its curve.
abbrev pub Gains : ℕ → (ℕ → ℕ) → ℕ → Type 0
Gains r curve c = (other : ℕ) × (other ≤ curve 60) × (earns curve r c <ℤ earns curve r other)

-- Where there is a price, no seller would gain by another call, and at every lower price some seller would.
abbrev pub Settled : (ℕ → ℕ → ℕ) → Option ℕ → (ℕ → ℕ) → Type 0
Settled curves None calls = Unit {0}
Settled curves (Some p) calls =
    ((i : ℕ) → Content p (curves i) (calls i)) × ((r : ℕ) → r < p → (i : ℕ) × (i < 64) × Gains r (curves i) (calls i))
