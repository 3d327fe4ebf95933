-- Defines a unit's eight tiers: their caps, which of them a price reaches, and the power that follows.
use Rattle.std.specs.Prelude.{ℕ, zero, suc, ◌+◌, ◌-◌, ◌*◌, ◌<◌, ◌≤◌, max, cond, List, [], ◌∷◌, nat_le, slice_index, slice_index_or}

-- The most that each tier's price may be.
abbrev pub caps : List ℕ
caps = 0 ∷ 30 ∷ 30 ∷ 40 ∷ 50 ∷ 60 ∷ 60 ∷ 60 ∷ []

-- No price is above its cap.
abbrev pub Capped : List ℕ → Type 0
Capped prices = (k : ℕ) → k < 8 → slice_index prices k ≤ slice_index caps k

-- No price is below the one before it.
abbrev pub Ordered : List ℕ → Type 0
Ordered prices = (k : ℕ) → k < 7 → slice_index prices k ≤ slice_index prices (k + 1)

-- Of the tiers 0 to 7, k is the highest-numbered that is priced q or less.
pub record Reaches (prices : List ℕ) (q k : ℕ) : Type 0 where
  pub tier : k ≤ 7
  pub priced : slice_index_or prices k 0 ≤ q
  pub above : (j : ℕ) → k < j → j ≤ 7 → q < slice_index prices j

-- The highest-numbered of the tiers 1 to k that is priced q or less, and else tier 0.
unfoldable pub highest : List ℕ → ℕ → ℕ → ℕ
highest prices q zero = 0
highest prices q (suc k) = cond (nat_le (slice_index prices (suc k)) q) (suc k) (highest prices q k)

-- The lower edge of a tier, in tenths: 7 capacities for tier 0, down to 0 for tier 7.
abbrev pub edge : ℕ → ℕ → ℕ
edge capacity tier = (7 - tier) * capacity

-- What a unit offers down to a tier: its base less the tier's lower edge, and no lower than its floor.
abbrev pub down_to : ℕ → ℕ → ℕ → ℕ → ℕ
down_to capacity floor base tier = base - max floor (edge capacity tier)

-- What a unit offers at q or less: down to the highest-numbered tier priced so.
abbrev pub unit_power : ℕ → ℕ → ℕ → List ℕ → ℕ → ℕ
unit_power capacity floor base prices q = down_to capacity floor base (highest prices q 7)
