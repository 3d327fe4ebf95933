-- The calls of a round: how much of its curve each seller is called for. Assumes nothing.
use Rattle.std.specs.Prelude.{◌≡◌, ℕ, zero, suc, ◌-◌, ◌<◌, ◌≤◌, min, Some, None, Option}
use Rattle.sharing.specs.Places.{total}
use Rattle.sharing.specs.Tenths.{ByFraction}
use Rattle.clearing.specs.Prices.{offered, Least}

-- What is offered below the price p: nothing where p is 0.
abbrev pub under : (ℕ → ℕ) → ℕ → ℕ
under curve zero = 0
under curve (suc p) = curve p

-- What is offered at the price p itself.
abbrev pub at_price : (ℕ → ℕ) → ℕ → ℕ
at_price curve p = curve p - under curve p

-- At the price p each seller is called for all that it offers below p and for no more than it offers at p or less.
-- The calls add up to what is brought, and what goes out at p itself follows the fraction rule.
pub record CalledAt (weights : ℕ → ℕ) (curves : ℕ → ℕ → ℕ) (p brought : ℕ) (calls : ℕ → ℕ) : Type 0 where
  pub low : (i : ℕ) → under (curves i) p ≤ calls i
  pub high : (i : ℕ) → calls i ≤ curves i p
  pub adds : total calls ≡ brought
  pub fair : ByFraction weights (λ i. at_price (curves i) p) (λ i. calls i - under (curves i) p)

-- No price and no calls where nothing is brought; else the least price at which the curves together reach what is brought, and calls at it.
abbrev pub Priced : (ℕ → ℕ) → (ℕ → ℕ → ℕ) → ℕ → Option ℕ → (ℕ → ℕ) → Type 0
Priced weights curves brought None calls = (brought ≡ 0) × ((i : ℕ) → calls i ≡ 0)
Priced weights curves brought (Some p) calls = (0 < brought) × Least (offered curves) brought p × CalledAt weights curves p brought calls

-- What a clearing answers by the rules: brought is the smaller of wanted and available, with its price and its calls.
pub record Clears (weights : ℕ → ℕ) (curves : ℕ → ℕ → ℕ) (wanted brought : ℕ) (price : Option ℕ) (calls : ℕ → ℕ) : Type 0 where
  pub brings : brought ≡ min wanted (offered curves 60)
  pub priced : Priced weights curves brought price calls

-- Less than wanted is brought exactly where the sellers together have less.
pub record Short (curves : ℕ → ℕ → ℕ) (wanted brought : ℕ) : Type 0 where
  pub only_then : brought < wanted → offered curves 60 < wanted
  pub always_then : offered curves 60 < wanted → brought < wanted

-- Two rows of sellers with equal weights and equal powers at the prices 0 to 60.
pub record Alike (weights weights' : ℕ → ℕ) (curves curves' : ℕ → ℕ → ℕ) : Type 0 where
  pub weigh : (i : ℕ) → i < 64 → weights i ≡ weights' i
  pub offer : (i q : ℕ) → i < 64 → q ≤ 60 → curves i q ≡ curves' i q

-- Whatever clears a row like this one, for the same wanted power, is this answer.
abbrev pub OnlyAnswer : (ℕ → ℕ) → (ℕ → ℕ → ℕ) → ℕ → ℕ → Option ℕ → (ℕ → ℕ) → Type 0
OnlyAnswer weights curves wanted brought price calls =
    (weights' : ℕ → ℕ) (curves' : ℕ → ℕ → ℕ) (brought' : ℕ) (price' : Option ℕ) (calls' : ℕ → ℕ) →
    Alike weights weights' curves curves' → Clears weights' curves' wanted brought' price' calls' →
    (brought ≡ brought') × (price ≡ price') × ((i : ℕ) → i < 64 → calls i ≡ calls' i)
