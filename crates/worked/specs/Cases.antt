-- Defines worked cases of the market's rules, and what it is for a case to hold.
use Rattle.std.specs.Prelude.{◌≡◌, ℕ, ◌<◌, true, List, [], ◌∷◌, Some, None, Option}
use Rattle.sharing.specs.Places.{total, at_place, by_place}
use Rattle.sharing.specs.Shares.{SharedOut}
use Rattle.sharing.specs.Tenths.{ByFraction}
use Rattle.sellers.specs.Tiers.{unit_power}
use Rattle.clearing.specs.Calls.{Clears}
use Rattle.clearing.specs.Prices.{curves_at}
use Rattle.money.specs.Money.{penalty_of}

-- A thermal unit and its offer: its capacity in megawatts, its floor and base in tenths of one, and the prices of its eight tiers.
pub record UnitOf : Type 0 where
  pub capacity : ℕ
  pub floor : ℕ
  pub base : ℕ
  pub prices : List ℕ

-- What a unit offers at a price or less.
abbrev pub power_of_unit : UnitOf → ℕ → ℕ
power_of_unit u = unit_power u.capacity u.floor u.base u.prices

-- A case: what goes in, and what the rules make of it.
pub data Case : Type 0 where
  -- A round over units: what is wanted of them, what they bring, at what price, and the call of each by its number.
  cleared : (units : List UnitOf) (wanted brought : ℕ) (price : Option ℕ) (calls : List ℕ) → Case
  -- A share-out: the weights of the parties, the amount, and the share of each.
  shared : (weights : List ℕ) (amount : ℕ) (shares : List ℕ) → Case
  -- Tenths by the fraction rule: the weights of the parties, the tenths that each has room for, and those that each is given.
  tenths : (weights rooms given : List ℕ) → Case
  -- A penalty: the plan of a unit that was called, its reading, and what it owes.
  penalty : (plan reading due : ℕ) → Case

-- The rules make of the case what it says: a unit weighs its capacity, and a share-out is one among parties of some weight.
abbrev pub Holds : Case → Type 0
Holds (cleared units wanted brought price calls) = Clears (by_place (λ u. u.capacity) units) (curves_at power_of_unit units) wanted brought price (at_place calls)
Holds (shared weights amount shares) = (0 < total (at_place weights)) × SharedOut (at_place weights) amount (at_place shares)
Holds (tenths weights rooms given) = ByFraction (at_place weights) (at_place rooms) (at_place given)
Holds (penalty plan reading due) = penalty_of true reading plan ≡ due

-- The prices that both units offer.
abbrev pub tier_prices : List ℕ
tier_prices = 0 ∷ 10 ∷ 10 ∷ 20 ∷ 30 ∷ 30 ∷ 30 ∷ 30 ∷ []

-- Two units: 600 megawatts from 480 down to 180, and 300 megawatts from 210 down to 90.
abbrev pub two_units : List UnitOf
two_units = record { capacity = 600; floor = 1800; base = 4800; prices = tier_prices } ∷ record { capacity = 300; floor = 900; base = 2100; prices = tier_prices } ∷ []

-- The worked cases.
abbrev pub worked : List Case
worked =
    -- 150 megawatts are cleared at 10: all that costs less, and the rest by capacity.
    cleared two_units 1500 1500 (Some 10) (1200 ∷ 300 ∷ []) ∷
    -- Nothing is wanted: no price and no calls.
    cleared two_units 0 0 None (0 ∷ 0 ∷ []) ∷
    -- 50 megawatts cost nothing, and one unit offers them.
    cleared two_units 500 500 (Some 0) (500 ∷ 0 ∷ []) ∷
    -- 500 megawatts are more than there is: all of it is called.
    cleared two_units 5000 4200 (Some 30) (3000 ∷ 1200 ∷ []) ∷
    -- Three areas that want as much share 100 megawatts: the odd tenth goes to the first.
    shared (500 ∷ 500 ∷ 500 ∷ []) 1000 (334 ∷ 333 ∷ 333 ∷ []) ∷
    -- The first tenth, the second and the third of a party of 600 and one of 300.
    tenths (600 ∷ 300 ∷ []) (3 ∷ 3 ∷ []) (1 ∷ 0 ∷ []) ∷
    tenths (600 ∷ 300 ∷ []) (3 ∷ 3 ∷ []) (2 ∷ 0 ∷ []) ∷
    tenths (600 ∷ 300 ∷ []) (3 ∷ 3 ∷ []) (2 ∷ 1 ∷ []) ∷
    -- Penalties of 6,000 fen are refunded to two units by their readings.
    shared (92000 ∷ 45000 ∷ []) 6000 (4029 ∷ 1971 ∷ []) ∷
    -- A plan of 360 megawatts is 90,000 kilowatt-hours: a reading 1,800 off costs nothing, and one more off costs 30 fen, above the plan and below.
    penalty 3600 91800 0 ∷
    penalty 3600 91801 30 ∷
    penalty 3600 88199 30 ∷ []
