-- The money of a day, read off its book: what the closed day answers. Assumes nothing.
use Rattle.std.specs.Prelude.{ℕ, ◌+◌, ◌-◌, ◌*◌, Bool, false, cond, ℤ, pos, is_some, Some, None, Option, ◌==◌, nat_lt}
use Rattle.sharing.specs.Places.{upto, total}
use Rattle.sharing.specs.Shares.{share_of}
use Rattle.money.specs.Money.{fee_of, producers_of, users_of, deviation_of, penalty_of}
use Rattle.day.specs.declared.book.Book.{Book}
use Rattle.day.specs.declared.book.Period.{Period}
use Rattle.day.specs.Terms.{Enrolment, nobody, unit, pool, is_unit, or_else, base_from}
use Rattle.day.specs.Reading.{seller_at, plant_at, period_at, want_at, plan_at, unit_read, plant_read, cleared_at, call_in, received_in, brought_in, price_in}

-- The call of a seller in a round of a period, and the price of the round: 0, or none, where it is not cleared.
abbrev pub call_of : Book → ℕ → ℕ → ℕ → ℕ
call_of b k p i = call_in (cleared_at (period_at b p) k) i

abbrev pub price_of : Book → ℕ → ℕ → Option ℕ
price_of b k p = price_in (cleared_at (period_at b p) k)

-- What the areas wanted together in a cleared round, and what was brought.
abbrev pub wanted_of : Book → ℕ → ℕ → ℕ
wanted_of b k p = cond (is_some (cleared_at (period_at b p) k)) (total (want_at (period_at b p) k)) 0

abbrev pub brought_of : Book → ℕ → ℕ → ℕ
brought_of b k p = brought_in (cleared_at (period_at b p) k)

-- What an area received in a round of a period.
abbrev pub received_of : Book → ℕ → ℕ → ℕ → ℕ
received_of b k p a = received_in (cleared_at (period_at b p) k) a

-- The fee of a seller in a round of a period.
abbrev pub fee : Book → ℕ → ℕ → ℕ → ℕ
fee b k p i = fee_of (or_else (price_of b k p) 0) (call_of b k p i)

-- The charge of an area in a period, over both rounds, and its two parts.
abbrev pub charge : Book → ℕ → ℕ → ℕ
charge b p a = fee_of (or_else (price_of b 0 p) 0) (received_of b 0 p a) + fee_of (or_else (price_of b 1 p) 0) (received_of b 1 p a)

abbrev pub producers : Book → ℕ → ℕ → ℕ
producers b p a = producers_of b.share.thousandths (charge b p a)

abbrev pub users : Book → ℕ → ℕ → ℕ
users b p a = users_of b.share.thousandths (charge b p a)

-- Whether a party that may have an area has this one.
abbrev pub in_area : Option ℕ → ℕ → Bool
in_area None a = false
in_area (Some x) a = x == a

-- The net energy of a plant of the area a in a period: 0 for all others.
abbrev pub net : Book → ℕ → ℕ → ℕ → ℕ
net b p a j = cond (in_area (plant_at b j) a) (plant_read (period_at b p) j) 0

-- What a party of an area gets of an amount of the area; nothing where it has none.
abbrev pub part_in : Option ℕ → (weights : ℕ → ℕ → ℕ) (amount : ℕ → ℕ) → ℕ → ℕ
part_in None weights amount i = 0
part_in (Some a) weights amount i = share_of (weights a) (amount a) i

-- The charge of a plant: its share of its area's producers' part, by net energy.
abbrev pub plant_charge : Book → ℕ → ℕ → ℕ
plant_charge b p j = part_in (plant_at b j) (net b p) (producers b p) j

-- What no plant of the area carries: all of the producers' part where none has any net energy.
abbrev pub uncarried_charge : Book → ℕ → ℕ → ℕ
uncarried_charge b p a = cond (total (net b p a) == 0) (producers b p a) 0

-- A unit's plan: its intraday base less its intraday call; and its reading: as given, or 25 for each tenth of the plan.
abbrev pub plan_in : Period → ℕ → ℕ
plan_in q i = base_from (plan_at q) (call_in (cleared_at q 0)) 1 i - call_in (cleared_at q 1) i

abbrev pub reading_in : Period → ℕ → ℕ
reading_in q i = or_else (unit_read q i) (25 * plan_in q i)

abbrev pub plan_of : Book → ℕ → ℕ → ℕ
plan_of b p = plan_in (period_at b p)

abbrev pub reading_of : Book → ℕ → ℕ → ℕ
reading_of b p = reading_in (period_at b p)

-- The deviation of a unit, with its sign: 0 where it is no unit.
abbrev pub deviation : Book → ℕ → ℕ → ℤ
deviation b p i = cond (is_unit (seller_at b i)) (deviation_of (reading_of b p i) (plan_of b p i)) (pos 0)

-- The penalty of a unit, which it pays only where it was called in either round.
abbrev pub penalty : Book → ℕ → ℕ → ℕ
penalty b p i = cond (is_unit (seller_at b i)) (penalty_of (nat_lt 0 (call_of b 0 p i + call_of b 1 p i)) (reading_of b p i) (plan_of b p i)) 0

-- The area of a unit, and that of a unit with an offer.
abbrev pub unit_area : Enrolment → Option ℕ
unit_area nobody = None
unit_area (unit a c f o) = Some a
unit_area (pool a c o) = None

abbrev pub payee_area : Enrolment → Option ℕ
payee_area nobody = None
payee_area (unit a c f None) = None
payee_area (unit a c f (Some ps)) = Some a
payee_area (pool a c o) = None

-- The penalties of an area's units in a period together.
abbrev pub fines : Book → ℕ → ℕ → ℕ
fines b p a = total (λ i. cond (in_area (unit_area (seller_at b i)) a) (penalty b p i) 0)

-- The reading of a unit of the area a that has an offer: 0 for all others.
abbrev pub payee : Book → ℕ → ℕ → ℕ → ℕ
payee b p a i = cond (in_area (payee_area (seller_at b i)) a) (reading_of b p i) 0

-- The refund of a unit: its share of its area's penalties, by reading.
abbrev pub refund : Book → ℕ → ℕ → ℕ
refund b p i = part_in (unit_area (seller_at b i)) (payee b p) (fines b p) i

-- What no unit of the area is refunded: all of the penalties where none with an offer has a reading.
abbrev pub uncarried_refund : Book → ℕ → ℕ → ℕ
uncarried_refund b p a = cond (total (payee b p a) == 0) (fines b p a) 0

-- Over the whole day: every seller's fees in both rounds; plants' charges, users' parts and uncarried producers' parts;
-- every unit's penalties; the units' refunds and the uncarried ones.
abbrev pub fees : Book → ℕ
fees b = upto (λ p. total (λ i. fee b 0 p i + fee b 1 p i)) 96

abbrev pub charges : Book → ℕ
charges b = upto (λ p. total (plant_charge b p) + upto (λ a. users b p a + uncarried_charge b p a) 8) 96

abbrev pub penalties : Book → ℕ
penalties b = upto (λ p. total (penalty b p)) 96

abbrev pub refunds : Book → ℕ
refunds b = upto (λ p. total (refund b p) + upto (uncarried_refund b p) 8) 96
