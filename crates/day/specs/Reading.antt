-- What stands in a day's book. Assumes nothing.
use Rattle.std.specs.Prelude.{ℕ, List, [], take, replicate, Some, None, Option, option_map, slice_index, slice_index_or, slice_set}
use Rattle.money.specs.declared.share.Share.{Share}
use Rattle.sellers.specs.declared.step.Step.{Step}
use Rattle.sellers.specs.declared.steps.StepOffer.{StepOffer}
use Rattle.sellers.specs.declared.tiers.TierPrices.{TierPrices}
use Rattle.day.specs.declared.book.Book.{Book}
use Rattle.day.specs.declared.book.Cleared.{Cleared}
use Rattle.day.specs.declared.book.Enrolled.{Enrolled}
use Rattle.day.specs.declared.book.Period.{Period}
use Rattle.day.specs.declared.book.Role.{Role}
use Rattle.day.specs.declared.book.Role.TheVariants.{Thermal, Pooled}
use Rattle.day.specs.declared.book.Round.{Round}
use Rattle.day.specs.Terms.{Enrolment, nobody, unit, pool, base_from, called_before, curve_from}

-- What is read past the last round, and past the last period.
abbrev pub no_round : Round
no_round = record { wants = []; plans = []; cleared = None }

abbrev pub no_period : Period
no_period = record { rounds = []; units = []; plants = [] }

-- A round and a period as a day begins.
abbrev pub blank_round : Round
blank_round = record { wants = replicate 8 0; plans = replicate 64 None; cleared = None }

abbrev pub blank : Period
blank = record { rounds = replicate 2 blank_round; units = replicate 64 None; plants = replicate 64 0 }

-- A day as it is opened.
abbrev pub opened : Share → Book
opened s = record { share = s; sellers = replicate 64 None; plants = replicate 64 None; periods = replicate 96 blank }

-- The prices and the steps of an offer, if there is one.
abbrev pub prices_of : Option TierPrices → Option (List ℕ)
prices_of = option_map (λ o. o.prices)

abbrev pub steps_of : Option StepOffer → Option (List Step)
steps_of = option_map (λ o. take o.count o.steps)

abbrev pub as_role : ℕ → ℕ → Role → Enrolment
as_role a c (Thermal f o) = unit a c f.tenths (prices_of o)
as_role a c (Pooled o) = pool a c (steps_of o)

-- What an entry says in plain numbers.
abbrev pub enrolled : Option Enrolled → Enrolment
enrolled None = nobody
enrolled (Some x) = as_role x.area x.capacity.megawatts x.role

-- The seller of a number.
abbrev pub seller_at : Book → ℕ → Enrolment
seller_at b i = enrolled (slice_index_or b.sellers i None)

-- The area of a plant, if it is enrolled.
abbrev pub plant_at : Book → ℕ → Option ℕ
plant_at b j = slice_index_or b.plants j None

abbrev pub period_at : Book → ℕ → Period
period_at b p = slice_index_or b.periods p no_period

abbrev pub round_at : Period → ℕ → Round
round_at q k = slice_index_or q.rounds k no_round

abbrev pub want_at : Period → ℕ → ℕ → ℕ
want_at q k a = slice_index (round_at q k).wants a

abbrev pub plan_at : Period → ℕ → ℕ → Option ℕ
plan_at q k i = slice_index_or (round_at q k).plans i None

abbrev pub unit_read : Period → ℕ → Option ℕ
unit_read q i = slice_index_or q.units i None

abbrev pub plant_read : Period → ℕ → ℕ
plant_read q j = slice_index q.plants j

abbrev pub cleared_at : Period → ℕ → Option Cleared
cleared_at q k = (round_at q k).cleared

-- The figures of a round: 0, or no price, where it is not cleared.
abbrev pub call_in : Option Cleared → ℕ → ℕ
call_in None i = 0
call_in (Some c) i = slice_index c.calls i

abbrev pub received_in : Option Cleared → ℕ → ℕ
received_in None a = 0
received_in (Some c) a = slice_index c.received a

abbrev pub brought_in : Option Cleared → ℕ
brought_in None = 0
brought_in (Some c) = c.brought

abbrev pub price_in : Option Cleared → Option ℕ
price_in None = None
price_in (Some c) = c.price

-- The curve of a seller in a round of a period.
abbrev pub curve_in : Enrolment → Period → ℕ → ℕ → ℕ → ℕ
curve_in e q k i = curve_from e (want_at q k) (base_from (plan_at q) (call_in (cleared_at q 0)) k i) (called_before (call_in (cleared_at q 0)) k i)

-- The book with another seller, plant or period.
abbrev pub with_seller : Book → ℕ → Enrolled → Book
with_seller b i x = record { share = b.share; sellers = slice_set b.sellers i (Some x); plants = b.plants; periods = b.periods }

abbrev pub with_plant : Book → ℕ → ℕ → Book
with_plant b j a = record { share = b.share; sellers = b.sellers; plants = slice_set b.plants j (Some a); periods = b.periods }

abbrev pub with_period : Book → ℕ → Period → Book
with_period b p q = record { share = b.share; sellers = b.sellers; plants = b.plants; periods = slice_set b.periods p q }

-- A period with another round or reading.
abbrev pub with_round : Period → ℕ → Round → Period
with_round q k r = record { rounds = slice_set q.rounds k r; units = q.units; plants = q.plants }

abbrev pub with_unit_read : Period → ℕ → ℕ → Period
with_unit_read q i e = record { rounds = q.rounds; units = slice_set q.units i (Some e); plants = q.plants }

abbrev pub with_plant_read : Period → ℕ → ℕ → Period
with_plant_read q j e = record { rounds = q.rounds; units = q.units; plants = slice_set q.plants j e }

-- A round with another want, plan or clearing.
abbrev pub with_want : Round → ℕ → ℕ → Round
with_want r a w = record { wants = slice_set r.wants a w; plans = r.plans; cleared = r.cleared }

abbrev pub with_plan : Round → ℕ → ℕ → Round
with_plan r i w = record { wants = r.wants; plans = slice_set r.plans i (Some w); cleared = r.cleared }

abbrev pub with_cleared : Round → Cleared → Round
with_cleared r c = record { wants = r.wants; plans = r.plans; cleared = Some c }
