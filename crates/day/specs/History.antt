-- What the accepted calls of a day give, read off the list of calls, latest first. Assumes nothing.
use Rattle.std.specs.Prelude.{ℕ, Bool, false, cond, ◌&&◌, ◌||◌, List, [], ◌∷◌, Some, None, Ok, Err, Option, ◌==◌}
use Rattle.day.specs.Calls.{Answer, Early, enrol_unit, enrol_pool, enrol_plant, offer_unit, offer_pool, Late, plan, want, clear, read_unit, read_plant}
use Rattle.day.specs.Terms.{Enrolment, nobody, unit, pool, with_prices, with_steps, base_from, called_before, curve_from}

-- The calls that were not refused.
abbrev pub accepted : {C : Type 0} → List (C × Answer) → List C
accepted [] = []
accepted (e ∷ es) = elim e.1 [ Ok u ↦ e.0 ∷ accepted es | Err x ↦ accepted es ]

-- What a seller is enrolled as, with its latest offer.
abbrev pub enrolment : List Early → ℕ → Enrolment
enrolment [] i = nobody
enrolment (enrol_unit s a c m ∷ es) i = cond (s == i) (unit a c m None) (enrolment es i)
enrolment (enrol_pool s a c ∷ es) i = cond (s == i) (pool a c None) (enrolment es i)
enrolment (enrol_plant j a ∷ es) i = enrolment es i
enrolment (offer_unit s ps ∷ es) i = cond (s == i) (with_prices ps (enrolment es i)) (enrolment es i)
enrolment (offer_pool s ss ∷ es) i = cond (s == i) (with_steps ss (enrolment es i)) (enrolment es i)

-- The area that a plant is enrolled in.
abbrev pub plant_in : List Early → ℕ → Option ℕ
plant_in [] j = None
plant_in (enrol_unit s a c m ∷ es) j = plant_in es j
plant_in (enrol_pool s a c ∷ es) j = plant_in es j
plant_in (enrol_plant x a ∷ es) j = cond (x == j) (Some a) (plant_in es j)
plant_in (offer_unit s ps ∷ es) j = plant_in es j
plant_in (offer_pool s ss ∷ es) j = plant_in es j

-- The calls for one period.
abbrev pub on : ℕ → List (ℕ × Late) → List Late
on p [] = []
on p (c ∷ cs) = cond (c.0 == p) (c.1 ∷ on p cs) (on p cs)

-- An area's latest want in a round, or 0.
abbrev pub latest_want : List Late → ℕ → ℕ → ℕ
latest_want [] k a = 0
latest_want (plan j i w ∷ ls) k a = latest_want ls k a
latest_want (want j x w ∷ ls) k a = cond (j == k && x == a) w (latest_want ls k a)
latest_want (clear j ∷ ls) k a = latest_want ls k a
latest_want (read_unit i e ∷ ls) k a = latest_want ls k a
latest_want (read_plant i e ∷ ls) k a = latest_want ls k a

-- A unit's latest plan in a round.
abbrev pub latest_plan : List Late → ℕ → ℕ → Option ℕ
latest_plan [] k i = None
latest_plan (plan j s w ∷ ls) k i = cond (j == k && s == i) (Some w) (latest_plan ls k i)
latest_plan (want j a w ∷ ls) k i = latest_plan ls k i
latest_plan (clear j ∷ ls) k i = latest_plan ls k i
latest_plan (read_unit s e ∷ ls) k i = latest_plan ls k i
latest_plan (read_plant s e ∷ ls) k i = latest_plan ls k i

-- A unit's latest reading.
abbrev pub latest_unit_read : List Late → ℕ → Option ℕ
latest_unit_read [] i = None
latest_unit_read (plan j s w ∷ ls) i = latest_unit_read ls i
latest_unit_read (want j a w ∷ ls) i = latest_unit_read ls i
latest_unit_read (clear j ∷ ls) i = latest_unit_read ls i
latest_unit_read (read_unit s e ∷ ls) i = cond (s == i) (Some e) (latest_unit_read ls i)
latest_unit_read (read_plant s e ∷ ls) i = latest_unit_read ls i

-- A plant's latest reading, or 0.
abbrev pub latest_plant_read : List Late → ℕ → ℕ
latest_plant_read [] i = 0
latest_plant_read (plan j s w ∷ ls) i = latest_plant_read ls i
latest_plant_read (want j a w ∷ ls) i = latest_plant_read ls i
latest_plant_read (clear j ∷ ls) i = latest_plant_read ls i
latest_plant_read (read_unit s e ∷ ls) i = latest_plant_read ls i
latest_plant_read (read_plant s e ∷ ls) i = cond (s == i) e (latest_plant_read ls i)

-- Whether a round was cleared.
abbrev pub was_cleared : List Late → ℕ → Bool
was_cleared [] k = false
was_cleared (plan j s w ∷ ls) k = was_cleared ls k
was_cleared (want j a w ∷ ls) k = was_cleared ls k
was_cleared (clear j ∷ ls) k = j == k || was_cleared ls k
was_cleared (read_unit s e ∷ ls) k = was_cleared ls k
was_cleared (read_plant s e ∷ ls) k = was_cleared ls k

-- The curve of a seller in a round, if the day-ahead round called the sellers for this much.
abbrev pub curve_given : List Early → List Late → (called : ℕ → ℕ) → ℕ → ℕ → ℕ → ℕ
curve_given es ls called k i = curve_from (enrolment es i) (latest_want ls k) (base_from (latest_plan ls) called k i) (called_before called k i)
