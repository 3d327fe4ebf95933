-- Every call keeps a sound book sound, so every book that calls reach is sound: it keeps to what the types of its entries do not say.
use Rattle.std.proofs.Common.{◌≡◌, ℕ, ◌*◌, ◌<◌, ◌≤◌, eqb, List, get_or, take, Some, None, Option, sym, refl, subst, arith}
use Rattle.std.proofs.lemmas.Bool.{ltb-false, cond_both}
use Rattle.money.specs.declared.share.Share.{Share}
use Rattle.sellers.specs.Faults.{TiersFault, StepsFault}
use Rattle.sellers.specs.Steps.{whole}
use Rattle.sellers.specs.declared.fault.OfferFault.{OfferFault}
use Rattle.sellers.specs.declared.step.Step.{Step}
use Rattle.day.specs.declared.book.Book.{Book}
use Rattle.day.specs.declared.book.Enrolled.{Enrolled}
use Rattle.day.specs.declared.book.Period.{Period}
use Rattle.day.specs.declared.book.Role.{Role}
use Rattle.day.specs.declared.book.Role.TheVariants.{Thermal, Pooled}
use Rattle.day.specs.declared.book.Round.{Round}
use Rattle.day.specs.declared.faults.Fault.{Fault}
use Rattle.day.specs.Bills.{unit_area}
use Rattle.day.specs.Calls.{Answer, first_hit, Answered, Checked, as_fault, Enters, Clearing, Early, enrol_unit, enrol_pool, enrol_plant, offer_unit, offer_pool, Late, plan, want, clear, read_unit, read_plant, enrol_unit_checks, enrol_pool_checks, enrol_plant_checks, offer_unit_checks, offer_pool_checks, plan_checks, want_checks, clear_checks, read_unit_checks, read_plant_checks, EarlyDoes, Does}
use Rattle.day.specs.Reading.{no_round, no_period, blank_round, blank, as_role, enrolled, seller_at, period_at, round_at, plan_at, with_round, with_period}
use Rattle.day.specs.Runs.{Opening, opens, then_early, Running, starts, then_late}
use Rattle.day.specs.Terms.{Enrolment, nobody, unit, pool, capacity_of, with_prices, with_steps, or_else, base_from}
use Rattle.day.proofs.Agree.{passed}
use Rattle.day.proofs.Writes.{each_same, each_set}

-- A floor, or steps, of at most ten times the capacity.
abbrev pub SoundRole : ℕ → Role → Type 0
SoundRole c (Thermal f o) = f.tenths ≤ 10 * c
SoundRole c (Pooled None) = Unit {0}
SoundRole c (Pooled (Some o)) = whole (take o.count o.steps) ≤ 10 * c

-- And an area there is.
abbrev pub SoundEntry : Option Enrolled → Type 0
SoundEntry None = Unit {0}
SoundEntry (Some x) = (x.area < 8) × SoundRole x.capacity.megawatts x.role

-- A number that may have been given is at most so much.
abbrev pub AtMost : ℕ → Option ℕ → Type 0
AtMost n None = Unit {0}
AtMost n (Some m) = m ≤ n

-- Every entry is sound, plants belong to areas there are, and no base is above 20,000.
abbrev pub Sound : Book → Type 0
Sound b =
    ((i : ℕ) → SoundEntry (get_or b.sellers i None)) × ((j : ℕ) → AtMost 7 (get_or b.plants j None))
    × ((p k i : ℕ) → AtMost 20000 (plan_at (period_at b p) k i))

-- a sound entry, by what it says
abbrev SoundTerms : Enrolment → Type 0
SoundTerms nobody = Unit {0}
SoundTerms (unit a c f o) = (a < 8) × (f ≤ 10 * c)
SoundTerms (pool a c None) = (a < 8) × Unit {0}
SoundTerms (pool a c (Some ss)) = (a < 8) × (whole ss ≤ 10 * c)

role_sound : (a c : ℕ) (r : Role) → SoundTerms (as_role a c r) → (a < 8) × SoundRole c r
role_sound a c (Thermal f o) h = h
role_sound a c (Pooled None) h = h
role_sound a c (Pooled (Some o)) h = h

entry_sound : (o : Option Enrolled) → SoundTerms (enrolled o) → SoundEntry o
entry_sound None h = tt
entry_sound (Some x) h = role_sound x.area x.capacity.megawatts x.role h

role_terms : (a c : ℕ) (r : Role) → (a < 8) × SoundRole c r → SoundTerms (as_role a c r)
role_terms a c (Thermal f o) h = h
role_terms a c (Pooled None) h = h
role_terms a c (Pooled (Some o)) h = h

entry_terms : (o : Option Enrolled) → SoundEntry o → SoundTerms (enrolled o)
entry_terms None h = tt
entry_terms (Some x) h = role_terms x.area x.capacity.megawatts x.role h

prices_sound : (e : Enrolment) (ps : List ℕ) → SoundTerms e → SoundTerms (with_prices ps e)
prices_sound nobody ps h = tt
prices_sound (unit a c f o) ps h = h
prices_sound (pool a c o) ps h = h

steps_sound : (e : Enrolment) (ss : List Step) → SoundTerms e → StepsFault (capacity_of e) ss None → SoundTerms (with_steps ss e)
steps_sound nobody ss h t = tt
steps_sound (unit a c f o) ss h t = h
steps_sound (pool a c None) ss h t = (h.0, t.3.1)
steps_sound (pool a c (Some old)) ss h t = (h.0, t.3.1)

capacity_low : (o : Option Enrolled) → capacity_of (enrolled o) ≤ 2000
capacity_low None = omega arith
capacity_low (Some x) = by_role x.area x.role
  where
    by_role : (a : ℕ) (r : Role) → capacity_of (as_role a x.capacity.megawatts r) ≤ 2000
    by_role a (Thermal f o) = x.capacity.most
    by_role a (Pooled o) = x.capacity.most

-- the area of a unit is one there is
unit_low : (e : Enrolment) → SoundTerms e → AtMost 7 (unit_area e)
unit_low nobody h = tt
unit_low (unit a c f o) h = let l : a < 8 = h.0 in omega arith
unit_low (pool a c o) h = tt

terms : (b : Book) → Sound b → (i : ℕ) → SoundTerms (seller_at b i)
terms b was i = entry_terms (get_or b.sellers i None) (was.0 i)

pub units_low : (b : Book) → Sound b → (i : ℕ) → AtMost 7 (unit_area (seller_at b i))
units_low b was i = unit_low (seller_at b i) (terms b was i)

-- another seller, or another period
enters_sound : (b n : Book) (i : ℕ) (e : Enrolment) → Sound b → SoundTerms e → Enters b i e n → Sound n
enters_sound b n i e was ok h =
    subst Sound (sym h.2) (each_set SoundEntry b.sellers i (Some h.0) None (entry_sound (Some h.0) (subst SoundTerms (sym h.1) ok)) was.0, was.1, was.2)

-- an offer, with a fault or with none
module _ (b n : Book) (i : ℕ) (e : Enrolment) (r : Answer) (Faulty : Option OfferFault → Type 0) (was : Sound b) (new : Faulty None → SoundTerms e) where
  answer_sound : (o : Option OfferFault) → Faulty o → Answered (as_fault o) b (Enters b i e) r n → Sound n
  answer_sound None f h = enters_sound b n i e was (new f) h.1
  answer_sound (Some x) f h = subst Sound (sym h.1) was

  offer_sound : (o : Option Fault) → Checked o b (λ a m. (x : Option OfferFault) × Faulty x × Answered (as_fault x) b (Enters b i e) a m) r n → Sound n
  offer_sound None h = answer_sound h.0 h.1 h.2
  offer_sound (Some x) h = subst Sound (sym h.1) was

period_sound : (b : Book) (p : ℕ) (q : Period) → Sound b → ((k i : ℕ) → AtMost 20000 (plan_at q k i)) → Sound (with_period b p q)
period_sound b p q was new =
    (was.0, was.1, λ n k i. each_set (λ x. AtMost 20000 (plan_at x k i)) b.periods p q no_period (new k i) (λ j. was.2 j k i) n)

round_sound : (b : Book) (p k : ℕ) (r : Round) → Sound b → ((i : ℕ) → AtMost 20000 (get_or r.plans i None)) → Sound (with_period b p (with_round (period_at b p) k r))
round_sound b p k r was new =
    period_sound b p (with_round (period_at b p) k r) was
    (λ j i. each_set (λ x. AtMost 20000 (get_or x.plans i None)) (period_at b p).rounds k r no_round (new i) (λ n. was.2 p n i) j)

-- refused, or done
answered_sound : (o : Option Fault) (b : Book) (New : Book → Type 0) (r : Answer) (n : Book) → Sound b → (o ≡ None → New n → Sound n) → Answered o b New r n → Sound n
answered_sound None b New r n was does h = does refl h.1
answered_sound (Some x) b New r n was does h = subst Sound (sym h.1) was

-- every call keeps the book sound

pub early_sound : (c : Early) (b : Book) (r : Answer) (n : Book) → Sound b → EarlyDoes c b r n → Sound n
early_sound (enrol_unit i a c m) b r n was =
    answered_sound (first_hit (enrol_unit_checks b i a c m)) b (Enters b i (unit a c m None)) r n was (λ free.
    let ok = passed (enrol_unit_checks b i a c m) free in
    enters_sound b n i (unit a c m None) was (omega (arith, ltb-false 7 a ok.1.1.1.1.0), ltb-false (10 * c) m ok.1.1.1.0))
early_sound (enrol_pool i a c) b r n was =
    answered_sound (first_hit (enrol_pool_checks b i a c)) b (Enters b i (pool a c None)) r n was (λ free.
    enters_sound b n i (pool a c None) was (omega (arith, ltb-false 7 a (passed (enrol_pool_checks b i a c) free).1.1.1.0), tt))
early_sound (enrol_plant j a) b r n was =
    answered_sound (first_hit (enrol_plant_checks b j a)) b _ r n was (λ free e.
    subst Sound (sym e) (was.0, each_set (AtMost 7) b.plants j (Some a) None (ltb-false 7 a (passed (enrol_plant_checks b j a) free).0) was.1, was.2))
early_sound (offer_unit i ps) b r n was =
    offer_sound b n i (with_prices ps (seller_at b i)) r (TiersFault ps) was (λ _. prices_sound (seller_at b i) ps (terms b was i)) (first_hit (offer_unit_checks b i))
early_sound (offer_pool i ss) b r n was =
    offer_sound b n i (with_steps ss (seller_at b i)) r (StepsFault (capacity_of (seller_at b i)) ss) was (steps_sound (seller_at b i) ss (terms b was i)) (first_hit (offer_pool_checks b i))

pub late_sound : (p : ℕ) (c : Late) (b : Book) (r : Answer) (n : Book) → Sound b → Does p c b r n → Sound n
late_sound p (plan k i w) b r n was =
    answered_sound (first_hit (plan_checks b p k i w)) b _ r n was (λ free e.
    let most = ltb-false (10 * capacity_of (seller_at b i)) w (passed (plan_checks b p k i w) free).1.1.1.1.0 in
    let low = capacity_low (get_or b.sellers i None) in
    subst Sound (sym e) (round_sound b p k _ was (each_set (AtMost 20000) (round_at (period_at b p) k).plans i (Some w) None (omega arith) (was.2 p k))))
late_sound p (want k a w) b r n was = answered_sound (first_hit (want_checks b p k a w)) b _ r n was (λ _ e. subst Sound (sym e) (round_sound b p k _ was (was.2 p k)))
late_sound p (clear k) b r n was = answered_sound (first_hit (clear_checks b p k)) b (Clearing b p k) r n was (λ _ e. subst Sound (sym e.2) (round_sound b p k _ was (was.2 p k)))
late_sound p (read_unit i x) b r n was = answered_sound (first_hit (read_unit_checks b p i x)) b _ r n was (λ _ e. subst Sound (sym e) (period_sound b p _ was (was.2 p)))
late_sound p (read_plant j x) b r n was = answered_sound (first_hit (read_plant_checks b p j x)) b _ r n was (λ _ e. subst Sound (sym e) (period_sound b p _ was (was.2 p)))

-- and so does every run of them

pub sound_opening : (s : Share) {es : List (Early × Answer)} {b : Book} → Opening s es b → Sound b
sound_opening s opens = (
  each_same SoundEntry 64 None None tt tt,
  each_same (AtMost 7) 64 None None tt tt,
  λ p k i. each_same (λ q. AtMost 20000 (plan_at q k i)) 96 blank no_period (each_same (λ r. AtMost 20000 (get_or r.plans i None)) 2 blank_round no_round (each_same (AtMost 20000) 64 None None tt tt i) tt k) tt p,
)
sound_opening s (then_early {b = b} {b' = n} c r run h) = early_sound c b r n (sound_opening s run) h

pub sound : (s : Share) {es : List (Early × Answer)} {ls : List ((ℕ × Late) × Answer)} {b : Book} → Running s es ls b → Sound b
sound s (starts run) = sound_opening s run
sound s (then_late {b = b} {b' = n} p c r run h) = late_sound p c b r n (sound s run) h

-- no base is above what is planned
pub base_low : (planned : ℕ → ℕ → Option ℕ) (called : ℕ → ℕ) → ((k i : ℕ) → AtMost 20000 (planned k i)) → (k i : ℕ) → base_from planned called k i ≤ 20000
base_low planned called most k i = or_low (planned k i) _ (most k i) (cond_both (eqb k 0) 0 _ (λ n. n ≤ 20000) (λ _. omega arith) (λ _. let l = or_low (planned 0 i) 0 (most 0 i) (omega arith) in omega arith))
  where
    or_low : (o : Option ℕ) (n : ℕ) → AtMost 20000 o → n ≤ 20000 → or_else o n ≤ 20000
    or_low None n a l = l
    or_low (Some m) n a l = a
