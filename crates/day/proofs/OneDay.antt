-- A day is settled by its calls: the same calls have the same answers, and the same is read of the day.
use Rattle.std.proofs.Common.{◌≡◌, ℕ, ◌<◌, ◌≤◌, List, ◌∷◌, is_some, Some, None, Ok, Err, Option, sym, refl, ap, ◌∙◌, subst, subst₂, arith}
use Rattle.std.proofs.lemmas.List.{get_or_past}
use Rattle.std.proofs.lemmas.Bool.{cases_lt}
use Rattle.money.specs.declared.share.Share.{Share}
use Rattle.sellers.specs.Faults.{TiersFault, StepsFault}
use Rattle.sellers.specs.declared.fault.OfferFault.{OfferFault}
use Rattle.sellers.proofs.Pinned.{tiers_fault_only, steps_fault_only}
use Rattle.sharing.proofs.Sums.{cases}
use Rattle.day.specs.declared.book.Book.{Book}
use Rattle.day.specs.declared.book.Period.{Period}
use Rattle.day.specs.declared.faults.Fault.{Fault}
use Rattle.day.specs.Calls.{Answer, Answered, Checked, as_fault, first_hit, Early, enrol_unit, enrol_pool, enrol_plant, offer_unit, offer_pool, Late, plan, want, clear, read_unit, read_plant, enrol_unit_checks, enrol_pool_checks, enrol_plant_checks, offer_unit_checks, offer_pool_checks, plan_checks, want_checks, clear_checks, read_unit_checks, read_plant_checks, EarlyDoes, Does}
use Rattle.day.specs.History.{on}
use Rattle.day.specs.Only.{asked, SameDay, OnlyDay}
use Rattle.day.specs.Reading.{no_period, seller_at, plant_at, period_at, want_at, plan_at, unit_read, plant_read, cleared_at}
use Rattle.day.specs.Runs.{Opening, opens, then_early, Running, starts, then_late}
use Rattle.day.specs.Terms.{capacity_of}
use Rattle.day.proofs.Days.{DayAgrees, late}
use Rattle.day.proofs.OneRound.{SameRound, one_round}
use Rattle.day.proofs.Soundness.{AtMost, sound}

-- what is answered where so much is found wrong

abbrev said : Option Fault → Answer
said None = Ok tt
said (Some e) = Err e

answer_said : (o : Option Fault) (old : Book) (New : Book → Type 0) (r : Answer) (n : Book) → Answered o old New r n → r ≡ said o
answer_said None old New r n h = h.0
answer_said (Some e) old New r n h = h.0

module _ (b b' n n' : Book) {r r' : Answer} where
  one_answer : (o o' : Option Fault) (New New' : Book → Type 0) → o ≡ o' → Answered o b New r n → Answered o' b' New' r' n' → r ≡ r'
  one_answer o o' New New' same h h' = answer_said o b New r n h ∙ ap said same ∙ sym (answer_said o' b' New' r' n' h')

  -- an offer that passes the checks has one fault or none
  one_offer : (Faulty Faulty' : Option OfferFault → Type 0) → ((x y : Option OfferFault) → Faulty x → Faulty' y → x ≡ y) → (New New' : Book → Type 0) (o o' : Option Fault) → o ≡ o' →
      Checked o b (λ a m. (x : Option OfferFault) × Faulty x × Answered (as_fault x) b New a m) r n →
      Checked o' b' (λ a m. (x : Option OfferFault) × Faulty' x × Answered (as_fault x) b' New' a m) r' n' → r ≡ r'
  one_offer Faulty Faulty' only New New' None None same h h' = one_answer (as_fault h.0) (as_fault h'.0) New New' (ap as_fault (only h.0 h'.0 h.1 h'.1)) h.2 h'.2
  one_offer Faulty Faulty' only New New' (Some e) (Some e') same h h' = h.0 ∙ ap said same ∙ sym h'.0
  one_offer Faulty Faulty' only New New' None (Some e) same h h' = absurd (let z : ◌≡◌ {A = ℕ} 0 1 = cc in omega arith)
  one_offer Faulty Faulty' only New New' (Some e) None same h h' = absurd (let z : ◌≡◌ {A = ℕ} 0 1 = cc in omega arith)

-- the checks of a call read no more than what is the same

pub one_early : (c : Early) {b b' : Book} (n n' : Book) {r r' : Answer} → SameDay b b' → EarlyDoes c b r n → EarlyDoes c b' r' n' → r ≡ r'
one_early (enrol_unit s a c m) {b} {b'} n n' same = one_answer b b' n n' (first_hit (enrol_unit_checks b s a c m)) (first_hit (enrol_unit_checks b' s a c m)) _ _ (cc (same.sellers s))
one_early (enrol_pool s a c) {b} {b'} n n' same = one_answer b b' n n' (first_hit (enrol_pool_checks b s a c)) (first_hit (enrol_pool_checks b' s a c)) _ _ (cc (same.sellers s))
one_early (enrol_plant j a) {b} {b'} n n' same = one_answer b b' n n' (first_hit (enrol_plant_checks b j a)) (first_hit (enrol_plant_checks b' j a)) _ _ (cc (same.plants j))
one_early (offer_unit s ps) {b} {b'} n n' same =
    one_offer b b' n n' (TiersFault ps) (TiersFault ps) (tiers_fault_only ps) _ _ (first_hit (offer_unit_checks b s)) (first_hit (offer_unit_checks b' s)) (cc (same.sellers s))
one_early (offer_pool s ss) {b} {b'} n n' same =
    one_offer b b' n n' (StepsFault (capacity_of (seller_at b s)) ss) (StepsFault (capacity_of (seller_at b' s)) ss)
    (λ x y f g. steps_fault_only (capacity_of (seller_at b' s)) ss x y (subst (λ e. StepsFault (capacity_of e) ss x) (same.sellers s) f) g) _ _
    (first_hit (offer_pool_checks b s)) (first_hit (offer_pool_checks b' s)) (cc (same.sellers s))

pub one_late : (p : ℕ) (c : Late) {b b' : Book} (n n' : Book) {r r' : Answer} → SameDay b b' → Does p c b r n → Does p c b' r' n' → r ≡ r'
one_late p (plan k i w) {b} {b'} n n' same =
    one_answer b b' n n' (first_hit (plan_checks b p k i w)) (first_hit (plan_checks b' p k i w)) _ _ (cc (same.sellers i, same.cleared p k, same.cleared p 0, same.calls p 0 i))
one_late p (want k a w) {b} {b'} n n' same =
    one_answer b b' n n' (first_hit (want_checks b p k a w)) (first_hit (want_checks b' p k a w)) _ _ (cc (same.cleared p k, same.cleared p 0))
one_late p (clear k) {b} {b'} n n' same =
    one_answer b b' n n' (first_hit (clear_checks b p k)) (first_hit (clear_checks b' p k)) _ _ (cc (same.cleared p k, same.cleared p 0))
one_late p (read_unit i e) {b} {b'} n n' same =
    one_answer b b' n n' (first_hit (read_unit_checks b p i e)) (first_hit (read_unit_checks b' p i e)) _ _ (cc (same.sellers i, same.cleared p 1))
one_late p (read_plant j e) {b} {b'} n n' same =
    one_answer b b' n n' (first_hit (read_plant_checks b p j e)) (first_hit (read_plant_checks b' p j e)) _ _ (cc (same.plants j))

-- the same calls with the same answers leave the same to be read

record SamePeriod (q q' : Period) : Type 0 where
  pub wants : (k a : ℕ) → want_at q k a ≡ want_at q' k a
  pub plans : (k i : ℕ) → plan_at q k i ≡ plan_at q' k i
  pub units : (i : ℕ) → unit_read q i ≡ unit_read q' i
  pub plants : (j : ℕ) → plant_read q j ≡ plant_read q' j
  pub cleared : (k : ℕ) → is_some (cleared_at q k) ≡ is_some (cleared_at q' k)
  pub rounds : (k : ℕ) → SameRound (cleared_at q k) (cleared_at q' k)

as_itself : (q : Period) → SamePeriod q q
as_itself q = record { wants = λ k a. refl; plans = λ k i. refl; units = λ i. refl; plants = λ j. refl; cleared = λ k. refl; rounds = λ k. (refl, refl, λ i. refl, λ a _. refl) }

module _ (s : Share) (es : List Early) (ls : List (ℕ × Late)) (b b' : Book) (was : DayAgrees s es ls b) (was' : DayAgrees s es ls b') where
  one_period : (p : ℕ) → SamePeriod (period_at b p) (period_at b' p)
  one_period p = cases (cases_lt p 96)
      (λ low.
      let at = was.each p low in
      let at' = was'.each p low in
      record {
        wants = λ k a. at.wants k a ∙ sym (at'.wants k a);
        plans = λ k i. at.plans k i ∙ sym (at'.plans k i);
        units = λ i. at.units i ∙ sym (at'.units i);
        plants = λ j. at.plants j ∙ sym (at'.plants j);
        cleared = λ k. at.rounds.3 k ∙ sym (at'.rounds.3 k);
        rounds = one_round es (on p ls) was.nobody_past _ _ at.rounds at'.rounds;
      })
      (λ high. subst₂ SamePeriod (sym (get_or_past b.periods p no_period (omega (arith, was.long)))) (sym (get_or_past b'.periods p no_period (omega (arith, was'.long)))) (as_itself no_period))

  one_reading : ((j a : ℕ) → plant_at b j ≡ Some a → a < 8) → SameDay b b'
  one_reading placed =
      record {
        share = ap (λ x. x.thousandths) (was.share ∙ sym was'.share);
        sellers = λ i. was.sellers i ∙ sym (was'.sellers i);
        plants = λ j. was.plants j ∙ sym (was'.plants j);
        placed = placed;
        wants = λ p. (one_period p).wants;
        plans = λ p. (one_period p).plans;
        unit_reads = λ p. (one_period p).units;
        plant_reads = λ p. (one_period p).plants;
        cleared = λ p. (one_period p).cleared;
        brought = λ p k. ((one_period p).rounds k).0;
        prices = λ p k. ((one_period p).rounds k).1;
        calls = λ p k. ((one_period p).rounds k).2;
        received = λ p k. ((one_period p).rounds k).3;
      }

pub one_running : (s : Share) {es : List (Early × Answer)} {ls : List ((ℕ × Late) × Answer)} {b b' : Book} → Running s es ls b → Running s es ls b' → SameDay b b'
one_running s run run' = one_reading s _ _ _ _ (late s run) (late s run') (λ j a is. let l : a ≤ 7 = subst (AtMost 7) is ((sound s run).1 j) in omega arith)

pub one_opening : (s : Share) {es : List (Early × Answer)} {b b' : Book} → Opening s es b → Opening s es b' → SameDay b b'
one_opening s run run' = one_running s (starts run) (starts run')

-- the same calls have the same answers

early_answers : (s : Share) {es es' : List (Early × Answer)} {b b' : Book} → Opening s es b → Opening s es' b' → asked es ≡ asked es' → es ≡ es'
early_answers s opens opens same = refl
early_answers s opens (then_early c r run h) same = absurd (let z : ◌≡◌ {A = ℕ} 0 1 = cc in omega arith)
early_answers s (then_early c r run h) opens same = absurd (let z : ◌≡◌ {A = ℕ} 0 1 = cc in omega arith)
early_answers s (then_early {es = es} {b = b} {b' = n} c r run h) (then_early {es = es'} {b = b'} {b' = n'} c' r' run' h') same =
    let call : c ≡ c' = cc in
    let before : es ≡ es' = early_answers s run run' (cc) in
    let day : SameDay b b' = one_opening s run (subst (λ e. Opening s e b') (sym before) run') in
    let answer : r ≡ r' = one_early c n n' day h (subst (λ x. EarlyDoes x b' r' n') (sym call) h') in
    λ t. (call t, answer t) ∷ before t

late_answers : (s : Share) {es : List (Early × Answer)} {ls ls' : List ((ℕ × Late) × Answer)} {b b' : Book} → Running s es ls b → Running s es ls' b' → asked ls ≡ asked ls' → ls ≡ ls'
late_answers s (starts run) (starts run') same = refl
late_answers s (starts run) (then_late p c r run' h) same = absurd (let z : ◌≡◌ {A = ℕ} 0 1 = cc in omega arith)
late_answers s (then_late p c r run h) (starts run') same = absurd (let z : ◌≡◌ {A = ℕ} 0 1 = cc in omega arith)
late_answers s {es} (then_late {ls = ls} {b = b} {b' = n} p c r run h) (then_late {ls = ls'} {b = b'} {b' = n'} p' c' r' run' h') same =
    let head : ◌≡◌ {A = ℕ × Late} (p, c) (p', c') = cc in
    let before : ls ≡ ls' = late_answers s run run' (cc) in
    let day : SameDay b b' = one_running s run (subst (λ l. Running s es l b') (sym before) run') in
    let answer : r ≡ r' = one_late p c n n' day h (subst (λ x. Does x.0 x.1 b' r' n') (sym head) h') in
    λ t. (head t, answer t) ∷ before t

opening_of : (s : Share) {es : List (Early × Answer)} {ls : List ((ℕ × Late) × Answer)} {b : Book} → Running s es ls b → (n : Book) × Opening s es n
opening_of s (starts {b = b} run) = (b, run)
opening_of s (then_late p c r run h) = opening_of s run

pub only_day : OnlyDay
only_day s es es' ls ls' b b' run run' early late =
    let first : es ≡ es' = early_answers s (opening_of s run).1 (opening_of s run').1 early in
    let again : Running s es ls' b' = subst (λ e. Running s e ls' b') (sym first) run' in
    let then : ls ≡ ls' = late_answers s run again late in
    (first, then, one_running s run (subst (λ l. Running s es l b') (sym then) again))
