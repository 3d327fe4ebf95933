-- The book of every run agrees with the calls accepted in it, by induction over the run.
use Rattle.std.proofs.Common.{◌≡◌, ℕ, ◌<◌, ◌≤◌, Bool, true, false, cond, eqb, List, [], ◌∷◌, length, get_or, replicate, Some, None, sym, refl, ap, ◌∙◌, subst, subst₂, arith, length-set}
use mathlib.Core.Path.{fun_ext}
use Rattle.std.proofs.lemmas.List.{get_or-replicate, get_or_past}
use Rattle.std.proofs.lemmas.Bool.{ltb-false, eqb-true, ne_eqb, cond-false}
use Rattle.money.specs.declared.share.Share.{Share}
use Rattle.day.specs.declared.book.Book.{Book}
use Rattle.day.specs.declared.book.Cleared.{Cleared}
use Rattle.day.specs.declared.book.Enrolled.{Enrolled}
use Rattle.day.specs.declared.book.Period.{Period}
use Rattle.day.specs.Calls.{Answer, as_fault, Early, enrol_unit, enrol_pool, enrol_plant, offer_unit, offer_pool, Late, plan, want, clear, read_unit, read_plant, enrol_unit_checks, enrol_pool_checks, enrol_plant_checks, offer_unit_checks, offer_pool_checks, plan_checks, want_checks, clear_checks, read_unit_checks, read_plant_checks}
use Rattle.day.specs.History.{accepted, enrolment, plant_in, on, latest_want, curve_given}
use Rattle.day.specs.Reading.{no_period, blank, enrolled, seller_at, plant_at, period_at, want_at, cleared_at, call_in, received_in, curve_in, with_seller, with_plant, with_period}
use Rattle.day.specs.Rounds.{Stands}
use Rattle.day.specs.Runs.{Opening, opens, then_early, Running, starts, then_late}
use Rattle.day.specs.Terms.{Enrolment, unit, pool, nobody, capacity_of, with_prices, with_steps, base_from, called_before, curve_from}
use Rattle.day.proofs.Agree.{passed, step, step_checked, Agrees, blank_agrees, Cleanly, after_want, after_plan, after_read_unit, after_read_plant, after_clear}
use Rattle.day.proofs.Writes.{write, part_write, each_same}

-- before the offers are closed

record EarlyAgrees (s : Share) (es : List Early) (b : Book) : Type 0 where
  pub share : b.share ≡ s
  pub many : length b.sellers ≡ 64
  pub sellers : (i : ℕ) → seller_at b i ≡ enrolment es i
  pub more : length b.plants ≡ 64
  pub plants : (j : ℕ) → plant_at b j ≡ plant_in es j
  pub fresh : b.periods ≡ replicate 96 blank

same_there : (β : Bool) (x y z : Enrolment) → (β ≡ true → x ≡ y) → cond β x z ≡ cond β y z
same_there true x y z h = h refl
same_there false x y z h = refl

-- a seller is another, and the list of calls says so
after_enter : (s : Share) (es : List Early) (b : Book) (c : Early) (i : ℕ) (e : Enrolment) (x : Enrolled) → i ≤ 63 → EarlyAgrees s es b → ((j : ℕ) → cond (eqb i j) e (enrolment es j) ≡ enrolment (c ∷ es) j) → ((j : ℕ) → plant_in es j ≡ plant_in (c ∷ es) j) → enrolled (Some x) ≡ e → EarlyAgrees s (c ∷ es) (with_seller b i x)
after_enter s es b c i e x low was says keeps is =
    record {
      share = was.share;
      many = length-set b.sellers i (Some x) ∙ was.many;
      sellers = λ j. part_write enrolled b.sellers i (Some x) None (omega (arith, was.many)) j ∙ ap (λ y. cond (eqb i j) y (seller_at b j)) is ∙ ap (cond (eqb i j) e) (was.sellers j) ∙ says j;
      more = was.more;
      plants = λ j. was.plants j ∙ keeps j;
      fresh = was.fresh;
    }

after_plant : (s : Share) (es : List Early) (b : Book) (j a : ℕ) → j ≤ 63 → EarlyAgrees s es b → EarlyAgrees s (enrol_plant j a ∷ es) (with_plant b j a)
after_plant s es b j a low was =
    record {
      share = was.share;
      many = was.many;
      sellers = was.sellers;
      more = length-set b.plants j (Some a) ∙ was.more;
      plants = λ n. write b.plants j (Some a) None (omega (arith, was.more)) n ∙ ap (cond (eqb j n) (Some a)) (was.plants n);
      fresh = was.fresh;
    }

early : (s : Share) {es : List (Early × Answer)} {b : Book} → Opening s es b → EarlyAgrees s (accepted es) b
early s opens = record { share = refl; many = refl; sellers = each_same (λ o. enrolled o ≡ nobody) 64 None None refl refl; more = refl; plants = each_same (λ o. o ≡ None) 64 None None refl refl; fresh = refl }
early s (then_early {es = es} {b = b} {b' = b'} (enrol_unit i a c m) r run h) =
    step (EarlyAgrees s) es (enrol_unit i a c m) _ b _ r b' (early s run) (λ free n e.
    subst (EarlyAgrees s (enrol_unit i a c m ∷ accepted es)) (sym e.2)
    (after_enter s (accepted es) b (enrol_unit i a c m) i (unit a c m None) e.0 (ltb-false 63 i (passed (enrol_unit_checks b i a c m) free).0) (early s run) (λ j. refl) (λ j. refl) e.1)) h
early s (then_early {es = es} {b = b} {b' = b'} (enrol_pool i a c) r run h) =
    step (EarlyAgrees s) es (enrol_pool i a c) _ b _ r b' (early s run) (λ free n e.
    subst (EarlyAgrees s (enrol_pool i a c ∷ accepted es)) (sym e.2)
    (after_enter s (accepted es) b (enrol_pool i a c) i (pool a c None) e.0 (ltb-false 63 i (passed (enrol_pool_checks b i a c) free).0) (early s run) (λ j. refl) (λ j. refl) e.1)) h
early s (then_early {es = es} {b = b} {b' = b'} (enrol_plant j a) r run h) =
    step (EarlyAgrees s) es (enrol_plant j a) _ b _ r b' (early s run) (λ free n e.
    subst (EarlyAgrees s (enrol_plant j a ∷ accepted es)) (sym e) (after_plant s (accepted es) b j a (ltb-false 63 j (passed (enrol_plant_checks b j a) free).1.0) (early s run))) h
early s (then_early {es = es} {b = b} {b' = b'} (offer_unit i ps) r run h) =
    let was = early s run in
    step_checked (EarlyAgrees s) es (offer_unit i ps) _ b _ r b' was (λ free more.
    step (EarlyAgrees s) es (offer_unit i ps) (as_fault more.0) b _ r b' was (λ _ n e.
    subst (EarlyAgrees s (offer_unit i ps ∷ accepted es)) (sym e.2)
    (after_enter s (accepted es) b (offer_unit i ps) i (with_prices ps (seller_at b i)) e.0 (ltb-false 63 i (passed (offer_unit_checks b i) free).0) was
    (λ j. same_there (eqb i j) _ _ _ (λ t. ap (with_prices ps) (was.sellers i ∙ ap (enrolment (accepted es)) (eqb-true i j t)))) (λ j. refl) e.1)) more.2) h
early s (then_early {es = es} {b = b} {b' = b'} (offer_pool i ss) r run h) =
    let was = early s run in
    step_checked (EarlyAgrees s) es (offer_pool i ss) _ b _ r b' was (λ free more.
    step (EarlyAgrees s) es (offer_pool i ss) (as_fault more.0) b _ r b' was (λ _ n e.
    subst (EarlyAgrees s (offer_pool i ss ∷ accepted es)) (sym e.2)
    (after_enter s (accepted es) b (offer_pool i ss) i (with_steps ss (seller_at b i)) e.0 (ltb-false 63 i (passed (offer_pool_checks b i) free).0) was
    (λ j. same_there (eqb i j) _ _ _ (λ t. ap (with_steps ss) (was.sellers i ∙ ap (enrolment (accepted es)) (eqb-true i j t)))) (λ j. refl) e.1)) more.2) h

-- after

pub record DayAgrees (s : Share) (es : List Early) (ls : List (ℕ × Late)) (b : Book) : Type 0 where
  pub share : b.share ≡ s
  pub sellers : (i : ℕ) → seller_at b i ≡ enrolment es i
  pub nobody_past : (i : ℕ) → 64 ≤ i → enrolment es i ≡ nobody
  pub plants : (j : ℕ) → plant_at b j ≡ plant_in es j
  pub long : length b.periods ≡ 96
  pub each : (p : ℕ) → p < 96 → Agrees es (on p ls) (period_at b p)
  pub beyond : (p : ℕ) → 96 ≤ p → on p ls ≡ []

-- one period changes, and the others do not hear of it
module _ (s : Share) (es : List Early) (ls : List (ℕ × Late)) (b : Book) (p : ℕ) (c : Late) (q : Period) (low : p < 96) (was : DayAgrees s es ls b) (new : Agrees es (c ∷ on p ls) q) where
  here : (j : ℕ) → j < 96 → (β : Bool) → (β ≡ true → p ≡ j) → Agrees es (cond β (c ∷ on j ls) (on j ls)) (cond β q (period_at b j))
  here j h true same = subst (λ m. Agrees es (c ∷ on m ls) q) (same refl) new
  here j h false same = was.each j h

  put : DayAgrees s es ((p, c) ∷ ls) (with_period b p q)
  put =
      record {
        share = was.share;
        sellers = was.sellers;
        nobody_past = was.nobody_past;
        plants = was.plants;
        long = length-set b.periods p q ∙ was.long;
        each = λ j h. subst (Agrees es (on j ((p, c) ∷ ls))) (sym (write b.periods p q no_period (omega (arith, was.long)) j)) (here j h (eqb p j) (eqb-true p j));
        beyond = λ j h. cond-false (eqb p j) (c ∷ on j ls) (on j ls) (ne_eqb p j (λ e. omega arith)) ∙ was.beyond j h;
      }

-- the round that the book clears is the round that the calls give
same_round : (es : List Early) (ls : List Late) (b : Book) (q : Period) (k : ℕ) (c : Cleared) → ((i : ℕ) → seller_at b i ≡ enrolment es i) → Agrees es ls q →
    Stands (λ i. capacity_of (seller_at b i)) (λ i. curve_in (seller_at b i) q k i) (want_at q k) c.brought c.price (call_in (Some c)) (received_in (Some c)) →
    Cleanly es ls (cleared_at q 0) k c
same_round es ls b q k c sell was ok =
    let called : ℕ → ℕ = call_in (cleared_at q 0) in
    subst (λ f. Stands f (curve_given es ls called k) (latest_want ls k) c.brought c.price (call_in (Some c)) (received_in (Some c))) (λ t i. capacity_of (sell i t))
    (subst₂ (λ f g. Stands (λ i. capacity_of (seller_at b i)) f g c.brought c.price (call_in (Some c)) (received_in (Some c)))
    (λ t i. curve_from (sell i t) (λ a. was.wants k a t) (base_from (λ j n. was.plans j n t) called k i) (called_before called k i))
    (fun_ext (was.wants k)) ok)

pub late : (s : Share) {es : List (Early × Answer)} {ls : List ((ℕ × Late) × Answer)} {b : Book} → Running s es ls b → DayAgrees s (accepted es) (accepted ls) b
late s (starts {b = b} run) =
    let was = early s run in
    record {
      share = was.share;
      sellers = was.sellers;
      nobody_past = λ i past. sym (was.sellers i) ∙ ap enrolled (get_or_past b.sellers i None (omega (arith, was.many)));
      plants = was.plants;
      long = ap length was.fresh;
      each = λ p h. subst (Agrees _ []) (sym (ap (λ l. get_or l p no_period) was.fresh ∙ get_or-replicate 96 p blank no_period h)) (blank_agrees _);
      beyond = λ p h. refl;
    }
late s {es = es} (then_late {ls = ls} {b = b} {b' = b'} p (plan k i w) r run h) =
    step (DayAgrees s (accepted es)) ls (p, plan k i w) _ b _ r b' (late s run) (λ free n e.
    let ok = passed (plan_checks b p k i w) free in
    let low : p < 96 = omega (arith, ltb-false 95 p ok.1.1.1.0) in
    subst (DayAgrees s (accepted es) ((p, plan k i w) ∷ accepted ls)) (sym e) (put s _ _ b p (plan k i w) _ low (late s run)
    (after_plan _ _ (period_at b p) k (omega (arith, ltb-false 1 k ok.1.1.0)) ((late s run).each p low) i w (omega (arith, ltb-false 63 i ok.0))))) h
late s {es = es} (then_late {ls = ls} {b = b} {b' = b'} p (want k a w) r run h) =
    step (DayAgrees s (accepted es)) ls (p, want k a w) _ b _ r b' (late s run) (λ free n e.
    let ok = passed (want_checks b p k a w) free in
    let low : p < 96 = omega (arith, ltb-false 95 p ok.1.1.0) in
    subst (DayAgrees s (accepted es) ((p, want k a w) ∷ accepted ls)) (sym e) (put s _ _ b p (want k a w) _ low (late s run)
    (after_want _ _ (period_at b p) k (omega (arith, ltb-false 1 k ok.1.0)) ((late s run).each p low) a w (omega (arith, ltb-false 7 a ok.0))))) h
late s {es = es} (then_late {ls = ls} {b = b} {b' = b'} p (clear k) r run h) =
    step (DayAgrees s (accepted es)) ls (p, clear k) _ b _ r b' (late s run) (λ free n e.
    let ok = passed (clear_checks b p k) free in
    let was = late s run in
    let low : p < 96 = omega (arith, ltb-false 95 p ok.1.0) in
    subst (DayAgrees s (accepted es) ((p, clear k) ∷ accepted ls)) (sym e.2) (put s _ _ b p (clear k) _ low was
    (after_clear _ _ (period_at b p) k e.0 (omega (arith, ltb-false 1 k ok.0)) ok.1.1.0 ok.1.1.1.0
    (same_round _ _ b (period_at b p) k e.0 was.sellers (was.each p low) e.1) (was.each p low)))) h
late s {es = es} (then_late {ls = ls} {b = b} {b' = b'} p (read_unit i x) r run h) =
    step (DayAgrees s (accepted es)) ls (p, read_unit i x) _ b _ r b' (late s run) (λ free n e.
    let ok = passed (read_unit_checks b p i x) free in
    let low : p < 96 = omega (arith, ltb-false 95 p ok.1.1.0) in
    subst (DayAgrees s (accepted es) ((p, read_unit i x) ∷ accepted ls)) (sym e) (put s _ _ b p (read_unit i x) _ low (late s run)
    (after_read_unit _ _ (period_at b p) ((late s run).each p low) i x (omega (arith, ltb-false 63 i ok.0))))) h
late s {es = es} (then_late {ls = ls} {b = b} {b' = b'} p (read_plant i x) r run h) =
    step (DayAgrees s (accepted es)) ls (p, read_plant i x) _ b _ r b' (late s run) (λ free n e.
    let ok = passed (read_plant_checks b p i x) free in
    let low : p < 96 = omega (arith, ltb-false 95 p ok.1.1.0) in
    subst (DayAgrees s (accepted es) ((p, read_plant i x) ∷ accepted ls)) (sym e) (put s _ _ b p (read_plant i x) _ low (late s run)
    (after_read_plant _ _ (period_at b p) ((late s run).each p low) i x (omega (arith, ltb-false 63 i ok.0))))) h
