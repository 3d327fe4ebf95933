-- A call that passes its checks does what it says. Assumes nothing.
use Rattle.std.proofs.Common.{◌≡◌, ℕ, ◌*◌, ◌%◌, Bool, false, not, ◌&&◌, ◌||◌, eqb, ltb, List, [], ◌∷◌, get_or, take, is_some, Some, None, Ok, Err, Option, sym, refl, ap, ◌∙◌, subst, subst₂}
use Rattle.std.proofs.lemmas.Bool.{cond-false}
use Rattle.sellers.specs.Faults.{TiersFault, StepsFault}
use Rattle.sellers.specs.declared.capacity.Capacity.{Capacity}
use Rattle.sellers.specs.declared.fault.OfferFault.{OfferFault}
use Rattle.sellers.specs.declared.power.Power.{Power}
use Rattle.sellers.specs.declared.step.Step.{Step}
use Rattle.sellers.specs.declared.steps.StepOffer.{StepOffer}
use Rattle.sellers.specs.declared.tiers.TierPrices.{TierPrices}
use Rattle.day.specs.declared.book.Book.{Book}
use Rattle.day.specs.declared.book.Cleared.{Cleared}
use Rattle.day.specs.declared.book.Enrolled.{Enrolled}
use Rattle.day.specs.declared.book.Period.{Period}
use Rattle.day.specs.declared.book.Role.TheVariants.{Thermal, Pooled}
use Rattle.day.specs.declared.faults.Fault.{Fault}
use Rattle.day.specs.declared.faults.Fault.TheVariants as f
use Rattle.day.specs.Calls.{Passed, Answer, Answered, Checked, first_hit, Enters, Clearing, enrol_unit, enrol_pool, enrol_plant, offer_unit, offer_pool, plan, want, clear, read_unit, read_plant, free_checks, known_checks, open_checks, enrol_unit_checks, enrol_pool_checks, enrol_plant_checks, offer_unit_checks, offer_pool_checks, plan_checks, want_checks, clear_checks, read_unit_checks, read_plant_checks, EarlyDoes, Does}
use Rattle.day.specs.Reading.{enrolled, as_role, prices_of, steps_of, seller_at, plant_at, period_at, round_at, want_at, cleared_at, call_in, received_in, curve_in, with_seller, with_plant, with_period, with_round, with_unit_read, with_plant_read, with_want, with_plan, with_cleared}
use Rattle.day.specs.Rounds.{Stands}
use Rattle.day.specs.Terms.{unit, pool, is_unit, is_pool, capacity_of, with_prices, with_steps}

none : (cs : List (Bool × Fault)) → Passed cs → first_hit cs ≡ None
none [] h = refl
none (c ∷ cs) h = cond-false c.0 (Some c.1) (first_hit cs) h.0 ∙ none cs h.1

accepted : (cs : List (Bool × Fault)) (old : Book) (New : Book → Type 0) (b : Book) → Passed cs → New b → Answered (first_hit cs) old New (Ok tt) b
accepted cs old New b h n = subst (λ o. Answered o old New (Ok tt) b) (sym (none cs h)) (refl, n)

checked : (cs : List (Bool × Fault)) (old : Book) (More : Answer → Book → Type 0) (r : Answer) (b : Book) → Passed cs → More r b → Checked (first_hit cs) old More r b
checked cs old More r b h m = subst (λ o. Checked o old More r b) (sym (none cs h)) m

-- the enrolments

module _ (b : Book) (s a c at : ℕ) (capacity : Capacity) (free : Passed (free_checks (seller_at b s) s) × (at ≡ s)) (rated : ((eqb c 0 || ltb 2000 c) ≡ false) × (capacity.megawatts ≡ c)) (area : ltb 7 a ≡ false) where
  pub enrols_unit : (m : ℕ) (floor : Power) → (ltb (10 * capacity.megawatts) m ≡ false) × (floor.tenths ≡ m) → EarlyDoes (enrol_unit s a c m) b (Ok tt) (with_seller b at (record { area = a; capacity = capacity; role = Thermal floor None }))
  enrols_unit m floor low =
      accepted (enrol_unit_checks b s a c m) b (Enters b s (unit a c m None)) _
      (free.0.0, (free.0.1.0, (rated.0, (subst (λ n. ltb (10 * n) m ≡ false) rated.1 low.0, (area, tt)))))
      (record { area = a; capacity = capacity; role = Thermal floor None }, (λ t. unit a (rated.1 t) (low.1 t) None), (λ t. with_seller b (free.1 t) (record { area = a; capacity = capacity; role = Thermal floor None })))

  pub enrols_pool : EarlyDoes (enrol_pool s a c) b (Ok tt) (with_seller b at (record { area = a; capacity = capacity; role = Pooled None }))
  enrols_pool =
      accepted (enrol_pool_checks b s a c) b (Enters b s (pool a c None)) _
      (free.0.0, (free.0.1.0, (rated.0, (area, tt))))
      (record { area = a; capacity = capacity; role = Pooled None }, (λ t. pool a (rated.1 t) None), (λ t. with_seller b (free.1 t) (record { area = a; capacity = capacity; role = Pooled None })))

pub enrols_plant : (b : Book) (j a at : ℕ) → ltb 7 a ≡ false → (ltb 63 j ≡ false) × (at ≡ j) → is_some (plant_at b at) ≡ false → EarlyDoes (enrol_plant j a) b (Ok tt) (with_plant b at a)
enrols_plant b j a at area low vacant =
    accepted (enrol_plant_checks b j a) b (λ n. n ≡ with_plant b j a) _
    (area, (low.0, (subst (λ n. is_some (plant_at b n) ≡ false) low.1 vacant, tt)))
    (λ t. with_plant b (low.1 t) a)

-- the offers

module _ (b : Book) (s at : ℕ) (who : Enrolled) (known : Passed (known_checks (get_or b.sellers s None) s) × ((at ≡ s) × (get_or b.sellers s None ≡ Some who))) where
  module _ (ps : List ℕ) (floor : Power) (old : Option TierPrices) (role : who.role ≡ Thermal floor old) where
    is_thermal : seller_at b s ≡ unit who.area who.capacity.megawatts floor.tenths (prices_of old)
    is_thermal = ap enrolled known.1.1 ∙ ap (as_role who.area who.capacity.megawatts) role

    right_unit : Passed (offer_unit_checks b s)
    right_unit = (known.0.0, (ap (λ e. not (is_unit e)) is_thermal, tt))

    pub offers_unit : (o : TierPrices) → TiersFault ps None × (o.prices ≡ ps) → EarlyDoes (offer_unit s ps) b (Ok tt) (with_seller b at (record { area = who.area; capacity = who.capacity; role = Thermal floor (Some o) }))
    offers_unit o made =
        checked (offer_unit_checks b s) b _ _ _ right_unit (
          None,
          made.0,
          (
            refl,
            (
              record { area = who.area; capacity = who.capacity; role = Thermal floor (Some o) },
              (λ t. unit who.area who.capacity.megawatts floor.tenths (Some (made.1 t))) ∙ sym (ap (with_prices ps) is_thermal),
              (λ t. with_seller b (known.1.0 t) (record { area = who.area; capacity = who.capacity; role = Thermal floor (Some o) })),
            ),
          ),
        )

    pub refuses_prices : (wrong : OfferFault) → TiersFault ps (Some wrong) → EarlyDoes (offer_unit s ps) b (Err (f.Offer wrong)) b
    refuses_prices wrong h = checked (offer_unit_checks b s) b _ _ _ right_unit (Some wrong, h, (refl, refl))

  module _ (ss : List Step) (old : Option StepOffer) (role : who.role ≡ Pooled old) where
    is_pooled : seller_at b s ≡ pool who.area who.capacity.megawatts (steps_of old)
    is_pooled = ap enrolled known.1.1 ∙ ap (as_role who.area who.capacity.megawatts) role

    right_pool : Passed (offer_pool_checks b s)
    right_pool = (known.0.0, (ap (λ e. not (is_pool e)) is_pooled, tt))

    pub offers_pool : (o : StepOffer) → StepsFault who.capacity.megawatts ss None × (take o.count o.steps ≡ ss) → EarlyDoes (offer_pool s ss) b (Ok tt) (with_seller b at (record { area = who.area; capacity = who.capacity; role = Pooled (Some o) }))
    offers_pool o made =
        checked (offer_pool_checks b s) b _ _ _ right_pool (
          None,
          subst (λ n. StepsFault n ss None) (sym (ap capacity_of is_pooled)) made.0,
          (
            refl,
            (
              record { area = who.area; capacity = who.capacity; role = Pooled (Some o) },
              (λ t. pool who.area who.capacity.megawatts (Some (made.1 t))) ∙ sym (ap (with_steps ss) is_pooled),
              (λ t. with_seller b (known.1.0 t) (record { area = who.area; capacity = who.capacity; role = Pooled (Some o) })),
            ),
          ),
        )

    pub refuses_steps : (wrong : OfferFault) → StepsFault who.capacity.megawatts ss (Some wrong) → EarlyDoes (offer_pool s ss) b (Err (f.Offer wrong)) b
    refuses_steps wrong h = checked (offer_pool_checks b s) b _ _ _ right_pool (Some wrong, subst (λ n. StepsFault n ss (Some wrong)) (sym (ap capacity_of is_pooled)) h, (refl, refl))

-- the calls of a running day, for the period p, which is found at `at`

module _ (b : Book) (p at : ℕ) (day : (ltb 95 p ≡ false) × (at ≡ p)) where
  module _ (q : Period) (read : q ≡ period_at b at) where
    seen : q ≡ period_at b p
    seen = read ∙ ap (period_at b) day.1

    module _ (k kind index : ℕ) (round : (ltb 1 k ≡ false) × (kind ≡ k)) (open_ : Passed (open_checks q kind)) (place : index ≡ kind) where
      still : Passed (open_checks (period_at b p) k)
      still = subst₂ (λ x m. Passed (open_checks x m)) seen round.1 open_

      placed : index ≡ k
      placed = place ∙ round.1

      pub plans : (i w j : ℕ) (capacity : Capacity) → (ltb 63 i ≡ false) × (j ≡ i) → (not (is_unit (seller_at b j)) ≡ false) × (capacity.megawatts ≡ capacity_of (seller_at b j)) → ltb (10 * capacity.megawatts) w ≡ false → (eqb kind 1 && ltb 0 (call_in (cleared_at q 0) j)) ≡ false →
          Does p (plan k i w) b (Ok tt) (with_period b at (with_round (period_at b at) index (with_plan (round_at (period_at b at) index) j w)))
      plans i w j capacity low is base uncalled =
          accepted (plan_checks b p k i w) b _ _ (
            low.0,
            (
              subst (λ n. not (is_unit (seller_at b n)) ≡ false) low.1 is.0,
              (
                round.0,
                (
                  day.0,
                  (
                    subst (λ n. ltb (10 * n) w ≡ false) (is.1 ∙ ap (λ n. capacity_of (seller_at b n)) low.1) base,
                    (still.0, (still.1.0, ((λ t. eqb (sym round.1 t) 1 && ltb 0 (call_in (cleared_at (sym seen t) 0) (sym low.1 t))) ∙ uncalled, tt))),
                  ),
                ),
              ),
            ),
          )
          (λ t. with_period b (day.1 t) (with_round (period_at b (day.1 t)) (placed t) (with_plan (round_at (period_at b (day.1 t)) (placed t)) (low.1 t) w)))

      pub wants : (a w n : ℕ) → (ltb 7 a ≡ false) × (n ≡ a) → (not (eqb (w % 500) 0) || ltb 200000 w) ≡ false →
          Does p (want k a w) b (Ok tt) (with_period b at (with_round (period_at b at) index (with_want (round_at (period_at b at) index) n w)))
      wants a w n low fits =
          accepted (want_checks b p k a w) b _ _ (low.0, (round.0, (day.0, (fits, (still.0, (still.1.0, tt))))))
          (λ t. with_period b (day.1 t) (with_round (period_at b (day.1 t)) (placed t) (with_want (round_at (period_at b (day.1 t)) (placed t)) (low.1 t) w)))

      pub clears : (c : Cleared) → Stands (λ i. capacity_of (seller_at b i)) (λ i. curve_in (seller_at b i) q kind i) (want_at q kind) c.brought c.price (call_in (Some c)) (received_in (Some c)) →
          Does p (clear k) b (Ok tt) (with_period b at (with_round (period_at b at) index (with_cleared (round_at (period_at b at) index) c)))
      clears c stands =
          accepted (clear_checks b p k) b (Clearing b p k) _ (round.0, (day.0, (still.0, (still.1.0, tt)))) (
            c,
            subst₂ (λ x m. Stands (λ i. capacity_of (seller_at b i)) (λ i. curve_in (seller_at b i) x m i) (want_at x m) c.brought c.price (call_in (Some c)) (received_in (Some c))) seen round.1 stands,
            (λ t. with_period b (day.1 t) (with_round (period_at b (day.1 t)) (placed t) (with_cleared (round_at (period_at b (day.1 t)) (placed t)) c))),
          )

    pub reads_unit : (i e j : ℕ) → (ltb 63 i ≡ false) × (j ≡ i) → not (is_unit (seller_at b j)) ≡ false → not (is_some (cleared_at q 1)) ≡ false → ltb 1000000 e ≡ false → Does p (read_unit i e) b (Ok tt) (with_period b at (with_unit_read (period_at b at) j e))
    reads_unit i e j low is after fits =
        accepted (read_unit_checks b p i e) b _ _
        (low.0, (subst (λ n. not (is_unit (seller_at b n)) ≡ false) low.1 is, (day.0, (subst (λ x. not (is_some (cleared_at x 1)) ≡ false) seen after, (fits, tt)))))
        (λ t. with_period b (day.1 t) (with_unit_read (period_at b (day.1 t)) (low.1 t) e))

  pub reads_plant : (i e j a : ℕ) → (ltb 63 i ≡ false) × (j ≡ i) → plant_at b j ≡ Some a → ltb 1000000 e ≡ false → Does p (read_plant i e) b (Ok tt) (with_period b at (with_plant_read (period_at b at) j e))
  reads_plant i e j a low is fits =
      accepted (read_plant_checks b p i e) b _ _
      (low.0, (ap (λ o. not (is_some o)) (ap (plant_at b) (sym low.1) ∙ is), (day.0, (fits, tt))))
      (λ t. with_period b (day.1 t) (with_plant_read (period_at b (day.1 t)) (low.1 t) e))
