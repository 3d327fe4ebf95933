-- What each call does to a day's book, and when it is refused. Assumes nothing.
use Rattle.std.specs.Prelude.{◌≡◌, ℕ, ◌*◌, ◌%◌, Bool, true, false, cond, not, ◌&&◌, ◌||◌, List, [], ◌∷◌, is_some, Some, None, Ok, Err, Option, Result, MatchResult, ◌==◌, nat_lt}
use Rattle.sellers.specs.Faults.{TiersFault, StepsFault}
use Rattle.sellers.specs.declared.fault.OfferFault.{OfferFault}
use Rattle.sellers.specs.declared.step.Step.{Step}
use Rattle.day.specs.declared.book.Book.{Book}
use Rattle.day.specs.declared.book.Cleared.{Cleared}
use Rattle.day.specs.declared.book.Enrolled.{Enrolled}
use Rattle.day.specs.declared.book.Period.{Period}
use Rattle.day.specs.declared.faults.Fault.{Fault}
use Rattle.day.specs.declared.faults.Fault.TheVariants as f
use Rattle.day.specs.Terms.{Enrolment, unit, pool, is_unit, is_pool, capacity_of, with_prices, with_steps}
use Rattle.day.specs.Rounds.{Stands}
use Rattle.day.specs.Reading.{enrolled, seller_at, plant_at, period_at, round_at, want_at, cleared_at, call_in, received_in, curve_in, with_seller, with_plant, with_period, with_round, with_unit_read, with_plant_read, with_want, with_plan, with_cleared}

-- Done, or refused.
abbrev pub Answer : Type 0
Answer = Result (Unit {0}) Fault

-- The first of the checks that hits, in their order.
abbrev pub first_hit : List (Bool × Fault) → Option Fault
first_hit [] = None
first_hit (c ∷ cs) = cond c.0 (Some c.1) (first_hit cs)

-- None of the checks hits.
abbrev pub Passed : List (Bool × Fault) → Type 0
Passed [] = Unit {0}
Passed (c ∷ cs) = (c.0 ≡ false) × Passed cs

-- A check that is passed with what it makes, or refuses with its fault.
abbrev pub Tested : {X : Type 0} → Bool → Fault → (X → Type 0) → Result X Fault → Type 0
Tested hits fault Made r = MatchResult r (λ x. (hits ≡ false) × Made x) (λ f. (hits ≡ true) × (f ≡ fault))

-- All of these checks are passed with what they make, or the first that hits refuses.
abbrev pub TestedAll : {X : Type 0} → List (Bool × Fault) → (X → Type 0) → Result X Fault → Type 0
TestedAll cs Made r = MatchResult r (λ x. Passed cs × Made x) (λ f. first_hit cs ≡ Some f)

-- A refused call leaves the book as it was; an accepted one leaves a book of which New holds.
abbrev pub Answered : Option Fault → Book → (Book → Type 0) → Answer → Book → Type 0
Answered None old New r b = (r ≡ Ok tt) × New b
Answered (Some e) old New r b = (r ≡ Err e) × (b ≡ old)

-- A call that passes its checks goes on to be answered as More says.
abbrev pub Checked : Option Fault → Book → (Answer → Book → Type 0) → Answer → Book → Type 0
Checked None old More r b = More r b
Checked (Some e) old More r b = (r ≡ Err e) × (b ≡ old)

abbrev pub as_fault : Option OfferFault → Option Fault
as_fault None = None
as_fault (Some o) = Some (f.Offer o)

-- Only the seller of that number is another: one that says e.
abbrev pub Enters : Book → ℕ → Enrolment → Book → Type 0
Enters b i e n = (x : Enrolled) × (enrolled (Some x) ≡ e) × (n ≡ with_seller b i x)

-- Only the clearing of that round is another: one that stands on the round's sellers and wants.
abbrev pub Clearing : Book → ℕ → ℕ → Book → Type 0
Clearing b p k n =
    (c : Cleared) × Stands (λ i. capacity_of (seller_at b i)) (λ i. curve_in (seller_at b i) (period_at b p) k i) (want_at (period_at b p) k) c.brought c.price (call_in (Some c)) (received_in (Some c))
    × (n ≡ with_period b p (with_round (period_at b p) k (with_cleared (round_at (period_at b p) k) c)))

-- What an opening day takes.
pub data Early : Type 0 where
  enrol_unit : (seller area capacity floor : ℕ) → Early
  enrol_pool : (seller area capacity : ℕ) → Early
  enrol_plant : (plant area : ℕ) → Early
  offer_unit : (seller : ℕ) (prices : List ℕ) → Early
  offer_pool : (seller : ℕ) (steps : List Step) → Early

-- What a running day takes for one of its periods.
pub data Late : Type 0 where
  plan : (round seller power : ℕ) → Late
  want : (round area power : ℕ) → Late
  clear : (round : ℕ) → Late
  read_unit : (seller energy : ℕ) → Late
  read_plant : (plant energy : ℕ) → Late

-- The first checks of both enrolments of a seller, those of an offer of anyone, and those of a call for a round that may still be changed.
abbrev pub free_checks : Enrolment → ℕ → List (Bool × Fault)
free_checks e s = (nat_lt 63 s, f.Seller) ∷ (is_unit e || is_pool e, f.SellerTwice) ∷ []

abbrev pub known_checks : Option Enrolled → ℕ → List (Bool × Fault)
known_checks e s = (nat_lt 63 s, f.Seller) ∷ (not (is_some e), f.NotSuch) ∷ []

abbrev pub open_checks : Period → ℕ → List (Bool × Fault)
open_checks q k = (is_some (cleared_at q k), f.Cleared) ∷ (k == 1 && not (is_some (cleared_at q 0)), f.NotCleared) ∷ []

-- The checks of each call, in rising number.
abbrev pub enrol_unit_checks : Book → ℕ → ℕ → ℕ → ℕ → List (Bool × Fault)
enrol_unit_checks b s a c m =
    (nat_lt 63 s, f.Seller) ∷ (is_unit (seller_at b s) || is_pool (seller_at b s), f.SellerTwice) ∷ (c == 0 || nat_lt 2000 c, f.Capacity)
    ∷ (nat_lt (10 * c) m, f.Floor) ∷ (nat_lt 7 a, f.Area) ∷ []

abbrev pub enrol_pool_checks : Book → ℕ → ℕ → ℕ → List (Bool × Fault)
enrol_pool_checks b s a c =
    (nat_lt 63 s, f.Seller) ∷ (is_unit (seller_at b s) || is_pool (seller_at b s), f.SellerTwice) ∷ (c == 0 || nat_lt 2000 c, f.Capacity)
    ∷ (nat_lt 7 a, f.Area) ∷ []

abbrev pub enrol_plant_checks : Book → ℕ → ℕ → List (Bool × Fault)
enrol_plant_checks b j a = (nat_lt 7 a, f.Area) ∷ (nat_lt 63 j, f.Plant) ∷ (is_some (plant_at b j), f.PlantTwice) ∷ []

abbrev pub offer_unit_checks : Book → ℕ → List (Bool × Fault)
offer_unit_checks b s = (nat_lt 63 s, f.Seller) ∷ (not (is_unit (seller_at b s)), f.NotSuch) ∷ []

abbrev pub offer_pool_checks : Book → ℕ → List (Bool × Fault)
offer_pool_checks b s = (nat_lt 63 s, f.Seller) ∷ (not (is_pool (seller_at b s)), f.NotSuch) ∷ []

abbrev pub plan_checks : Book → ℕ → ℕ → ℕ → ℕ → List (Bool × Fault)
plan_checks b p k i w =
    (nat_lt 63 i, f.Seller) ∷ (not (is_unit (seller_at b i)), f.NotSuch) ∷ (nat_lt 1 k, f.Round) ∷ (nat_lt 95 p, f.Period)
    ∷ (nat_lt (10 * capacity_of (seller_at b i)) w, f.Base) ∷ (is_some (cleared_at (period_at b p) k), f.Cleared)
    ∷ (k == 1 && not (is_some (cleared_at (period_at b p) 0)), f.NotCleared) ∷ (k == 1 && nat_lt 0 (call_in (cleared_at (period_at b p) 0) i), f.Called) ∷ []

abbrev pub want_checks : Book → ℕ → ℕ → ℕ → ℕ → List (Bool × Fault)
want_checks b p k a w =
    (nat_lt 7 a, f.Area) ∷ (nat_lt 1 k, f.Round) ∷ (nat_lt 95 p, f.Period) ∷ (not (w % 500 == 0) || nat_lt 200000 w, f.Want)
    ∷ (is_some (cleared_at (period_at b p) k), f.Cleared) ∷ (k == 1 && not (is_some (cleared_at (period_at b p) 0)), f.NotCleared) ∷ []

abbrev pub clear_checks : Book → ℕ → ℕ → List (Bool × Fault)
clear_checks b p k =
    (nat_lt 1 k, f.Round) ∷ (nat_lt 95 p, f.Period) ∷ (is_some (cleared_at (period_at b p) k), f.Cleared)
    ∷ (k == 1 && not (is_some (cleared_at (period_at b p) 0)), f.NotCleared) ∷ []

abbrev pub read_unit_checks : Book → ℕ → ℕ → ℕ → List (Bool × Fault)
read_unit_checks b p i e =
    (nat_lt 63 i, f.Seller) ∷ (not (is_unit (seller_at b i)), f.NotSuch) ∷ (nat_lt 95 p, f.Period)
    ∷ (not (is_some (cleared_at (period_at b p) 1)), f.NotCleared) ∷ (nat_lt 1000000 e, f.Energy) ∷ []

abbrev pub read_plant_checks : Book → ℕ → ℕ → ℕ → List (Bool × Fault)
read_plant_checks b p j e =
    (nat_lt 63 j, f.Plant) ∷ (not (is_some (plant_at b j)), f.NoPlant) ∷ (nat_lt 95 p, f.Period) ∷ (nat_lt 1000000 e, f.Energy) ∷ []

-- What an opening day answers to a call, and the book after it.
abbrev pub EarlyDoes : Early → Book → Answer → Book → Type 0
EarlyDoes (enrol_unit s a c m) b r b' = Answered (first_hit (enrol_unit_checks b s a c m)) b (Enters b s (unit a c m None)) r b'
EarlyDoes (enrol_pool s a c) b r b' = Answered (first_hit (enrol_pool_checks b s a c)) b (Enters b s (pool a c None)) r b'
EarlyDoes (enrol_plant j a) b r b' = Answered (first_hit (enrol_plant_checks b j a)) b (λ n. n ≡ with_plant b j a) r b'
EarlyDoes (offer_unit s ps) b r b' =
    Checked (first_hit (offer_unit_checks b s)) b
    (λ r' n. (o : Option OfferFault) × TiersFault ps o × Answered (as_fault o) b (Enters b s (with_prices ps (seller_at b s))) r' n) r b'
EarlyDoes (offer_pool s ss) b r b' =
    Checked (first_hit (offer_pool_checks b s)) b
    (λ r' n. (o : Option OfferFault) × StepsFault (capacity_of (seller_at b s)) ss o × Answered (as_fault o) b (Enters b s (with_steps ss (seller_at b s))) r' n) r b'

-- What a running day answers to a call for the period p, and the book after it.
abbrev pub Does : ℕ → Late → Book → Answer → Book → Type 0
Does p (plan k i w) b r b' = Answered (first_hit (plan_checks b p k i w)) b (λ n. n ≡ with_period b p (with_round (period_at b p) k (with_plan (round_at (period_at b p) k) i w))) r b'
Does p (want k a w) b r b' = Answered (first_hit (want_checks b p k a w)) b (λ n. n ≡ with_period b p (with_round (period_at b p) k (with_want (round_at (period_at b p) k) a w))) r b'
Does p (clear k) b r b' = Answered (first_hit (clear_checks b p k)) b (Clearing b p k) r b'
Does p (read_unit i e) b r b' = Answered (first_hit (read_unit_checks b p i e)) b (λ n. n ≡ with_period b p (with_unit_read (period_at b p) i e)) r b'
Does p (read_plant j e) b r b' = Answered (first_hit (read_plant_checks b p j e)) b (λ n. n ≡ with_period b p (with_plant_read (period_at b p) j e)) r b'
