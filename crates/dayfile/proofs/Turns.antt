-- One record, and one after another.
use Rattle.std.proofs.Common.{◌≡◌, ℕ, List, Some, None, Ok, Err, Option, sym, refl, ap, subst, arith}
use Rattle.records.specs.declared.record.Record.{Record}
use Rattle.records.specs.Records.{shown}
use Rattle.sellers.specs.Faults.{TiersFault, StepsFault}
use Rattle.sellers.specs.declared.fault.OfferFault.{OfferFault}
use Rattle.day.specs.declared.book.Book.{Book}
use Rattle.day.specs.declared.faults.Fault.{Fault}
use Rattle.day.specs.Calls.{Answer, Answered, Checked, as_fault, Early, enrol_unit, enrol_pool, enrol_plant, offer_unit, offer_pool, EarlyDoes, first_hit, offer_unit_checks, offer_pool_checks, Enters, Late, plan, want, clear, read_unit, read_plant, Does}
use Rattle.day.specs.Reading.{seller_at}
use Rattle.day.specs.Terms.{capacity_of, with_prices, with_steps}
use Rattle.dayfile.specs.declared.fault.FileFault.{FileFault}
use Rattle.dayfile.specs.Files.{State, opening, running, Call, call_of, Takes, not_opened, on_opening, on_running, Taken, none, then_record, ReadFrom}

not_ok : {f : Fault} → ◌≡◌ {A = Answer} (Err f) (Ok tt) → ⊥
not_ok e = let z : ◌≡◌ {A = ℕ} 0 1 = cc in omega arith

-- A refused call leaves the book as it was.
answered_left : (o : Option Fault) (old : Book) (New : Book → Type 0) (f : Fault) (b : Book) → Answered o old New (Err f) b → b ≡ old
answered_left None old New f b h = absurd (not_ok h.0)
answered_left (Some e) old New f b h = h.1

offered_left : (o : Option Fault) (old : Book) (F : Option OfferFault → Type 0) (New : Book → Type 0) (f : Fault) (b : Book) → Checked o old (λ r n. (e : Option OfferFault) × F e × Answered (as_fault e) old New r n) (Err f) b → b ≡ old
offered_left None old F New f b h = answered_left _ old New f b h.2
offered_left (Some e) old F New f b h = h.1

early_left : (c : Early) (b : Book) (f : Fault) (b' : Book) → EarlyDoes c b (Err f) b' → b' ≡ b
early_left (enrol_unit s a c m) b f b' h = answered_left _ b _ f b' h
early_left (enrol_pool s a c) b f b' h = answered_left _ b _ f b' h
early_left (enrol_plant j a) b f b' h = answered_left _ b _ f b' h
early_left (offer_unit s ps) b f b' h = offered_left (first_hit (offer_unit_checks b s)) b (TiersFault ps) (Enters b s (with_prices ps (seller_at b s))) f b' h
early_left (offer_pool s ss) b f b' h = offered_left (first_hit (offer_pool_checks b s)) b (StepsFault (capacity_of (seller_at b s)) ss) (Enters b s (with_steps ss (seller_at b s))) f b' h

late_left : (p : ℕ) (c : Late) (b : Book) (f : Fault) (b' : Book) → Does p c b (Err f) b' → b' ≡ b
late_left p (plan k i w) b f b' h = answered_left _ b _ f b' h
late_left p (want k a w) b f b' h = answered_left _ b _ f b' h
late_left p (clear k) b f b' h = answered_left _ b _ f b' h
late_left p (read_unit i e) b f b' h = answered_left _ b _ f b' h
late_left p (read_plant j e) b f b' h = answered_left _ b _ f b' h

pub untouched : {x : Call} {st st' : State} {f : Fault} → Takes x st (Err f) st' → st' ≡ st
untouched (not_opened h) = refl
untouched (on_opening {c = c} h) = ap opening (early_left c _ _ _ h)
untouched (on_running {p = p} {c = c} h) = ap running (late_left p c _ _ _ h)

-- What is said of a record's writing out holds of the record.
pub takes_as : {x y : Record} {st st' : State} {r : Answer} → x ≡ y → Takes (call_of (shown y)) st r st' → Takes (call_of (shown x)) st r st'
takes_as {st = st} {st' = st'} {r = r} e h = subst (λ z. Takes (call_of (shown z)) st r st') (sym e) h

-- The records up to one place, and then those up to another.
pub and_then : {bs : List ℕ} {a : ℕ} {st : State} {b : ℕ} {st1 : State} {c : ℕ} {st2 : State} → Taken bs a st b st1 → Taken bs b st1 c st2 → Taken bs a st c st2
and_then run none = run
and_then run (then_record more h next) = then_record (and_then run more) h next

-- A reading goes on where another has come to.
pub goes_on : {bs : List ℕ} {a : ℕ} {st : State} {b : ℕ} {st1 : State} {refusal : Option FileFault} {st2 : State} → Taken bs a st b st1 → ReadFrom bs b st1 refusal st2 → ReadFrom bs a st refusal st2
goes_on run more = record { place = more.place; taken = and_then run more.taken; stops = more.stops }
