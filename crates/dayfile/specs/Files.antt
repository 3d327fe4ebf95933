-- A day file as a run of the day's own calls: its records are taken one by one, up to the end or the first refusal. Assumes nothing.
use Rattle.std.specs.Prelude.{◌≡◌, ℕ, zero, suc, ◌+◌, ◌*◌, ◌<◌, List, [], ◌∷◌, length, drop, Some, None, Ok, Err, Option, ◌≢◌}
use Rattle.money.specs.declared.share.Share.{Share}
use Rattle.sellers.specs.declared.step.Step.{Step}
use Rattle.records.specs.Marks.{byte}
use Rattle.records.specs.Records.{Item, open_day, enrol_unit, enrol_pool, enrol_plant, offer_unit, offer_pool, close_offers, plan, want, clear, read_unit, read_plant, close_day, size, said}
use Rattle.records.specs.declared.kind.Stage.{Stage}
use Rattle.records.specs.declared.kind.Stage.TheVariants as s
use Rattle.records.specs.declared.fault.RecordFault.{RecordFault}
use Rattle.day.specs.declared.book.Book.{Book}
use Rattle.day.specs.declared.faults.Fault.{Fault}
use Rattle.day.specs.declared.faults.Fault.TheVariants as f
use Rattle.day.specs.Calls.{Answer, Early, EarlyDoes, Late, Does}
use Rattle.day.specs.Calls as calls
use Rattle.day.specs.Reading.{opened}
use Rattle.dayfile.specs.declared.fault.FileFault.{FileFault}
use Rattle.dayfile.specs.declared.fault.Why.{Why}
use Rattle.dayfile.specs.declared.fault.Why.TheVariants as w
use Rattle.dayfile.specs.declared.reached.Reached.{Reached}
use Rattle.dayfile.specs.declared.reached.Reached.TheVariants as at

-- Where a day stands, with its book.
pub data State : Type 0 where
  unopened : State
  opening : Book → State
  running : Book → State
  closed : Book → State

abbrev pub stage_of : State → Stage
stage_of unopened = s.Unopened
stage_of (opening b) = s.Opening
stage_of (running b) = s.Running
stage_of (closed b) = s.Closed

abbrev pub state_of : Reached → State
state_of at.Unopened = unopened
state_of (at.Opening d) = opening d.book
state_of (at.Running d) = running d.book
state_of (at.Closed d) = closed d.book

-- The step at a place of some bytes: its price, and its power in two bytes.
abbrev pub step_at : List ℕ → ℕ → Step
step_at bs i = record { price = byte bs i; power = 256 * byte bs (i + 1) + byte bs (i + 2) }

-- The first n steps that the bytes show, three bytes each.
abbrev pub steps_in : ℕ → List ℕ → List Step
steps_in zero bs = []
steps_in (suc n) bs = step_at bs 0 ∷ steps_in n (drop 3 bs)

-- What a record asks of the day: to open with a share; a call on an opening day; the closing of the offers; a call on a running day for a period; the closing of the day.
pub data Call : Type 0 where
  opening_with : (share : ℕ) → Call
  early : Early → Call
  offers_close : Call
  late : (period : ℕ) → Late → Call
  day_closes : Call

-- The call that each record makes.
abbrev pub call_of : Item → Call
call_of (open_day n) = opening_with n
call_of (enrol_unit i a c m) = early (calls.enrol_unit i a c m)
call_of (enrol_pool i a c) = early (calls.enrol_pool i a c)
call_of (enrol_plant j a) = early (calls.enrol_plant j a)
call_of (offer_unit i ps) = early (calls.offer_unit i ps)
call_of (offer_pool i n bs) = early (calls.offer_pool i (steps_in n bs))
call_of close_offers = offers_close
call_of (plan k i p w) = late p (calls.plan k i w)
call_of (want k a p w) = late p (calls.want k a w)
call_of (clear k p) = late p (calls.clear k)
call_of (read_unit i p e) = late p (calls.read_unit i e)
call_of (read_plant j p e) = late p (calls.read_plant j e)
call_of close_day = day_closes

-- What a day answers to a call, and where it stands then: as the day's own calls do.
pub data Takes : Call → State → Answer → State → Type 0 where
  opens : (s : Share) → Takes (opening_with s.thousandths) unopened (Ok tt) (opening (opened s))
  not_opened : {n : ℕ} → 1000 < n → Takes (opening_with n) unopened (Err f.Share) unopened
  on_opening : {c : Early} {b b' : Book} {r : Answer} → EarlyDoes c b r b' → Takes (early c) (opening b) r (opening b')
  closes_offers : {b : Book} → Takes offers_close (opening b) (Ok tt) (running b)
  on_running : {p : ℕ} {c : Late} {b b' : Book} {r : Answer} → Does p c b r b' → Takes (late p c) (running b) r (running b')
  closes_day : {b : Book} → Takes day_closes (running b) (Ok tt) (closed b)

-- The record at the start of the bytes, n bytes long, brings the day from st to st'.
pub record Next (bs : List ℕ) (st : State) (n : ℕ) (st' : State) : Type 0 where
  pub item : Item
  pub stands : said (stage_of st) bs ≡ Ok item
  pub taken : Takes (call_of item) st (Ok tt) st'
  pub long : n ≡ size item

-- The record at the start of the bytes cannot be read, or the day refuses it and stands as it stood.
pub data Refused (bs : List ℕ) (st : State) : Why → Type 0 where
  unread : {fault : RecordFault} → said (stage_of st) bs ≡ Err fault → Refused bs st (w.Record fault)
  by_day : {fault : Fault} (x : Item) → said (stage_of st) bs ≡ Ok x → Takes (call_of x) st (Err fault) st → Refused bs st (w.Day fault)

-- The records from one place to another are taken one by one, and bring the day from first to last.
pub data Taken (bs : List ℕ) (from : ℕ) (first : State) : ℕ → State → Type 0 where
  none : Taken bs from first from first
  then_record : {at n : ℕ} {st st' : State} → Taken bs from first at st → at < length bs → Next (drop at bs) st n st' → Taken bs from first (at + n) st'

-- Why the reading stops at a place: the file ends with the day closed; it ends before; or the record there is refused.
pub data Stops (bs : List ℕ) (at : ℕ) (st : State) : Option FileFault → Type 0 where
  ends : {b : Book} → at ≡ length bs → st ≡ closed b → Stops bs at st None
  ends_early : at ≡ length bs → (stage_of st ≢ s.Closed) → Stops bs at st (Some (record { place = at; why = w.Unclosed }))
  refused : {why : Why} → at < length bs → Refused (drop at bs) st why → Stops bs at st (Some (record { place = at; why = why }))

-- Reading from a place on, with the day at first, ends with that refusal or none, and with the day at last.
pub record ReadFrom (bs : List ℕ) (from : ℕ) (first : State) (refusal : Option FileFault) (last : State) : Type 0 where
  pub place : ℕ
  pub taken : Taken bs from first place last
  pub stops : Stops bs place last refusal

-- The reading of a whole file.
abbrev pub Read : List ℕ → Option FileFault → State → Type 0
Read bs refusal last = ReadFrom bs 0 unopened refusal last
