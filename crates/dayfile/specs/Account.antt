-- The calls that a file's records make, and that the law over runs speaks of every file's day. Assumes nothing.
use Rattle.std.specs.Prelude.{◌≡◌, ℕ, List, [], ◌∷◌, ◌++◌, Ok, Option}
use Rattle.money.specs.declared.share.Share.{Share}
use Rattle.day.specs.declared.book.Book.{Book}
use Rattle.day.specs.Calls.{Answer, Early, Late}
use Rattle.day.specs.Law.{Law}
use Rattle.day.specs.Runs.{Opening, Running}
use Rattle.dayfile.specs.declared.fault.FileFault.{FileFault}
use Rattle.dayfile.specs.Files.{State, unopened, opening, running, closed, Call, opening_with, early, offers_close, late, day_closes, call_of, Taken, none, then_record, Read}

-- The calls of the records that a reading took, latest first.
abbrev pub calls_in : {bs : List ℕ} {from : ℕ} {first : State} {at : ℕ} {st : State} → Taken bs from first at st → List Call
calls_in none = []
calls_in (then_record run h next) = call_of next.item ∷ calls_in run

-- The enrolments and offers among them, and the later calls with their periods: all accepted.
abbrev pub earlies : List Call → List (Early × Answer)
earlies [] = []
earlies (opening_with n ∷ cs) = earlies cs
earlies (early c ∷ cs) = (c, Ok tt) ∷ earlies cs
earlies (offers_close ∷ cs) = earlies cs
earlies (late p c ∷ cs) = earlies cs
earlies (day_closes ∷ cs) = earlies cs

abbrev pub lates : List Call → List ((ℕ × Late) × Answer)
lates [] = []
lates (opening_with n ∷ cs) = lates cs
lates (early c ∷ cs) = lates cs
lates (offers_close ∷ cs) = lates cs
lates (late p c ∷ cs) = ((p, c), Ok tt) ∷ lates cs
lates (day_closes ∷ cs) = lates cs

-- The first call opens the day with this share, and all others come after it.
abbrev pub OpenedBy : List Call → Share → List Call → Type 0
OpenedBy cs s more = cs ≡ more ++ (opening_with s.thousandths ∷ [])

-- The day stands where these calls bring a day opened new: it is a run, and the law holds of it.
abbrev pub Ran : List Call → Book → Type 0
Ran cs b = (s : Share) × (more : List Call) × OpenedBy cs s more × Running s (earlies more) (lates more) b × Law s (earlies more) (lates more) b

abbrev pub OfCalls : List Call → State → Type 0
OfCalls cs unopened = cs ≡ []
OfCalls cs (opening b) = (s : Share) × (more : List Call) × OpenedBy cs s more × Opening s (earlies more) b × (lates more ≡ [])
OfCalls cs (running b) = Ran cs b
OfCalls cs (closed b) = Ran cs b

-- Every file, however its reading ends, leads to the day of its records' calls, and the law over runs holds of these calls and that day.
abbrev pub FileLaw : Type 0
FileLaw = (bs : List ℕ) (refusal : Option FileFault) (last : State) (r : Read bs refusal last) → OfCalls (calls_in r.taken) last
