-- What the parts of the file's reader promise; only private functions cite it. Assumes nothing.
use Rattle.std.specs.Prelude.{◌≡◌, ℕ, ◌+◌, ◌*◌, ◌<◌, Bool, true, false, List, length, drop, Ok, Err, ◌≢◌}
use Rattle.records.specs.Records.{Item, offer_pool, kind_for, size, said}
use Rattle.records.specs.Marks.{stage_for, stage_is}
use Rattle.records.specs.declared.kind.Stage.{Stage}
use Rattle.records.specs.declared.fault.RecordFault.{RecordFault}
use Rattle.dayfile.specs.declared.fault.FileFault.{FileFault}
use Rattle.dayfile.specs.declared.fault.Why.TheVariants as w
use Rattle.dayfile.specs.Files.{State, Taken}

-- A pool's steps are all shown.
abbrev pub AllShown : Item → Type 0
AllShown (offer_pool i n bs) = length bs ≡ 3 * n
AllShown _ = Unit {0}

-- A record for a day at that stage which does not close it.
abbrev pub IsFor : Stage → Item → Item → Type 0
IsFor stage closing x = (stage_is (stage_for (kind_for x)) stage ≡ true) × AllShown x × (x ≢ closing)

-- Whether the record x closes a stage.
abbrev pub Closes : Bool → Item → Item → Type 0
Closes true x closing = x ≡ closing
Closes false x closing = x ≢ closing

-- The record x stands at the place, for a day at that stage.
pub record Stands (stage : Stage) (bs : List ℕ) (at : ℕ) (x : Item) : Type 0 where
  pub before : at < length bs
  pub says : said stage (drop at bs) ≡ Ok x

-- No record stands there: the file ends there, or none can be read.
pub data Unread (stage : Stage) (bs : List ℕ) (at : ℕ) (f : FileFault) : Type 0 where
  ended : at ≡ length bs → f.place ≡ at → f.why ≡ w.Unclosed → Unread stage bs at f
  unreadable : {fault : RecordFault} → at < length bs → said stage (drop at bs) ≡ Err fault → f.place ≡ at → f.why ≡ w.Record fault → Unread stage bs at f

-- The records up to the one that closes the stage are taken, and the reading stands after that one.
pub record ToClosing (stage : Stage) (closing : Item) (bs : List ℕ) (from : ℕ) (first last : State) (rest : List ℕ) (end : ℕ) : Type 0 where
  pub place : ℕ
  pub taken : Taken bs from first place last
  pub stands : Stands stage bs place closing
  pub same : rest ≡ bs
  pub past : end ≡ place + size closing
