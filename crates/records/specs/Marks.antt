-- The marks of a day file, the stage of the day that each is for, and the numbers of the refusals. Assumes nothing.
use Rattle.std.specs.Prelude.{◌≡◌, ℕ, Bool, cond, ◌&&◌, List, [], ◌∷◌, Some, None, codes, Option, Result, MatchResult, ◌==◌, slice_index}
use Rattle.records.specs.declared.kind.Kind.{Kind}
use Rattle.records.specs.declared.kind.Kind.TheVariants as k
use Rattle.records.specs.declared.kind.Stage.{Stage}
use Rattle.records.specs.declared.kind.Stage.TheVariants as s
use Rattle.records.specs.declared.fault.RecordFault.{RecordFault}
use Rattle.records.specs.declared.fault.RecordFault.TheVariants as f

-- The number that a refusal is known by.
abbrev pub record_number : RecordFault → ℕ
record_number f.Cut = 30
record_number f.Unknown = 31
record_number f.Misplaced = 32

-- The byte at a place.
abbrev pub byte : List ℕ → ℕ → ℕ
byte bs i = slice_index bs i

-- The mark of each kind of record.
abbrev pub mark_of : Kind → List ℕ
mark_of k.Open = codes "DA"
mark_of k.EnrolUnit = codes "EU"
mark_of k.EnrolPool = codes "EP"
mark_of k.EnrolPlant = codes "EW"
mark_of k.OfferUnit = codes "OU"
mark_of k.OfferPool = codes "OP"
mark_of k.CloseOffers = codes "CO"
mark_of k.Plan = codes "BA"
mark_of k.Want = codes "WA"
mark_of k.Clear = codes "CL"
mark_of k.ReadUnit = codes "RU"
mark_of k.ReadPlant = codes "RW"
mark_of k.CloseDay = codes "CD"

-- The kinds of record.
abbrev pub kinds : List Kind
kinds = k.Open ∷ k.EnrolUnit ∷ k.EnrolPool ∷ k.EnrolPlant ∷ k.OfferUnit ∷ k.OfferPool ∷ k.CloseOffers ∷ k.Plan ∷ k.Want ∷ k.Clear ∷ k.ReadUnit ∷ k.ReadPlant ∷ k.CloseDay ∷ []

-- The first of some kinds whose mark is the bytes a and b, if there is one.
abbrev pub look_up : List Kind → ℕ → ℕ → Option Kind
look_up [] a b = None
look_up (kind ∷ later) a b = cond (a == byte (mark_of kind) 0 && b == byte (mark_of kind) 1) (Some kind) (look_up later a b)

-- The kind that the first two bytes name.
abbrev pub kind_of : List ℕ → Option Kind
kind_of bs = look_up kinds (byte bs 0) (byte bs 1)

-- The stage of the day that a kind of record is for; a closed day takes none.
abbrev pub stage_for : Kind → Stage
stage_for k.Open = s.Unopened
stage_for k.EnrolUnit = s.Opening
stage_for k.EnrolPool = s.Opening
stage_for k.EnrolPlant = s.Opening
stage_for k.OfferUnit = s.Opening
stage_for k.OfferPool = s.Opening
stage_for k.CloseOffers = s.Opening
stage_for k.Plan = s.Running
stage_for k.Want = s.Running
stage_for k.Clear = s.Running
stage_for k.ReadUnit = s.Running
stage_for k.ReadPlant = s.Running
stage_for k.CloseDay = s.Running

-- The stages in their order.
abbrev place : Stage → ℕ
place s.Unopened = 0
place s.Opening = 1
place s.Running = 2
place s.Closed = 3

-- The two stages are one.
abbrev pub stage_is : Stage → Stage → Bool
stage_is a b = place a == place b

-- The kind whose mark it is, or the refusal of a mark that no kind has.
abbrev pub NamesKind : List ℕ → Result Kind RecordFault → Type 0
NamesKind mark r = MatchResult r (λ kind. kind_of mark ≡ Some kind) (λ e. (kind_of mark ≡ None) × (e ≡ f.Unknown))
