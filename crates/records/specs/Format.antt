-- How each record is written, and that reading and writing agree. Assumes nothing.
use Rattle.std.specs.Prelude.{◌≡◌, ℕ, ◌*◌, ◌/◌, ◌%◌, ◌<◌, true, List, [], ◌∷◌, ◌++◌, length, drop, Ok, slice_index}
use Rattle.records.specs.declared.kind.Stage.{Stage}
use Rattle.records.specs.Marks.{mark_of, stage_for, stage_is}
use Rattle.records.specs.Records.{Item, open_day, enrol_unit, enrol_pool, enrol_plant, offer_unit, offer_pool, close_offers, plan, want, clear, read_unit, read_plant, close_day, kind_for, size, said}

-- A number in one byte.
abbrev pub one : ℕ → List ℕ
one n = n ∷ []

-- A number in two bytes, the higher first.
abbrev pub two : ℕ → List ℕ
two n = n / 256 ∷ n % 256 ∷ []

-- A number in four bytes, the highest first.
abbrev pub four : ℕ → List ℕ
four n = n / 16777216 ∷ n / 65536 % 256 ∷ n / 256 % 256 ∷ n % 256 ∷ []

-- How the body of each record is written.
abbrev pub fields : Item → List ℕ
fields (open_day share) = two share
fields (enrol_unit seller area capacity floor) = one seller ++ (one area ++ (two capacity ++ two floor))
fields (enrol_pool seller area capacity) = one seller ++ (one area ++ two capacity)
fields (enrol_plant plant area) = one plant ++ one area
fields (offer_unit seller prices) = one seller ++ prices
fields (offer_pool seller count shown) = one seller ++ (one count ++ shown)
fields close_offers = []
fields (plan round seller period power) = one round ++ (one seller ++ (one period ++ two power))
fields (want round area period power) = one round ++ (one area ++ (one period ++ four power))
fields (clear round period) = one round ++ one period
fields (read_unit seller period energy) = one seller ++ (one period ++ four energy)
fields (read_plant plant period energy) = one plant ++ (one period ++ four energy)
fields close_day = []

-- How a record is written: the mark of its kind, then its body.
abbrev pub written : Item → List ℕ
written x = mark_of (kind_for x) ++ fields x

-- Eight prices, and three bytes for each step.
abbrev pub Whole : Item → Type 0
Whole (offer_unit seller prices) = length prices ≡ 8
Whole (offer_pool seller count shown) = length shown ≡ 3 * count
Whole _ = Unit {0}

-- What is written is read back, whatever follows it, and takes as many bytes as the record is said to.
abbrev pub ReadsBack : Type 0
ReadsBack = (x : Item) (rest : List ℕ) → Whole x → (said (stage_for (kind_for x)) (written x ++ rest) ≡ Ok x) × (length (written x) ≡ size x)

-- Nothing else is read: where bytes are read as a record, it is one for the stage, they begin with its writing, and it takes as many bytes as that.
abbrev pub WasWritten : Type 0
WasWritten = (st : Stage) (bs : List ℕ) (x : Item) → ((i : ℕ) → slice_index bs i < 256) → said st bs ≡ Ok x → (stage_is (stage_for (kind_for x)) st ≡ true) × (bs ≡ written x ++ drop (size x) bs) × (length (written x) ≡ size x)
