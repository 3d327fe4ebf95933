-- What the bytes of a day file say. Assumes nothing.
use Rattle.std.specs.Prelude.{◌≡◌, ℕ, ◌+◌, ◌*◌, cond, List, length, take, drop, Some, None, Ok, Err, Option, Result, nat_lt}
use Rattle.records.specs.declared.record.Record.{Record}
use Rattle.records.specs.declared.record.Record.TheVariants as r
use Rattle.records.specs.declared.kind.Kind.{Kind}
use Rattle.records.specs.declared.kind.Kind.TheVariants as k
use Rattle.records.specs.declared.kind.Stage.{Stage}
use Rattle.records.specs.declared.fault.RecordFault.{RecordFault}
use Rattle.records.specs.declared.fault.RecordFault.TheVariants as f
use Rattle.records.specs.Marks.{byte, kind_of, stage_for, stage_is}

-- A record, with the bytes that it shows written out.
pub data Item : Type 0 where
  open_day : (share : ℕ) → Item
  enrol_unit : (seller area capacity floor : ℕ) → Item
  enrol_pool : (seller area capacity : ℕ) → Item
  enrol_plant : (plant area : ℕ) → Item
  offer_unit : (seller : ℕ) (prices : List ℕ) → Item
  offer_pool : (seller count : ℕ) (shown : List ℕ) → Item
  close_offers : Item
  plan : (round seller period power : ℕ) → Item
  want : (round area period power : ℕ) → Item
  clear : (round period : ℕ) → Item
  read_unit : (seller period energy : ℕ) → Item
  read_plant : (plant period energy : ℕ) → Item
  close_day : Item

-- What a record of the code says.
abbrev pub shown : Record → Item
shown (r.Open s) = open_day s
shown (r.EnrolUnit s a c l) = enrol_unit s a c l
shown (r.EnrolPool s a c) = enrol_pool s a c
shown (r.EnrolPlant w a) = enrol_plant w a
shown (r.OfferUnit s p) = offer_unit s p.now
shown (r.OfferPool s n p) = offer_pool s n p.now
shown r.CloseOffers = close_offers
shown (r.Plan t s p w) = plan t s p w
shown (r.Want t a p w) = want t a p w
shown (r.Clear t p) = clear t p
shown (r.ReadUnit s p e) = read_unit s p e
shown (r.ReadPlant w p e) = read_plant w p e
shown r.CloseDay = close_day

-- The kind of a record.
abbrev pub kind_for : Item → Kind
kind_for (open_day a) = k.Open
kind_for (enrol_unit a b c d) = k.EnrolUnit
kind_for (enrol_pool a b c) = k.EnrolPool
kind_for (enrol_plant a b) = k.EnrolPlant
kind_for (offer_unit a b) = k.OfferUnit
kind_for (offer_pool a b c) = k.OfferPool
kind_for close_offers = k.CloseOffers
kind_for (plan a b c d) = k.Plan
kind_for (want a b c d) = k.Want
kind_for (clear a b) = k.Clear
kind_for (read_unit a b c) = k.ReadUnit
kind_for (read_plant a b c) = k.ReadPlant
kind_for close_day = k.CloseDay

-- How many bytes a record takes, its mark among them.
abbrev pub size : Item → ℕ
size (open_day s) = 4
size (enrol_unit s a c l) = 8
size (enrol_pool s a c) = 6
size (enrol_plant w a) = 4
size (offer_unit s ps) = 11
size (offer_pool s n ps) = 4 + 3 * n
size close_offers = 2
size (plan t s p w) = 7
size (want t a p w) = 9
size (clear t p) = 4
size (read_unit s p e) = 8
size (read_plant w p e) = 8
size close_day = 2

-- The answer of the code says what the bytes say.
abbrev pub Says : Result Item RecordFault → Result Record RecordFault → Type 0
Says o (Ok x) = o ≡ Ok (shown x)
Says o (Err e) = o ≡ Err e

-- The number in the two bytes from i on.
abbrev pub two : List ℕ → ℕ → ℕ
two bs i = 256 * byte bs i + byte bs (i + 1)

-- The number in the four bytes from i on.
abbrev pub four : List ℕ → ℕ → ℕ
four bs i = 16777216 * byte bs i + 65536 * byte bs (i + 1) + 256 * byte bs (i + 2) + byte bs (i + 3)

-- What the body of each kind of record says; a byte that is not there counts as 0.
abbrev pub item_of : Kind → List ℕ → Item
item_of k.Open body = open_day (two body 0)
item_of k.EnrolUnit body = enrol_unit (byte body 0) (byte body 1) (two body 2) (two body 4)
item_of k.EnrolPool body = enrol_pool (byte body 0) (byte body 1) (two body 2)
item_of k.EnrolPlant body = enrol_plant (byte body 0) (byte body 1)
item_of k.OfferUnit body = offer_unit (byte body 0) (take 8 (drop 1 body))
item_of k.OfferPool body = offer_pool (byte body 0) (byte body 1) (take (3 * byte body 1) (drop 2 body))
item_of k.CloseOffers body = close_offers
item_of k.Plan body = plan (byte body 0) (byte body 1) (byte body 2) (two body 3)
item_of k.Want body = want (byte body 0) (byte body 1) (byte body 2) (four body 3)
item_of k.Clear body = clear (byte body 0) (byte body 1)
item_of k.ReadUnit body = read_unit (byte body 0) (byte body 1) (four body 2)
item_of k.ReadPlant body = read_plant (byte body 0) (byte body 1) (four body 2)
item_of k.CloseDay body = close_day

-- The record of that kind, where its bytes are all there.
abbrev pub body_of : Kind → List ℕ → Result Item RecordFault
body_of kind body = cond (nat_lt (2 + length body) (size (item_of kind body))) (Err f.Cut) (Ok (item_of kind body))

-- What a mark's kind and the bytes after it say: an unknown mark is refused first, then one that is wrong for the stage, then a body that is not all there.
abbrev pub by_kind : Stage → Option Kind → List ℕ → Result Item RecordFault
by_kind st None body = Err f.Unknown
by_kind st (Some kind) body = cond (stage_is (stage_for kind) st) (body_of kind body) (Err f.Misplaced)

-- What stands at the start of the bytes, for a day at that stage.
abbrev pub said : Stage → List ℕ → Result Item RecordFault
said st bs = cond (nat_lt (length bs) 2) (Err f.Cut) (by_kind st (kind_of bs) (drop 2 bs))
