-- Reading and writing agree.
use Rattle.std.proofs.Common.{◌≡◌, ℕ, zero, suc, ◌+◌, ◌*◌, ◌/◌, ◌%◌, ◌<◌, ◌≤◌, true, cond, ◌&&◌, eqb, ltb, List, [], ◌∷◌, ◌++◌, length, get_or, drop, Some, Ok, Err, Option, append_assoc, sym, ap, ◌∙◌, subst, arith, length-append, length-drop, eqb-true}
use Rattle.std.proofs.lemmas.Bool.{le-ltb}
use Rattle.std.proofs.lemmas.List.{length-take-le, take_at, drop_more, drop-drop, get_or-drop, take-append-drop}
use Rattle.records.specs.declared.kind.Kind.{Kind}
use Rattle.records.specs.declared.kind.Kind.TheVariants as k
use Rattle.records.specs.declared.kind.Stage.{Stage}
use Rattle.records.specs.declared.fault.RecordFault.TheVariants as f
use Rattle.records.specs.Marks.{byte, mark_of, kinds, look_up, kind_of, stage_for, stage_is}
use Rattle.records.specs.Records.{Item, offer_unit, offer_pool, kind_for, size, said, item_of}
use Rattle.records.specs.Format.{fields, written, Whole, ReadsBack, WasWritten, two, four}
use Rattle.records.proofs.Said.{said_body, said_reads}
use Rattle.records.proofs.Within.{body_item, item_kind}

-- From a record to its bytes and back.

-- A stage is itself.
stage_is-same : (st : Stage) → stage_is st st ≡ true
stage_is-same st = grind arith

-- A mark is two bytes.
mark_bytes : (kind : Kind) → mark_of kind ≡ byte (mark_of kind) 0 ∷ byte (mark_of kind) 1 ∷ []
mark_bytes kind = grind arith

-- The mark of a kind names it.
named : (kind : Kind) → look_up kinds (byte (mark_of kind) 0) (byte (mark_of kind) 1) ≡ Some kind
named kind = grind arith

-- The mark of a record and a body that says it, all there, are read as the record.
read_as : (x : Item) (body : List ℕ) → item_of (kind_for x) body ≡ x → size x ≤ 2 + length body → said (stage_for (kind_for x)) (mark_of (kind_for x) ++ body) ≡ Ok x
read_as x body is long = subst (λ m. said (stage_for (kind_for x)) (m ++ body) ≡ Ok x) (sym (mark_bytes (kind_for x))) (go (kind_for x) (byte (mark_of (kind_for x)) 0) (byte (mark_of (kind_for x)) 1) (named (kind_for x)) is)
  where
    go : (kind : Kind) (a b : ℕ) → look_up kinds a b ≡ Some kind → item_of kind body ≡ x → said (stage_for kind) (a ∷ b ∷ body) ≡ Ok x
    go kind a b marked same =
        said_body (stage_for kind) (a ∷ b ∷ body) kind (omega arith) marked (stage_is-same (stage_for kind)) ∙ (ap (λ y. cond (ltb (2 + length body) (size y)) (Err f.Cut) (Ok y)) same ∙ ap (λ t. cond t (Err f.Cut) (Ok x)) (le-ltb _ _ long))

two_back : (n : ℕ) → 256 * (n / 256) + n % 256 ≡ n
two_back n = omega arith

four_back : (n : ℕ) → 16777216 * (n / 16777216) + 65536 * (n / 65536 % 256) + 256 * (n / 256 % 256) + n % 256 ≡ n
four_back n = omega arith

-- A written body says its record, whatever follows it.
item_back : (x : Item) (rest : List ℕ) → Whole x → item_of (kind_for x) (fields x ++ rest) ≡ x
item_back (offer_unit seller prices) rest h = ap (offer_unit seller) (take_at prices rest 8 h)
item_back (offer_pool seller count shown) rest h = ap (offer_pool seller count) (take_at shown rest (3 * count) h)
item_back x rest h = grind (arith, two_back, four_back)

sizes : (x : Item) → Whole x → length (written x) ≡ size x
sizes x h = grind arith

pub reads_back : ReadsBack
reads_back x rest h =
    let long = sizes x h in
    let read = read_as x (fields x ++ rest) (item_back x rest h) (omega (arith, length-append (mark_of (kind_for x)) (fields x), length-append (fields x) rest, ap length (mark_bytes (kind_for x)))) in
    (rw append_assoc read, long)

-- From bytes to a record and back.

-- One kind of a look-up: the two bytes are its mark, or those of a later one.
entry : (own : Kind → List ℕ) (a b p q : ℕ) (first kind : Kind) (later : Option Kind) → own first ≡ p ∷ q ∷ [] → (later ≡ Some kind → own kind ≡ a ∷ b ∷ []) → cond (eqb a p && eqb b q) (Some first) later ≡ Some kind → own kind ≡ a ∷ b ∷ []
entry own a b p q first kind later here there e = grind (arith, eqb-true)

-- The two bytes are the mark of the kind that they name.
found : (some : List Kind) (a b : ℕ) (kind : Kind) → look_up some a b ≡ Some kind → mark_of kind ≡ a ∷ b ∷ []
found [] a b kind e = grind arith
found (first ∷ later) a b kind e = entry mark_of a b _ _ first kind (look_up later a b) (mark_bytes first) (found later a b kind) e

-- The n bytes from i on, one by one.
abbrev firsts : ℕ → ℕ → List ℕ → List ℕ → List ℕ
firsts zero i bs rest = rest
firsts (suc n) i bs rest = byte bs i ∷ firsts n (i + 1) bs rest

peel : (n i : ℕ) (bs : List ℕ) → i + n ≤ length bs → drop i bs ≡ firsts n i bs (drop (i + n) bs)
peel zero i bs h = ap (λ j. drop j bs) (omega arith)
peel (suc n) i bs h = drop_more bs i 0 (omega arith) ∙ ap (λ l. byte bs i ∷ l) (peel n (i + 1) bs (omega arith) ∙ ap (λ j. firsts n (i + 1) bs (drop j bs)) (omega arith))

two_forth : (a b : ℕ) → b < 256 → two (256 * a + b) ≡ a ∷ b ∷ []
two_forth a b h =
    let e0 : (256 * a + b) / 256 ≡ a = omega arith in
    let e1 : (256 * a + b) % 256 ≡ b = omega arith in
    cc

four_forth : (a b c d : ℕ) → b < 256 → c < 256 → d < 256 → four (16777216 * a + 65536 * b + 256 * c + d) ≡ a ∷ b ∷ c ∷ d ∷ []
four_forth a b c d hb hc hd =
    let n = 16777216 * a + 65536 * b + 256 * c + d in
    let e0 : n / 16777216 ≡ a = omega arith in
    let e1 : n / 65536 % 256 ≡ b = omega arith in
    let e2 : n / 256 % 256 ≡ c = omega arith in
    let e3 : n % 256 ≡ d = omega arith in
    cc

-- A number of a body is written as the bytes it was read from.
small_two : (body : List ℕ) (i : ℕ) → ((j : ℕ) → get_or body j 0 < 256) → two (256 * byte body i + byte body (i + 1)) ≡ byte body i ∷ byte body (i + 1) ∷ []
small_two body i small = two_forth (byte body i) (byte body (i + 1)) (small (i + 1))

small_four : (body : List ℕ) (i : ℕ) → ((j : ℕ) → get_or body j 0 < 256) → four (16777216 * byte body i + 65536 * byte body (i + 1) + 256 * byte body (i + 2) + byte body (i + 3)) ≡ byte body i ∷ byte body (i + 1) ∷ byte body (i + 2) ∷ byte body (i + 3) ∷ []
small_four body i small = four_forth (byte body i) (byte body (i + 1)) (byte body (i + 2)) (byte body (i + 3)) (small (i + 1)) (small (i + 2)) (small (i + 3))

-- A body that is all there is the writing of the record that it says, and what follows.
fields_forth : (kind : Kind) (body : List ℕ) → ((i : ℕ) → get_or body i 0 < 256) → size (item_of kind body) ≤ 2 + length body → body ≡ fields (item_of kind body) ++ drop (size (item_of kind body)) (mark_of kind ++ body)
fields_forth k.OfferUnit body small h =
    let p = peel 1 0 body (omega arith) in
    let q = take-append-drop 8 (drop 1 body) in
    let r = drop-drop 8 1 body in
    cc
fields_forth k.OfferPool body small h =
    let n = 3 * byte body 1 in
    let p = peel 2 0 body (omega arith) in
    let q = take-append-drop n (drop 2 body) in
    let r = drop-drop n 4 (79 ∷ 80 ∷ body) in
    cc
fields_forth kind body small h =
    let two0 = small_two body 0 small in
    let two2 = small_two body 2 small in
    let two3 = small_two body 3 small in
    let two4 = small_two body 4 small in
    let four2 = small_four body 2 small in
    let four3 = small_four body 3 small in
    grind (arith, peel 2 0 body, peel 4 0 body, peel 5 0 body, peel 6 0 body, peel 7 0 body)

-- A record that a body says is whole, where it is all there.
item_whole : (kind : Kind) (body : List ℕ) → size (item_of kind body) ≤ 2 + length body → Whole (item_of kind body)
item_whole k.OfferUnit body h = length-take-le 8 (drop 1 body) (omega (arith, length-drop 1 body))
item_whole k.OfferPool body h = length-take-le (3 * byte body 1) (drop 2 body) (omega (arith, length-drop 2 body))
item_whole kind body h = grind arith

starts : (bs : List ℕ) (kind : Kind) → ((i : ℕ) → get_or bs i 0 < 256) → 2 ≤ length bs → kind_of bs ≡ Some kind → size (item_of kind (drop 2 bs)) ≤ 2 + length (drop 2 bs) → bs ≡ written (item_of kind (drop 2 bs)) ++ drop (size (item_of kind (drop 2 bs))) bs
starts bs kind small long marked all =
    let body = drop 2 bs in
    let whole : mark_of kind ++ body ≡ bs = ap (λ m. m ++ body) (found kinds (byte bs 0) (byte bs 1) kind marked) ∙ sym (peel 2 0 bs long) in
    let forth = fields_forth kind body (λ j. subst (λ n. n < 256) (sym (get_or-drop 2 bs j 0)) (small (2 + j))) all in
    let same = item_kind kind body in
    grind (arith, append_assoc)

pub was_written : WasWritten
was_written st bs x small e =
    let r = said_reads st bs x e in
    let body = drop 2 bs in
    let i = body_item r.kind body x r.body in
    let for_stage : stage_is (stage_for (kind_for (item_of r.kind body))) st ≡ true = subst (λ kind. stage_is (stage_for kind) st ≡ true) (sym (item_kind r.kind body)) r.fits in
    let Holds : Item → Type 0 = λ y. (stage_is (stage_for (kind_for y)) st ≡ true) × (bs ≡ written y ++ drop (size y) bs) × (length (written y) ≡ size y) in
    subst Holds i.0 (for_stage, starts bs r.kind small r.long r.marked i.1, sizes _ (item_whole r.kind body i.1))
