-- What a body was read as, and that a record lies within its bytes.
use Rattle.std.proofs.Common.{◌≡◌, ℕ, ◌+◌, ◌≤◌, Bool, true, false, cond, ltb, List, length, drop, Ok, Err, refl, ap, arith, length-drop, ltb-false}
use Rattle.records.specs.declared.kind.Kind.{Kind}
use Rattle.records.specs.declared.kind.Stage.{Stage}
use Rattle.records.specs.declared.fault.RecordFault.TheVariants as f
use Rattle.records.specs.Records.{Item, kind_for, size, said, body_of, item_of}
use Rattle.records.proofs.Said.{said_reads}

-- The record that a body was read as; its bytes are all there.
pub body_item : (kind : Kind) (body : List ℕ) (x : Item) → body_of kind body ≡ Ok x → (item_of kind body ≡ x) × (size (item_of kind body) ≤ 2 + length body)
body_item kind body x e = go (item_of kind body) (ltb (2 + length body) (size (item_of kind body))) refl e
  where
    go : (y : Item) (t : Bool) → ltb (2 + length body) (size y) ≡ t → cond t (Err f.Cut) (Ok y) ≡ Ok x → (y ≡ x) × (size y ≤ 2 + length body)
    go y true t e1 = grind arith
    go y false t e1 = grind (arith, ltb-false _ _ t)

-- What a body of a kind says is of that kind.
pub item_kind : (kind : Kind) (body : List ℕ) → kind_for (item_of kind body) ≡ kind
item_kind kind body = grind arith

-- A record that was read lies within its bytes.
pub within : (st : Stage) (bs : List ℕ) (x : Item) → said st bs ≡ Ok x → size x ≤ length bs
within st bs x e =
    let r = said_reads st bs x e in
    let i = body_item r.kind (drop 2 bs) x r.body in
    let l = r.long in
    omega (arith, length-drop 2 bs, ap size i.0)
