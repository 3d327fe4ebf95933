-- What bytes say, by the kind of their mark.
use Rattle.std.proofs.Common.{◌≡◌, ℕ, ◌≤◌, Bool, true, false, cond, ltb, List, length, drop, Some, None, Ok, Err, Option, refl, ap, ◌∙◌, arith, ltb-false}
use Rattle.std.proofs.lemmas.Bool.{le-ltb}
use Rattle.records.specs.declared.kind.Kind.{Kind}
use Rattle.records.specs.declared.kind.Stage.{Stage}
use Rattle.records.specs.declared.fault.RecordFault.TheVariants as f
use Rattle.records.specs.Marks.{kind_of, stage_for, stage_is}
use Rattle.records.specs.Records.{Item, said, by_kind, body_of}

-- The bytes begin with the mark of a kind that is for the stage, and what follows is the body of a record x of that kind.
pub record Reads (st : Stage) (bs : List ℕ) (x : Item) : Type 0 where
  pub kind : Kind
  pub long : 2 ≤ length bs
  pub marked : kind_of bs ≡ Some kind
  pub fits : stage_is (stage_for kind) st ≡ true
  pub body : body_of kind (drop 2 bs) ≡ Ok x

-- Bytes with the mark of a kind say what follows the mark, read as a body of that kind where it is for the stage.
pub said_for : (st : Stage) (bs : List ℕ) (kind : Kind) → 2 ≤ length bs → kind_of bs ≡ Some kind → said st bs ≡ by_kind st (Some kind) (drop 2 bs)
said_for st bs kind long marked =
    ap (λ t. cond t (Err f.Cut) (by_kind st (kind_of bs) (drop 2 bs))) (le-ltb _ _ long) ∙ ap (λ o. by_kind st o (drop 2 bs)) marked

pub said_body : (st : Stage) (bs : List ℕ) (kind : Kind) → 2 ≤ length bs → kind_of bs ≡ Some kind → stage_is (stage_for kind) st ≡ true → said st bs ≡ body_of kind (drop 2 bs)
said_body st bs kind long marked fits = said_for st bs kind long marked ∙ ap (λ t. cond t (body_of kind (drop 2 bs)) (Err f.Misplaced)) fits

-- No other bytes say a record.
pub said_reads : (st : Stage) (bs : List ℕ) (x : Item) → said st bs ≡ Ok x → Reads st bs x
said_reads st bs x e = go (ltb (length bs) 2) refl (kind_of bs) refl e
  where
    by : (kind : Kind) → ltb (length bs) 2 ≡ false → kind_of bs ≡ Some kind → (t : Bool) → stage_is (stage_for kind) st ≡ t → cond t (body_of kind (drop 2 bs)) (Err f.Misplaced) ≡ Ok x → Reads st bs x
    by kind long marked true fits e1 = record { kind = kind; long = ltb-false _ _ long; marked = marked; fits = fits; body = e1 }
    by kind long marked false fits e1 = grind arith

    go : (t : Bool) → ltb (length bs) 2 ≡ t → (o : Option Kind) → kind_of bs ≡ o → cond t (Err f.Cut) (by_kind st o (drop 2 bs)) ≡ Ok x → Reads st bs x
    go true t o marked e1 = grind arith
    go false t None marked e1 = grind arith
    go false t (Some kind) marked e1 = by kind t marked (stage_is (stage_for kind) st) refl e1
