-- Which records a day at a stage takes.
use Rattle.std.proofs.Common.{◌≡◌, ℕ, ◌+◌, ◌*◌, ◌≤◌, true, List, length, drop, sym, ap, ◌∙◌, subst, arith, length-drop, length-take}
use Rattle.records.specs.declared.kind.Kind.{Kind}
use Rattle.records.specs.declared.kind.Kind.TheVariants as k
use Rattle.records.specs.declared.kind.Stage.{Stage}
use Rattle.records.specs.Marks.{byte, stage_for, stage_is}
use Rattle.records.specs.Records.{Item, kind_for, size, item_of}
use Rattle.records.proofs.Said.{said_reads}
use Rattle.records.proofs.Within.{body_item, item_kind}
use Rattle.dayfile.specs.Parts.{AllShown, IsFor, Stands}

-- A body that is all there shows the steps that it counts.
all_shown : (kind : Kind) (body : List ℕ) → size (item_of kind body) ≤ 2 + length body → AllShown (item_of kind body)
all_shown k.OfferPool body there = omega (arith, length-take (3 * byte body 1) (drop 2 body), length-drop 2 body)
all_shown _ body there = tt

-- What is read for a stage and does not close it is for that stage.
pub is_for : {stage : Stage} {closing : Item} {bs : List ℕ} {at : ℕ} {x : Item} → Stands stage bs at x → (x ≡ closing → ⊥) → IsFor stage closing x
is_for {stage = stage} {bs = bs} {at = at} {x = x} here other =
    let read = said_reads stage (drop at bs) x here.says in
    let body = drop 2 (drop at bs) in
    let item = body_item read.kind body x read.body in
    let kind : read.kind ≡ kind_for x = sym (ap kind_for (sym item.0) ∙ item_kind read.kind body) in
    (subst (λ k. stage_is (stage_for k) stage ≡ true) kind read.fits, subst AllShown item.0 (all_shown read.kind body item.1), other)
