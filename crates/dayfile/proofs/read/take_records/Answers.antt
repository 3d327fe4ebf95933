use Rattle.std.proofs.Common.{◌≡◌, ◌+◌, Some, sym, refl, ap, ◌∙◌, subst, rules, arith}
use Rattle.records.specs.declared.kind.Stage.TheVariants as s
use Rattle.records.specs.Marks.{stage_is}
use Rattle.records.specs.Records.{shown}
use Rattle.dayfile.specs.declared.fault.Why.TheVariants as w
use Rattle.dayfile.specs.Files.{none, Takes, call_of, Taken, ReadFrom}
use Rattle.dayfile.specs.Parts.{Stands, Closes}
use Rattle.dayfile.proofs.Stages.{is_for}
use Rattle.dayfile.proofs.Records.{handed_on, unread_stops, then_stops, fits, mapped_ok, mapped_err, denied, one_more}
use Rattle.dayfile.proofs.read.take_records.Goals as goal

pub loop-record-init : goal.loop-record-init
loop-record-init g c = (refl, none)

pub returns-in_err-record : goal.returns-in_err-record
returns-in_err-record g c =
    let l = c.loop-record in
    let law = g.met.D.TakesRecords in
    let stops = unread_stops (law.at_stage l.day ∙ sym c.STAGE.ensures) (ap (λ x. stage_is x s.Closed) c.STAGE.ensures ∙ law.is_open) c.in_err-record.ensures in
    handed_on _ _ c.in_err-record.field-0.0 c.from_residual.result c.from_residual.ensures.1 (then_stops l.invariant.1 l.invariant.0 stops)

pub past-after-requires : goal.past-after-requires
past-after-requires g c = omega (arith, c.size.ensures, fits c.in_ok-record.ensures)

pub give-requires : goal.give-requires
give-requires g c =
    let l = c.loop-record in
    let x = shown c.in_ok-record.record in
    let here = subst (λ y. Stands y l.left.bytes.now l.left.place x) c.STAGE.ensures c.in_ok-record.ensures in
    is_for here (subst (λ b. Closes b x g.D.TakesRecords.closing) c.if-is_closed_by.false c.is_closed_by.ensures)

pub returns-in_err-map_err : goal.returns-in_err-map_err
returns-in_err-map_err g c =
    let l = c.loop-record in
    let was = g.D.Staged.state l.day in
    let is = g.D.Staged.state c.give.new.self in
    let fault = c.in_err-map_err.field-0.0 in
    let p = mapped_err c.give.result c.map_err.result _ c.map_err.ensures.cases (λ e y. (y.place ≡ l.left.place) × (y.why ≡ w.Day e)) (λ e y q. search rules) fault c.in_err-map_err.was in
    let takes = subst (λ r. Takes (call_of (shown c.in_ok-record.record)) was r is) p.1 c.give.ensures in
    let d = denied (g.met.D.TakesRecords.at_stage l.day ∙ sym c.STAGE.ensures) c.in_ok-record.ensures takes p.2.0 p.2.1 in
    let read = subst (ReadFrom c.args.file.bytes.now c.args.file.place (g.D.Staged.state c.args.day.now) (Some fault)) (sym d.1) (then_stops l.invariant.1 l.invariant.0 d.0) in
    handed_on _ _ fault c.from_residual-in_err-map_err.result c.from_residual-in_err-map_err.ensures.1 read

pub loop-record-preserved : goal.loop-record-preserved
loop-record-preserved g c =
    let l = c.loop-record in
    let x = shown c.in_ok-record.record in
    let was = g.D.Staged.state l.day in
    let is = g.D.Staged.state c.give.new.self in
    let takes = subst (λ r. Takes (call_of x) was r is) (mapped_ok c.give.result c.map_err.result _ c.map_err.ensures.cases tt c.in_ok-map_err.was) c.give.ensures in
    let here = subst (λ b. Stands c.STAGE.result b l.left.place x) l.invariant.0 c.in_ok-record.ensures in
    let run = one_more l.invariant.1 (g.met.D.TakesRecords.at_stage l.day ∙ sym c.STAGE.ensures) here takes in
    (c.past-after.ensures.whole ∙ l.invariant.0, subst (λ n. Taken c.args.file.bytes.now c.args.file.place (g.D.Staged.state c.args.day.now) n is) (sym (c.past-after.ensures.read ∙ ap (λ n. l.left.place + n) c.size.ensures)) run)
