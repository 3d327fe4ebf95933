use Rattle.std.proofs.Common.{◌≡◌, ◌+◌, Ok, Err, sym, refl, ap, ◌∙◌, subst, rules}
use Rattle.day.specs.Reading.{opened}
use Rattle.records.specs.declared.kind.Stage.TheVariants as s
use Rattle.records.specs.Records.{shown, size}
use Rattle.dayfile.specs.declared.fault.Why.TheVariants as w
use Rattle.dayfile.specs.Files.{opens, not_opened, Takes, unopened, opening, opening_with, none, Taken}
use Rattle.dayfile.specs.Parts.{Stands}
use Rattle.dayfile.proofs.Records.{handed_on, unread_stops, ok_holds, err_holds, denied, one_more}
use Rattle.dayfile.proofs.read.read_share.Goals as goal

pub returns-in_err-record : goal.returns-in_err-record
returns-in_err-record c = handed_on _ _ c.in_err-record.field-0.0 c.from_residual.result c.from_residual.ensures.1 (unread_stops refl refl c.in_err-record.ensures)

pub returns-in_err-share : goal.returns-in_err-share
returns-in_err-share c =
    let file = c.args.file in
    let fault = c.in_err-share.field-0.0 in
    let here = subst (λ r. Stands s.Unopened file.bytes.now file.place (shown r)) c.in-Open.is c.in_ok-record.ensures in
    let p = err_holds c.tested_share.result c.map_err.result _ c.map_err.ensures.cases _ _ c.tested_share.ensures.refused (λ e y. (y.place ≡ file.place) × (y.why ≡ w.Day e)) (λ e y q. search rules) fault c.in_err-share.was in
    let took = subst (λ f. Takes (opening_with c.in-Open.share) unopened (Err f) unopened) (sym p.1.1) (not_opened p.1.0) in
    handed_on _ _ fault c.from_residual-in_err-share.result c.from_residual-in_err-share.ensures.1 (denied refl here took p.2.0 p.2.1).0

pub returns : goal.returns
returns c =
    let file = c.args.file in
    let share = c.in_ok-share.share in
    let here = subst (λ r. Stands s.Unopened file.bytes.now file.place (shown r)) c.in-Open.is c.in_ok-record.ensures in
    let made = ok_holds c.tested_share.result c.map_err.result _ c.map_err.ensures.cases _ _ c.tested_share.ensures.made share c.in_ok-share.was in
    let took = subst (λ n. Takes (opening_with n) unopened (Ok tt) (opening (opened share))) made.1 (opens share) in
    let past = c.past.ensures.read ∙ ap (λ n. file.place + n) (c.size.ensures ∙ ap (λ r. size (shown r)) c.in-Open.is) in
    (subst (λ n. Taken file.bytes.now file.place unopened n (opening (opened share))) (sym past) (one_more none refl here took), c.past.ensures.whole)
