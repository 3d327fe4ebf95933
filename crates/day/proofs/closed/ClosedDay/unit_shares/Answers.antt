use Rattle.std.proofs.Common.{◌≡◌, ℕ, ◌<◌, cond, eqb, List, length, get_or, ap, ◌∙◌, arith}
use Rattle.sharing.specs.Places.{total}
use Rattle.sharing.specs.Shares.{share_of}
use Rattle.day.specs.Bills.{in_area, payee_area, payee, fines}
use Rattle.day.specs.Reading.{seller_at}
use Rattle.day.specs.declared.parties.Payee.{Payee}
use Rattle.day.proofs.InRows.{part_is, rest_is}
use Rattle.day.proofs.Units.{reading_read}
use Rattle.day.proofs.closed.ClosedDay.unit_shares.Goals as goal

pub returns : goal.returns
returns c =
    let b = c.args.self.now.book in
    let p = c.args.period in
    let a = c.args.area in
    let items = c.from.result.items.now in
    let rows = c.payees-parties.ensures in
    let same : items ≡ c.payees-parties.result = c.from.ensures in
    let long : length items ≡ 64 = ap length same ∙ omega arith in
    let weigh : (i : ℕ) → i < 64 → (get_or items i (record { reading = 0 })).reading ≡ payee b p a i =
    λ i l. ap (λ (xs : List Payee). (get_or xs i (record { reading = 0 })).reading) same ∙ rows i l
    ∙ ap (λ n. cond (in_area (payee_area (seller_at b i)) a) n 0) (reading_read b p i c.period.result c.period.ensures) in
    let sum : c.fines.result ≡ fines b p a = c.fines.ensures in
    let e = c.share_out.ensures in
    let f : Payee → ℕ = λ x. x.reading in
    record {
      parts = λ i l. part_is f items (record { reading = 0 }) _ long weigh c.fines.result _ i l (e.value i l) ∙ ap (λ n. share_of (payee b p a) n i) sum;
      uncarried = rest_is f items (record { reading = 0 }) _ long weigh c.fines.result _ _ e.shared ∙ ap (λ n. cond (eqb (total (payee b p a)) 0) n 0) sum;
    }
