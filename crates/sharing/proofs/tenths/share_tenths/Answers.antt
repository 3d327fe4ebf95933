use Rattle.std.proofs.Common.{ℕ, ◌<◌, length, arith}
use Rattle.std.proofs.lemmas.Bool.{cases_lt}
use Rattle.sharing.specs.Places.{at_place}
use Rattle.sharing.specs.Rows.{weights}
use Rattle.sharing.specs.Tenths.{takes}
use Rattle.sharing.proofs.ByTenths.{follows_rule, left_is}
use Rattle.sharing.proofs.Entering.{takes_some}
use Rattle.sharing.proofs.OneHanding.{one_handing}
use Rattle.sharing.proofs.Sums.{cases, by_place_past}
use Rattle.sharing.proofs.tenths.share_tenths.Goals as goal

pub returns : goal.returns
returns g c =
    let r = c.enter_rooms-list.ensures in
    let h = c.hand_out.ensures in
    let heft = g.P.Party.heft in
    let ps = c.args.parties.now.items.now in
    let w = weights heft c.args.parties.now in
    let rooms = at_place c.args.rooms.now in
    let inside : (i : ℕ) → 0 < w i → i < length ps =
    λ i pos. cases (cases_lt i (length ps)) (λ l. l) (λ past. absurd (omega (arith, by_place_past heft ps i past))) in
    let heavy : (i : ℕ) → 0 < takes w rooms i → 0 < w i = λ i some. (takes_some w rooms i some).0 in
    let apart = r.roomed.below.apart in
    let handed = h.handed apart in
    let fair = follows_rule w (takes w rooms) _ (length ps) _ inside heavy r.roomed handed in
    record {
      adds = h.adds;
      uncarried = left_is w (takes w rooms) _ (length ps) _ inside heavy r.roomed handed _ _ h.adds (h.exhausted apart);
      shared = fair;
      only = λ other is sums. one_handing _ _ other _ is fair sums;
    }
