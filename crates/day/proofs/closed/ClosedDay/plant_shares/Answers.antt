use Rattle.std.proofs.Common.{◌≡◌, ℕ, ◌<◌, cond, eqb, List, length, get_or, None, ap, ◌∙◌, arith}
use Rattle.sharing.specs.Places.{total}
use Rattle.sharing.specs.Shares.{share_of}
use Rattle.day.specs.Bills.{in_area, net, producers}
use Rattle.day.specs.declared.parties.Producer.{Producer}
use Rattle.day.proofs.InRows.{part_is, rest_is}
use Rattle.day.proofs.closed.ClosedDay.plant_shares.Goals as goal

pub returns : goal.returns
returns c =
    let b = c.args.self.now.book in
    let items = c.from.result.items.now in
    let rows = c.producers-parties.ensures in
    let same : items ≡ c.producers-parties.result = c.from.ensures in
    let long : length items ≡ 64 = ap length same ∙ omega arith in
    let weigh : (j : ℕ) → j < 64 → (get_or items j (record { net = 0 })).net ≡ net b c.args.period c.args.area j =
    λ j l. ap (λ (xs : List Producer). (get_or xs j (record { net = 0 })).net) same ∙ rows j l ∙ ap (λ g. cond (in_area (get_or b.plants j None) c.args.area) (g j) 0) c.period.ensures.plants in
    let part : c.split-part.result.0 ≡ producers b c.args.period c.args.area = c.split-part.ensures.producers in
    let e = c.share_out.ensures in
    let f : Producer → ℕ = λ x. x.net in
    record {
      parts = λ j l. part_is f items (record { net = 0 }) _ long weigh c.split-part.result.0 _ j l (e.value j l) ∙ ap (λ n. share_of (net b c.args.period c.args.area) n j) part;
      uncarried = rest_is f items (record { net = 0 }) _ long weigh c.split-part.result.0 _ _ e.shared ∙ ap (λ n. cond (eqb (total (net b c.args.period c.args.area)) 0) n 0) part;
    }
