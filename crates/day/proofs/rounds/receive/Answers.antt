use Rattle.std.proofs.Common.{◌≡◌, ℕ, ◌<◌, List, length, get_or, ap, ◌∙◌, arith}
use Rattle.std.proofs.lemmas.List.{get_or_past}
use Rattle.sharing.specs.Places.{at_place, by_place}
use Rattle.sharing.specs.Shares.{share_of}
use Rattle.sharing.proofs.ByRank.{share_same}
use Rattle.sharing.proofs.Sums.{upto_at}
use Rattle.day.specs.declared.parties.Buyer.{Buyer}
use Rattle.day.proofs.InRows.{weigh}
use Rattle.day.proofs.rounds.receive.Goals as goal

pub first_eight-requires : goal.first_eight-requires
first_eight-requires c = λ a l. let u = upto_at (at_place c.share_out-shares.result.parts) 64 a (omega arith) in omega (arith, c.share_out-shares.ensures.adds, c.from.ensures)

pub returns : goal.returns
returns c =
    let areas = c.buyers-areas.result in
    let wants = c.args.wants in
    let items = c.from-2.result.items.now in
    let same : items ≡ areas = c.from-2.ensures in
    let long : length items ≡ 8 = ap length same ∙ omega arith in
    let wide : length wants ≡ 8 = omega arith in
    let is : (a : ℕ) → a < 8 → (get_or items a (record { want = 0 })).want ≡ at_place wants a =
    λ a l. ap (λ (xs : List Buyer). (get_or xs a (record { want = 0 })).want) same ∙ c.buyers-areas.ensures a l in
    let weights : (a : ℕ) → a < 64 → by_place (λ (x : Buyer). x.want) items a ≡ at_place wants a =
    weigh (λ (x : Buyer). x.want) items (record { want = 0 }) (at_place wants) 8 long is (λ a past l. get_or_past wants a 0 (omega arith)) in
    λ a l. c.first_eight.ensures a l ∙ c.share_out-shares.ensures.value a (omega arith) ∙ share_same _ _ weights _ a (omega arith) ∙ ap (λ n. share_of (at_place wants) n a) c.from.ensures
