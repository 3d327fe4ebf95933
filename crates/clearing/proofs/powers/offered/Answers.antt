use Rattle.std.proofs.Common.{min, ap, ◌∙◌}
use Rattle.sharing.specs.Places.{total, at_place, by_place}
use Rattle.sharing.proofs.Sums.{itself, upto_same}
use Rattle.clearing.specs.Prices.{curves}
use Rattle.clearing.proofs.powers.offered.Goals as goal

pub returns : goal.returns
returns g c =
    let all = c.powers.result in
    c.total.ensures ∙ ap (λ l. total (by_place (λ x. x) l)) c.from.ensures ∙ ap total (itself all) ∙ upto_same (at_place all) (λ i. curves g.S.Seller.power c.args.sellers.now i (min c.args.price 60)) 64 (λ i l. c.powers.ensures.each i)
