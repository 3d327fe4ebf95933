use Rattle.std.proofs.Common.{◌≡◌, ap, ◌∙◌, arith}
use Rattle.sharing.specs.Places.{total, at_place, by_place}
use Rattle.sharing.proofs.Sums.{itself}
use Rattle.clearing.proofs.Calling.{low_within, all_called}
use Rattle.clearing.proofs.calls.call_at.Goals as goal

pub overflow_sub-rest : goal.overflow_sub-rest
overflow_sub-rest g c =
    let low = low_within g.S.Seller.power g.S.Party.heft g.met.S.Seller.lawful c.args.sellers.now c.args.price c.args.brought c.requires.least _ _ _
    c.below-low.ensures c.powers.ensures.each c.between-rooms.ensures in
    let sum : c.total.result ≡ total (at_place c.below-low.result) =
    c.total.ensures ∙ ap (λ l. total (by_place (λ x. x) l)) c.from-2.ensures ∙ ap total (itself c.below-low.result) in
    omega arith

pub returns : goal.returns
returns g c =
    let handed = c.share_tenths-handed.ensures in
    let sum : c.total.result ≡ total (at_place c.below-low.result) =
    c.total.ensures ∙ ap (λ l. total (by_place (λ x. x) l)) c.from-2.ensures ∙ ap total (itself c.below-low.result) in
    all_called g.S.Seller.power g.S.Party.heft g.met.S.Seller.lawful c.args.sellers.now c.args.price c.args.brought c.requires.least _ _ _
    c.below-low.ensures c.powers.ensures.each c.between-rooms.ensures c.powers.ensures.weighs _ _ _ (omega arith) handed.adds handed.uncarried handed.shared _ c.joined.ensures
