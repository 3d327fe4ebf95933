use Rattle.std.proofs.Common.{sym, ap, ◌∙◌}
use Rattle.sharing.proofs.Sums.{zeros}
use Rattle.clearing.specs.Calls.{under}
use Rattle.clearing.specs.Prices.{curves}
use Rattle.clearing.proofs.powers.below.Goals as goal

pub returns-then-price-eq0 : goal.returns-then-price-eq0
returns-then-price-eq0 g c = λ i. zeros 64 i ∙ ap (under (curves g.S.Seller.power c.args.sellers.now i)) (sym c.if-price-eq0.true)
