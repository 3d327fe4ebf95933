use Rattle.std.proofs.Common.{◌<◌, min, length, ap, arith, rules}
use Rattle.sellers.specs.Curves.{Weighs}
use Rattle.sharing.specs.Rows.{weights}
use Rattle.clearing.specs.Prices.{curves}
use Rattle.sharing.proofs.Made.{filled, reads_as}
use Rattle.clearing.proofs.Standing.{curve_past}
use Rattle.clearing.proofs.powers.powers.Goals as goal

pub returns-clause-each : goal.returns-clause-each
returns-clause-each g c =
    let power = g.S.Seller.power in
    let row = c.args.sellers.now in
    let q = min c.args.price 60 in
    reads_as _ _ (λ i. curves power row i q) (λ i y q call. search rules) _ 64 c.from_fn.ensures.items
    (λ i past. ap (λ f. f q) (curve_past power row.items.now i (omega arith)))

pub returns-clause-weighs : goal.returns-clause-weighs
returns-clause-weighs g c =
    let row = c.args.sellers.now in
    λ i l. filled _ _ (λ i y. i < length row.items.now → Weighs (weights g.S.Party.heft row i)) (λ i y q call. search rules) _ 64 c.from_fn.ensures.items i 0 (omega arith) l
