use Rattle.std.proofs.Common.{None, Some, arith, rules}
use Rattle.sharing.specs.Places.{at_place}
use Rattle.sharing.specs.Rows.{weights}
use Rattle.sharing.proofs.Sums.{zeros}
use Rattle.clearing.specs.Calls.{Clears}
use Rattle.clearing.specs.Prices.{curves}
use Rattle.clearing.proofs.Cheap.{all_cheapest, all_settled}
use Rattle.clearing.proofs.Offering.{all_offers}
use Rattle.clearing.proofs.Only.{all_only}
use Rattle.clearing.proofs.Standing.{lawful_at, offered_most}
use Rattle.clearing.proofs.clear.clear.Goals as goal

pub overflow_cast-brought : goal.overflow_cast-brought
overflow_cast-brought g c =
    let power = g.S.Seller.power in
    let row = c.args.sellers.now in
    omega (arith, c.offered.ensures, offered_most (curves power row) (lawful_at power g.met.S.Seller.lawful row.items.now))

pub returns-then-brought-eq0 : goal.returns-then-brought-eq0
returns-then-brought-eq0 g c =
    let power = g.S.Seller.power in
    let row = c.args.sellers.now in
    let w = weights g.S.Party.heft row in
    let fs = curves power row in
    let law = lawful_at power g.met.S.Seller.lawful row.items.now in
    let clears : Clears w fs c.args.wanted c.min-brought.result None _ = record { brings = search rules; priced = (c.if-brought-eq0.true, zeros 64) } in
    record {
      clears = clears;
      only = all_only w fs c.args.wanted _ None _ clears;
      short = search rules;
      offers = λ i. all_offers (fs i);
      cheapest = all_cheapest w fs law _ None _ clears.priced;
      settled = all_settled w fs law _ None _ clears.priced;
    }

pub returns : goal.returns
returns g c =
    let power = g.S.Seller.power in
    let row = c.args.sellers.now in
    let w = weights g.S.Party.heft row in
    let fs = curves power row in
    let law = lawful_at power g.met.S.Seller.lawful row.items.now in
    let clears : Clears w fs c.args.wanted c.min-brought.result (Some c.least_price-price.result) (at_place c.call_at.result) = search rules in
    record {
      clears = clears;
      only = all_only w fs c.args.wanted _ (Some c.least_price-price.result) _ clears;
      short = search rules;
      offers = λ i. all_offers (fs i);
      cheapest = all_cheapest w fs law _ (Some c.least_price-price.result) _ clears.priced;
      settled = all_settled w fs law _ (Some c.least_price-price.result) _ clears.priced;
    }
