use Rattle.std.proofs.Common.{◌≡◌, min, ltb, rules}
use Rattle.std.proofs.lemmas.List.Sorted.{IsPartitionPoint-from_clause}
use borrow.Author.Tests.{tests}
use Rattle.clearing.specs.Prices.{curves, offered}
use Rattle.sharing.proofs.Made.{filled}
use Rattle.clearing.proofs.Halved.{parted, least_parted}
use Rattle.clearing.proofs.Standing.{lawful_at, offered_rises}
use Rattle.clearing.proofs.price.least_price.Goals as goal

pub returns : goal.returns
returns g c =
    let power = g.S.Seller.power in
    let row = c.args.sellers.now in
    let offer = offered (curves power row) in
    let prices = c.from_fn-prices.result in
    let is = filled _ _ (λ i y. y ≡ i) (λ i y q call. search rules) prices 61 c.from_fn-prices.ensures.items in
    let rises = offered_rises (curves power row) (lawful_at power g.met.S.Seller.lawful row.items.now) in
    let point = IsPartitionPoint-from_clause (λ q. ltb (offer (min q 60)) c.args.brought) prices c.partition_point.result c.partition_point.ensures.partitioned
    (parted offer c.args.brought prices (search rules) is rises) (λ a r f' call. search (rules, tests)) in
    least_parted offer c.args.brought prices (search rules) is c.partition_point.result c.requires c.partition_point.ensures.bound point
