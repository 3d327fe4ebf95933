use Rattle.std.proofs.Common.{rules, of_calls, ℕ, cond, ◌∙◌, arith}
use Rattle.std.proofs.lemmas.Iterator.{YieldsList-from_range, YieldsList-from_map}
use Rattle.std.proofs.lemmas.Iterator.Adapters.{fits_from_length, at_most_from_yields_List}
use Rattle.std.proofs.lemmas.Iterator.Consumers.{sum_from_yields_List}
use Rattle.std.proofs.lemmas.List.FromFn.{length-range_with_len}
use Rattle.day.specs.Bills.{in_area, unit_area, penalty}
use Rattle.day.specs.Reading.{seller_at}
use Rattle.day.proofs.Chained.{sum_upto}
use Rattle.day.proofs.closed.ClosedDay.fines.Goals as goal

pub sum-requires-clause-fits : goal.sum-requires-clause-fits
sum-requires-clause-fits c =
    let long = length-range_with_len 0 64 in
    fits_from_length _ _ 64 _ (at_most_from_yields_List (YieldsList-from_range 0 64 64 c.map.ensures.source (omega arith)) (omega (arith, long))) c.map.ensures.closure (omega arith) (λ x r q k. search (rules, of_calls))

pub returns : goal.returns
returns c =
    let b = c.args.self.now.book in
    let fine : ℕ → ℕ = λ i. cond (in_area (unit_area (seller_at b i)) c.args.area) (penalty b c.args.period i) 0 in
    sum_from_yields_List c.map.result c.sum.result c.sum.ensures.ran (YieldsList-from_map _ fine (YieldsList-from_range 0 64 64 c.map.ensures.source (omega arith)) c.map.ensures.closure (λ x r q k. search (rules, of_calls))) ∙ sum_upto fine 64
