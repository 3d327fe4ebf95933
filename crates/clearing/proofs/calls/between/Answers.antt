use Rattle.std.proofs.Common.{◌-◌, arith, rules}
use Rattle.std.proofs.lemmas.List.{get_or_past}
use Rattle.sharing.specs.Places.{at_place}
use Rattle.sharing.proofs.Made.{reads_as}
use Rattle.clearing.proofs.calls.between.Goals as goal

pub returns : goal.returns
returns c = reads_as _ _ (λ i. at_place c.args.high.now i - at_place c.args.low.now i) (λ i y q call. search rules) _ 64 c.from_fn.ensures.items
    (λ i past. omega (arith, get_or_past c.args.high.now i 0 (omega arith)))
