use Rattle.std.proofs.Common.{◌+◌, arith, rules}
use Rattle.std.proofs.lemmas.List.{get_or_past}
use Rattle.sharing.specs.Places.{at_place}
use Rattle.sharing.proofs.Made.{reads_as}
use Rattle.sharing.proofs.share.added.Goals as goal

pub returns : goal.returns
returns c = reads_as _ _ (λ i. at_place c.args.parts.now i + at_place c.args.odd.now i) (λ i y q call. search rules) _ 64 c.from_fn.ensures.items
    (λ i far. omega (arith, get_or_past c.args.parts.now i 0 (omega arith), get_or_past c.args.odd.now i 0 (omega arith)))
