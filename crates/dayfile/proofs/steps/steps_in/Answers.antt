use Rattle.std.proofs.Common.{length, ◌/◌, map, ap, ◌∙◌, arith}
use Rattle.std.proofs.lemmas.List.{take_all}
use Rattle.dayfile.specs.Files.{step_at}
use Rattle.dayfile.proofs.Shown.{chunked}
use Rattle.dayfile.proofs.steps.steps_in.Goals as goal

pub returns : goal.returns
returns c =
    let bs = c.args.shown.now in
    let triples = c.as_chunks.result.0.now in
    let whole = take_all c.loop-price.price-index triples (omega (arith, c.loop-price-test.false, c.loop-price.auto.price-index-end)) in
    c.loop-price.invariant ∙ ap (map (λ t. step_at t 0)) (whole ∙ c.as_chunks.ensures.front) ∙ chunked (length bs / 3) bs
