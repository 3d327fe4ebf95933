use Rattle.std.proofs.Common.{◌≡◌, map, take}
use Rattle.dayfile.specs.Files.{step_at}
use Rattle.dayfile.proofs.steps.steps_in.Given as goal

abbrev pub invariant-loop-price : goal.invariant-loop-price
invariant-loop-price l = l.steps.items ≡ map (λ t. step_at t 0) (take l.price-index l.triples)
