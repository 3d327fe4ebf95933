use Rattle.std.proofs.Common.{rules}
use Rattle.std.proofs.iter.runs.Made.{chains}
use Rattle.sellers.proofs.steps.StepOffer.power.Goals as goal

pub returns : goal.returns
returns c = search (rules, chains)
