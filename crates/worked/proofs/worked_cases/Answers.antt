use Rattle.std.proofs.Common.{refl}
use Rattle.sharing.specs.Places.{upto}
use Rattle.sellers.specs.Tiers.{highest}
use Rattle.worked.specs.Cases.{worked}
use Rattle.worked.proofs.Checked.{all_hold}
use Rattle.worked.proofs.worked_cases.Goals as goal

-- None of the cases fails: each is computed.
pub returns : goal.returns
unfolding upto highest
returns c = all_hold worked refl
