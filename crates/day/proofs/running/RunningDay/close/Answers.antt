use Rattle.std.proofs.Common.{refl}
use Rattle.day.proofs.Balances.{balanced, isolated}
use Rattle.day.proofs.Keeping.{kept}
use Rattle.day.proofs.Law.{every_day}
use Rattle.day.proofs.OneBill.{same_bills}
use Rattle.day.proofs.OneDay.{only_day}
use Rattle.day.proofs.Reach.{accounted}
use Rattle.day.proofs.running.RunningDay.close.Goals as goal

pub returns : goal.returns
returns c = record { book = refl; law = every_day balanced; this = accounted balanced c.args.self.reached; kept = kept; isolated = isolated; only = only_day; bills = same_bills }
