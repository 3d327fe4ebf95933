-- The number of each round of a period. Assumes nothing.
use Rattle.std.specs.Prelude.{ℕ}
use Rattle.day.specs.declared.round_kind.RoundKind.{RoundKind}
use Rattle.day.specs.declared.round_kind.RoundKind.TheVariants.{DayAhead, Intraday}

abbrev pub number_of : RoundKind → ℕ
number_of DayAhead = 0
number_of Intraday = 1
