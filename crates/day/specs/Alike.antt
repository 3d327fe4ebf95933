-- Periods that are read alike. Assumes nothing.
use Rattle.std.specs.Prelude.{◌≡◌}
use Rattle.day.specs.declared.book.Period.{Period}
use Rattle.day.specs.Reading.{plan_at, cleared_at, unit_read, plant_read}

-- The plans, the clearings and the readings of two periods are the same.
pub record ReadAlike (q q' : Period) : Type 0 where
  pub plans : plan_at q ≡ plan_at q'
  pub clearings : cleared_at q ≡ cleared_at q'
  pub units : unit_read q ≡ unit_read q'
  pub plants : plant_read q ≡ plant_read q'
