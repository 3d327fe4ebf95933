-- What is read of a unit in a period that is read alike. Assumes nothing.
use Rattle.std.proofs.Common.{◌≡◌, ℕ, ◌-◌, ◌*◌}
use Rattle.day.specs.declared.book.Book.{Book}
use Rattle.day.specs.declared.book.Period.{Period}
use Rattle.day.specs.Alike.{ReadAlike}
use Rattle.day.specs.Bills.{plan_in, reading_in, plan_of, reading_of}
use Rattle.day.specs.Reading.{period_at, call_in}
use Rattle.day.specs.Terms.{or_else, base_from}

module _ (b : Book) (p i : ℕ) (q : Period) (alike : ReadAlike q (period_at b p)) where
  pub plan_read : plan_in q i ≡ plan_of b p i
  plan_read = λ t. base_from (alike.plans t) (call_in (alike.clearings t 0)) 1 i - call_in (alike.clearings t 1) i

  pub reading_read : reading_in q i ≡ reading_of b p i
  reading_read = λ t. or_else (alike.units t i) (25 * plan_read t)
