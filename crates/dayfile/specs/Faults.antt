-- The number of each refusal of a file. Assumes nothing.
use Rattle.std.specs.Prelude.{ℕ}
use Rattle.records.specs.Marks.{record_number}
use Rattle.day.specs.Faults.{refusal}
use Rattle.dayfile.specs.declared.fault.Why.{Why}
use Rattle.dayfile.specs.declared.fault.Why.TheVariants as w

-- The number that a refusal is known by: the record's or the day's own, and 33 where the file ends too early.
abbrev pub why_number : Why → ℕ
why_number (w.Record f) = record_number f
why_number w.Unclosed = 33
why_number (w.Day f) = refusal f
