-- The number of each refusal of a statement. Assumes nothing.
use Rattle.std.specs.Prelude.{ℕ}
use Rattle.statements.specs.declared.fault.StatementFault.{StatementFault}
use Rattle.statements.specs.declared.fault.StatementFault.TheVariants.{Period, Long}

-- The number that a refusal is known by.
abbrev pub statement_refusal : StatementFault → ℕ
statement_refusal Period = 17
statement_refusal Long = 35
