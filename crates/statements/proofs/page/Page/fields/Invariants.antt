use Rattle.std.proofs.Common.{◌*◌, take}
use Rattle.std.specs.List.{flat_map}
use Rattle.statements.specs.Lines.{field, Put}
use Rattle.statements.proofs.page.Page.fields.Given as goal

abbrev pub invariant-loop-n : goal.invariant-loop-n
invariant-loop-n l = Put (21 * l.n-index) l.initial.self (flat_map field (take l.n-index l.numbers)) l.self
