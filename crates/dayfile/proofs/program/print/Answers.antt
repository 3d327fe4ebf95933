use Rattle.std.proofs.Common.{true, false, sym, ap, ◌∙◌, subst, arith}
use Rattle.dayfile.specs.Printed.{X_line, Prints, too_long, refused, listed}
use Rattle.dayfile.proofs.program.print.Goals as goal

pub returns-then-bytes-gt-FILE_MOST : goal.returns-then-bytes-gt-FILE_MOST
returns-then-bytes-gt-FILE_MOST c = subst (λ t. Prints c.args.bytes.now t true) (sym c.in_ok-refusal_line.ensures) (too_long c.if-bytes-gt-FILE_MOST.true)

pub returns-in_ok-list-in-Ok : goal.returns-in_ok-list-in-Ok
returns-in_ok-list-in-Ok c = subst (λ t. Prints c.args.bytes.now t false) (sym c.in_ok-list-in-Ok.ensures) (listed (omega arith) c.in-Ok.ensures.read)

pub returns-in_ok-refusal_line-in-Err : goal.returns-in_ok-refusal_line-in-Err
returns-in_ok-refusal_line-in-Err c =
    let told = c.in_ok-refusal_line-in-Err.ensures ∙ ap (X_line c.in-Err.field-0.fault.place) c.number.ensures in
    subst (λ t. Prints c.args.bytes.now t true) (sym told) (refused (omega arith) c.in-Err.ensures.read)
