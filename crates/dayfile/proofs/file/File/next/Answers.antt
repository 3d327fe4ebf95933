use Rattle.std.proofs.Common.{rules, length, sym, subst, arith}
use borrow.Author.Tests.{eqb-false}
use Rattle.records.specs.Records.{Says, said}
use Rattle.dayfile.proofs.Records.{told}
use Rattle.dayfile.proofs.file.File.next.Goals as goal

pub returns : goal.returns
returns c =
    let f = c.args.self in
    let says = subst (λ bs. Says (said c.args.stage bs) c.read_record.result) c.rest.ensures c.read_record.ensures.says in
    told c.args.stage f.bytes.now f.place c.read_record.result c.map_err.result _ c.map_err.ensures.cases (λ e y q. search rules) (omega (arith, f.within, eqb-false f.place (length f.bytes.now) (sym c.if-is_read.ensures))) says
