use Rattle.std.proofs.Common.{subst, rules}
use Rattle.statements.specs.Lines.{Put}
use Rattle.statements.specs.Billed.{sale_of}
use Rattle.statements.proofs.Puts.{put_then}
use Rattle.statements.proofs.Texts.{round_stands}
use Rattle.statements.proofs.period.Period.put_round.Goals as goal

pub returns-then-clearing-gt0 : goal.returns-then-clearing-gt0
returns-then-clearing-gt0 c =
    let b = c.args.self.now.day.now.book in
    let p = c.args.self.now.number in
    let k = c.args.round in
    let sales = c.entries.ensures (sale_of b p k) (λ i x l q. search rules) in
    let text = round_stands b p k c.clearing-clearing.result c.clearing-clearing.ensures c.if-clearing-gt0.true in
    subst (λ t. Put 6955 c.args.page.now t c.entries.new.self) text (put_then c.put.ensures sales)
