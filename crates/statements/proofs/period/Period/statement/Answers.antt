use Rattle.std.proofs.Common.{ap, length, subst, arith, rules}
use Rattle.statements.specs.Lines.{Put}
use Rattle.statements.specs.Billed.{area_of, plant_of, unit_of, refund_of}
use Rattle.statements.specs.Statement.{statement_of}
use Rattle.statements.proofs.Puts.{put_then, alone}
use Rattle.statements.proofs.Texts.{all_parts}
use Rattle.statements.proofs.period.Period.statement.Goals as goal

pub returns : goal.returns
returns c =
    let b = c.args.self.now.day.now.book in
    let p = c.args.self.now.number in
    let areas = c.entries.ensures (area_of b p) (λ i x l q. search rules) in
    let plants = c.entries-2.ensures (plant_of b p) (λ i x l q. search rules) in
    let units = c.entries-3.ensures (unit_of b p) (λ i x l q. search rules) in
    let refunds = c.entries-4.ensures (refund_of b p) (λ i x l q. search rules) in
    let parts = put_then c.put_round.ensures (put_then c.put_round-2.ensures (put_then areas (put_then plants (put_then units refunds)))) in
    let all : Put 24950 c.new-page.result (statement_of b p) c.entries-4.new.self = subst (λ t. Put 24950 c.new-page.result t c.entries-4.new.self) (all_parts b p) parts in
    let value = alone c.new-page.ensures all (omega arith) in
    record { value = value; most = omega (arith, all.short, ap length value) }
