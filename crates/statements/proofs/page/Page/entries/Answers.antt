use Rattle.std.proofs.Common.{◌≡◌, ◌*◌, subst, arith}
use Rattle.statements.specs.Lines.{lines_of, Put}
use Rattle.statements.proofs.Puts.{none_put, one_put}
use Rattle.statements.proofs.page.Page.entries.Goals as goal

pub loop-number-init : goal.loop-number-init
loop-number-init g c = λ e h. none_put g.E.Entry.width (λ i. g.E.Entry.text (e i))

pub loop-number-preserved : goal.loop-number-preserved
loop-number-preserved g c = λ e h.
    let n = c.loop-number.number in
    let its = subst (λ x. Put g.E.Entry.width c.loop-number.self (g.E.Entry.text x) c.put.new.page) (h n c.entry.result (omega arith) c.entry.ensures) c.put.ensures in
    one_put g.E.Entry.width (λ i. g.E.Entry.text (e i)) n (c.loop-number.invariant e (λ i x l p. h i x (omega arith) p)) its

pub returns : goal.returns
returns g c = λ e h.
    let all : c.loop-number.number ≡ c.args.count = omega arith in
    subst (λ n. Put (g.E.Entry.width * n) c.args.self.now (lines_of g.E.Entry.text e n) c.loop-number.self) all (c.loop-number.invariant e (λ i x l p. h i x (omega arith) p))
