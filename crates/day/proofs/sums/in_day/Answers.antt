use Rattle.std.proofs.Common.{rules, ap, ◌∙◌, of_calls, ◌≡◌, ◌*◌, ◌<◌, sym, mul-add, arith}
use Rattle.sharing.specs.Places.{upto}
use Rattle.sharing.proofs.Sums.{upto_none, upto_more}
use Rattle.day.proofs.sums.in_day.Goals as goal

pub loop-period-init : goal.loop-period-init
loop-period-init g c = (λ f h. sym (upto_none _), λ m h. omega arith, omega arith)

pub loop-period-preserved : goal.loop-period-preserved
loop-period-preserved g c =
    let inv = c.loop-period.invariant in
    let p = c.loop-period.period-counter in
    let n = c.args.parties in
    let low : p < 96 = omega arith in
    let one = c.sum_of-sum.ensures in (
      λ f h. omega (arith, inv.0 f h, upto_more (λ p. upto (f p) n) p, one.value (f p) (λ i r l post. h p i r low l (search (rules, of_calls)))),
      λ m h. omega (arith, inv.1 m h, mul-add (m * n) p 1, one.most m (λ i r l post. h p i r low l (search (rules, of_calls)))),
      omega (arith, inv.2, one.fits),
    )

pub returns-clause-value : goal.returns-clause-value
returns-clause-value g c = λ f h. let end : c.loop-period.period-counter ≡ 96 = omega arith in c.loop-period.invariant.0 f h ∙ ap (upto (λ p. upto (f p) c.args.parties)) end
