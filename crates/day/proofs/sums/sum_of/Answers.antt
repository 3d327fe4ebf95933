use Rattle.std.proofs.Common.{◌<◌, sym, mul-add, arith}
use Rattle.sharing.proofs.Sums.{upto_none, upto_more}
use Rattle.day.proofs.sums.sum_of.Goals as goal

pub loop-i-init : goal.loop-i-init
loop-i-init g c = (λ f h. sym (upto_none f), λ m h. omega arith, omega arith)

pub loop-i-preserved : goal.loop-i-preserved
loop-i-preserved g c =
    let inv = c.loop-i.invariant in
    let i = c.loop-i.i in
    let low : i < c.args.count = omega arith in (
      λ f h. omega (arith, inv.0 f h, upto_more f i, h i c.figure.result low c.figure.ensures, c.from-sum.ensures),
      λ m h. omega (arith, inv.1 m h, mul-add m i 1, h i c.figure.result low c.figure.ensures, c.from-sum.ensures),
      omega (arith, inv.2, c.from-sum.ensures),
    )
