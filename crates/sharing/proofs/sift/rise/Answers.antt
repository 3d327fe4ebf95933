use Rattle.std.proofs.Common.{sym, ◌∙◌, arith}
use Rattle.std.proofs.lemmas.List.MinMax.{IsStrictWeakOrder-flip}
use Rattle.std.proofs.lemmas.List.Sorted.{IsPermutation-trans}
use Rattle.sharing.specs.Order.{behind}
use Rattle.sharing.proofs.Heaps.{rises}
use Rattle.sharing.proofs.sift.rise.Goals as goal

pub loop-j-preserved : goal.loop-j-preserved
loop-j-preserved g c =
    let o = IsStrictWeakOrder-flip _ g.met.C.Claim.ranks in
    let l = c.loop-j in
    let w = c.swap.ensures.by_index in (
      omega arith,
      IsPermutation-trans _ _ _ l.invariant.1 c.swap.ensures.permutation,
      λ h. rises (behind g.C.Claim.ahead) o l.s c.swap.new.self 0 _ l.j _ (omega arith) (omega arith) (omega arith) (omega arith) (w.0, w.1, w.2) (λ d. sym (c.before_at.ensures d) ∙ c.if-not-before_at.false) (l.invariant.2 h),
    )
