use Rattle.std.proofs.Common.{sym, ◌∙◌, arith}
use Rattle.std.proofs.lemmas.List.MinMax.{IsStrictWeakOrder-flip}
use Rattle.std.proofs.lemmas.List.Sorted.{IsPermutation-trans}
use Rattle.sharing.specs.Order.{behind}
use Rattle.sharing.proofs.Heaps.{sinks}
use Rattle.sharing.proofs.sift.sink.Goals as goal

pub loop-j-preserved : goal.loop-j-preserved
loop-j-preserved g c =
    let o = IsStrictWeakOrder-flip _ g.met.C.Claim.ranks in
    let l = c.loop-j in
    let child = c.first_child-child in
    let w = c.swap.ensures.by_index in (
      IsPermutation-trans _ _ _ l.invariant.0 c.swap.ensures.permutation,
      λ h. sinks (behind g.C.Claim.ahead) o l.s c.swap.new.self 0 l.j child.result _ (omega arith) child.ensures.bound.0 child.ensures.bound.1 (omega arith) (w.0, w.1, w.2) (λ d. sym (c.before_at.ensures d) ∙ c.if-not-before_at.false) (λ k d a b e. child.ensures.best k d a b (omega arith)) (l.invariant.1 h),
    )
