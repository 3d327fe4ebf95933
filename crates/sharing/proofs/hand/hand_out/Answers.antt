use Rattle.std.proofs.Common.{◌≡◌, suc, ◌+◌, ◌<◌, length, get_or, set, sym, refl, ap, ◌∙◌, arith, length-set}
use Rattle.std.proofs.lemmas.List.{get_or-set_same, get_or-set_other}
use Rattle.sharing.specs.Places.{at_place}
use Rattle.sharing.proofs.Sums.{upto_at, upto_set, upto_zero, zeros}
use Rattle.sharing.proofs.Serving.{starts, steps, ends, waits_on}
use Rattle.sharing.proofs.hand.hand_out.Goals as goal

pub loop-k-init : goal.loop-k-init
loop-k-init g c =
    let m = g.C.Claim in
    let l = g.met.C.Claim in
    (refl, upto_zero _ 64 (λ i h. zeros 64 i), refl, starts m.ahead m.holder m.next l.ranks l.later _ _ (zeros 64))

pub returns-in_default-clause-handed : goal.returns-in_default-clause-handed
returns-in_default-clause-handed g c =
    let m = g.C.Claim in
    let l = g.met.C.Claim in
    λ apart. ends m.ahead m.holder m.next l.ranks l.later _ _ _ (c.loop-k.invariant.3 apart)

pub overflow_add-parts : goal.overflow_add-parts
overflow_add-parts g c =
    let here : c.number.result < 64 = let n = g.met.C.Claim.numbered c.in-Some.claim in let e = c.number.ensures in omega arith in
    omega (arith, c.loop-k.invariant.1, upto_at (at_place c.loop-k.parts) 64 c.number.result here)

pub loop-k-preserved : goal.loop-k-preserved
loop-k-preserved g c =
    let m = g.C.Claim in
    let l = g.met.C.Claim in
    let inv = c.loop-k.invariant in
    let G = c.loop-k.parts in
    let i = c.number.result in
    let e = c.number.ensures in
    let here : i < 64 = let n = l.numbered c.in-Some.claim in omega arith in
    let in' : i < length G = let n = inv.0 in omega arith in
    let G' = set G i (get_or G i 0 + 1) in
    let up : at_place G' i ≡ suc (at_place G i) = get_or-set_same G i (get_or G i 0 + 1) 0 in' ∙ omega arith in
    let served = c.in-Some.ensures.items in (
      length-set G i _ ∙ inv.0,
      omega (arith, inv.1, upto_set G i (get_or G i 0 + 1) 64 in' here),
      c.in-Some.ensures.room ∙ inv.2,
      λ apart.
          steps m.ahead m.holder m.next l.ranks l.later _ (at_place G) (at_place G') _ _ c.in-Some.claim served.1 served.0
          (ap (at_place G') (sym e) ∙ up ∙ ap (λ k. suc (at_place G k)) e)
          (λ k other. get_or-set_other G i k _ 0 (λ s. other (s ∙ e))) (inv.3 apart),
    )

pub returns-clause-handed : goal.returns-clause-handed
returns-clause-handed g c =
    let m = g.C.Claim in
    let l = g.met.C.Claim in
    λ apart. ends m.ahead m.holder m.next l.ranks l.later _ _ _ (c.loop-k.invariant.3 apart)

pub returns-clause-waits : goal.returns-clause-waits
returns-clause-waits g c =
    let m = g.C.Claim in
    let l = g.met.C.Claim in
    λ apart. waits_on m.ahead m.holder m.next l.ranks l.later _ _ _ (c.loop-k.invariant.3 apart)
