use Rattle.std.proofs.Common.{◌≡◌, ℕ, ◌+◌, ◌*◌, ◌/◌, ◌%◌, ◌<◌, ◌≤◌, length, sym, refl, ap, ◌∙◌, arith, length-set}
use Rattle.std.proofs.lemmas.List.{get_or-set_same, get_or-set_other}
use Rattle.std.proofs.lemmas.List.Sorted.{length_permutation}
use Rattle.std.proofs.lemmas.Result.{MatchResult-at_ok}
use Rattle.sharing.specs.Places.{upto, total, at_place}
use Rattle.sharing.specs.Rows.{weights}
use Rattle.sharing.specs.Shares.{part_of, left_of}
use Rattle.sharing.proofs.Entering.{rounded_none, rounded_more}
use Rattle.sharing.proofs.Rounding.{part_fits}
use Rattle.sharing.proofs.Sums.{zeros, upto_none, upto_more, by_place_in}
use Rattle.sharing.proofs.share.round_down.Goals as goal

pub loop-i-init : goal.loop-i-init
loop-i-init g c =
    let empty = c.new-list.ensures.empty in
    (rounded_none _ _ _ _ empty (zeros 64), omega (arith, upto_none (part_of (weights g.P.Party.heft c.args.parties.now) c.args.amount)), refl, omega (arith, ap length empty), c.new-list.ensures.room ∙ c.told-slots)

-- what the code computes is the part and the remainder of the party at hand
module _ (a h t amount left : ℕ) (w : ℕ → ℕ) (i : ℕ) (a-is : a ≡ amount) (here : h ≡ w i) (t-is : t ≡ total w) where
  part_is : a * h / t ≡ part_of w amount i
  part_is = λ k. a-is k * here k / t-is k

  left_is : a * h % t ≡ left_of w amount i
  left_is = λ k. a-is k * here k % t-is k

  fits : 0 < total w → i < 64 → upto (part_of w amount) i + left ≡ amount → a * h / t ≤ left
  fits pos l is = let p = part_is in let f = part_fits w amount i left pos l is in omega arith

pub overflow_cast-part : goal.overflow_cast-part
overflow_cast-part g c =
    let heft = g.P.Party.heft in
    let row = c.args.parties.now in
    let i = c.loop-i.i in
    let items = c.items-party-items in
    let inv = c.loop-i.invariant in
    let at = by_place_in heft row.items.now items.result.now i c.party-item.result items.ensures.same c.loop-i-test.true c.party-item.is in
    let f = fits _ _ _ c.args.amount c.loop-i.left (weights heft row) i c.from.ensures (c.from-in-loop-i.ensures ∙ c.weight.ensures ∙ sym at) (c.from-divisor.ensures ∙ c.requires.weight.0) (let e = c.requires.weight.0 in let p = c.requires.weight.1 in omega arith) (let few = items.ensures.few in omega arith) inv.1 in
    omega (arith, inv.1, c.ranges.amount.fits)

pub overflow_sub-left : goal.overflow_sub-left
overflow_sub-left g c =
    let heft = g.P.Party.heft in
    let row = c.args.parties.now in
    let i = c.loop-i.i in
    let items = c.items-party-items in
    let inv = c.loop-i.invariant in
    let at = by_place_in heft row.items.now items.result.now i c.party-item.result items.ensures.same c.loop-i-test.true c.party-item.is in
    fits _ _ _ c.args.amount c.loop-i.left (weights heft row) i c.from.ensures (c.from-in-loop-i.ensures ∙ c.weight.ensures ∙ sym at) (c.from-divisor.ensures ∙ c.requires.weight.0) (let e = c.requires.weight.0 in let p = c.requires.weight.1 in omega arith) (let few = items.ensures.few in omega arith) inv.1

pub loop-i-preserved : goal.loop-i-preserved
loop-i-preserved g c =
    let heft = g.P.Party.heft in
    let row = c.args.parties.now in
    let w = weights heft row in
    let l = c.loop-i in
    let i = l.i in
    let items = c.items-party-items in
    let inv = l.invariant in
    let at = by_place_in heft row.items.now items.result.now i c.party-item.result items.ensures.same c.loop-i-test.true c.party-item.is in
    let here = c.from-in-loop-i.ensures ∙ c.weight.ensures ∙ sym at in
    let t-is = c.from-divisor.ensures ∙ c.requires.weight.0 in
    let part = part_is _ _ _ c.args.amount l.left w i c.from.ensures here t-is in
    let over = left_is _ _ _ c.args.amount l.left w i c.from.ensures here t-is in
    let few = items.ensures.few in
    let enough = fits _ _ _ c.args.amount l.left w i c.from.ensures here t-is (let e = c.requires.weight.0 in let p = c.requires.weight.1 in omega arith) (omega arith) inv.1 in
    let in' : i < length l.parts = let n = inv.2 in omega arith in
    let moved = (MatchResult-at_ok _ _ _ c.unwrap.ensures c.enter.ensures.entered).1 in
    let s = length_permutation _ _ moved in
    let more = upto_more (part_of w c.args.amount) i in (
      rounded_more w c.args.amount i (at_place l.parts) _ _ _ _ (get_or-set_same l.parts i _ 0 in' ∙ part) (λ k other. get_or-set_other l.parts i k _ 0 other) over refl moved inv.0,
      omega (arith, inv.1),
      length-set l.parts i _ ∙ inv.2,
      (let n = inv.3 in omega arith),
      c.enter.ensures.room ∙ inv.4,
    )
