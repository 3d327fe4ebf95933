use Rattle.std.proofs.Common.{◌≡◌, ◌+◌, ◌<◌, ◌≤◌, length, sym, refl, ◌∙◌, subst, arith}
use Rattle.std.proofs.lemmas.List.Sorted.{length_permutation}
use Rattle.std.proofs.lemmas.Result.{MatchResult-at_ok}
use Rattle.sharing.specs.Entered.{Roomed}
use Rattle.sharing.specs.Places.{at_place}
use Rattle.sharing.specs.Rows.{weights}
use Rattle.sharing.specs.Tenths.{takes}
use Rattle.sharing.specs.Waiting.{waiting, room}
use Rattle.sharing.specs.declared.fraction.Fraction.{Fraction}
use Rattle.sharing.specs.declared.list.WaitingList.{WaitingList}
use Rattle.sharing.proofs.Entering.{takes_room, takes_some, roomed_skip, roomed_more}
use Rattle.sharing.proofs.Sums.{cases, by_place_in}
use Rattle.sharing.proofs.tenths.enter_rooms.Goals as goal
use Rattle.sharing.proofs.tenths.enter_rooms.Goals.{then-weight-gt0+then-room-gt0, else-weight-gt0}

pub loop-i-preserved : goal.loop-i-preserved
loop-i-preserved g c =
    let heft = g.P.Party.heft in
    let row = c.args.parties.now in
    let w = weights heft row in
    let rooms = at_place c.args.rooms.now in
    let i = c.loop-i.i in
    let inv = c.loop-i.invariant in
    let items = c.items-party-items in
    let at = by_place_in heft row.items.now items.result.now i c.party-item.result items.ensures.same c.loop-i-test.true c.party-item.is in
    let Goal : WaitingList Fraction _ → Type 0 = λ l. Roomed w (takes w rooms) (i + 1) (waiting l) × (length (waiting l) ≤ i + 1) × (room l ≡ 64) in
    elim c.if-weight-gt0.branch [
      | then-weight-gt0+then-room-gt0 b ↦
          let moved = (MatchResult-at_ok _ _ _ b.unwrap.ensures b.enter.ensures.entered).1 in
          let s = length_permutation _ _ moved in
          let some : 0 < w i = let h = b.if-weight-gt0.true in let v = c.weight-weight.ensures in omega (arith, at) in
          let all = takes_room w rooms i some in
          subst Goal (sym b.list-is) (
            roomed_more _ _ i _ _ _ (let h = b.if-room-gt0.true in omega arith) refl (c.weight-weight.ensures ∙ sym at) (sym all) refl moved inv.0,
            (let l = inv.1 in omega arith),
            b.enter.ensures.room ∙ inv.2,
          )
      | else-weight-gt0 b ↦
          subst Goal (sym b.list-is) (
            roomed_skip _ _ i _ (λ takes. let both = takes_some w rooms i takes in let heavy = both.0 in let roomy = both.1 in let v = c.weight-weight.ensures in cases b.else-weight-gt0.either (λ h. let z = h.1 in omega arith) (λ h. omega (arith, at))) inv.0,
            (let l = inv.1 in omega arith),
            inv.2,
          )
    ]
