use Rattle.std.proofs.Common.{◌≡◌, ◌+◌, ◌-◌, ◌<◌, ◌≤◌, ◌⊎◌, [], length, get_or, set, drop, Some, None, sym, refl, ap, ◌∙◌, inl, inr, arith}
use Rattle.std.proofs.lemmas.List.MinMax.{IsStrictWeakOrder-flip}
use Rattle.std.proofs.lemmas.List.{get_or_default, length-append}
use Rattle.sharing.proofs.Fronts as fronts
use Rattle.sharing.proofs.Sums.{cases}
use Rattle.sharing.proofs.list.WaitingList.serve.Goals as goal
use Rattle.sharing.proofs.list.WaitingList.serve.Goals.{in-Some, in-None}

pub invariant_of-self-3 : goal.invariant_of-self-3
invariant_of-self-3 g c =
    let xs = c.args.self.now.claims.now in
    let n = c.args.self.now.len in
    let x = get_or xs 0 c.index-self-0.result in
    let head = c.match-renewed.head.0 in
    let left = c.match-renewed.head.1 in
    let few : left ≤ n = elim c.match-renewed.branch [
      | in-Some w ↦ omega (arith, ap (λ t. t.1) w.head-is)
      | in-None w ↦ omega (arith, ap (λ t. t.1) w.head-is)
    ] in
    let at : x ≡ get_or xs 0 x = get_or_default xs 0 _ _ (omega arith) in
    let ys = c.sink.new.s in
    let moved = c.sink.ensures.shuffled in
    let ahead = g.C.Claim.ahead in
    record {
      fits = omega (arith, length-append ys (drop left (set xs 0 head)), fronts.long_left ahead xs ys [] n left _ x head (omega arith) (omega arith) few refl at moved);
      queued = fronts.closed ahead xs ys _ n left _ x head (omega arith) (omega arith) few refl at moved (c.sink.ensures.heap (fronts.holed ahead xs ys [] n left _ x head (omega arith) (omega arith) few refl at moved c.args.self.now.queued));
    }

pub returns-clause-items : goal.returns-clause-items
returns-clause-items g c =
    let xs = c.args.self.now.claims.now in
    let n = c.args.self.now.len in
    let ahead = g.C.Claim.ahead in
    let next = g.C.Claim.next in
    let x = get_or xs 0 c.index-self-0.result in
    let head = c.match-renewed.head.0 in
    let left = c.match-renewed.head.1 in
    let way : ((left ≡ n) × (next x ≡ Some head)) ⊎ ((n ≡ left + 1) × (head ≡ get_or xs left head) × (next x ≡ None)) =
    elim c.match-renewed.branch [
      | in-Some w ↦ inl (ap (λ t. t.1) w.head-is, sym w.in-Some.ensures ∙ ap (λ t. Some t.0) (sym w.head-is))
      | in-None w ↦
          let is-left : left ≡ n - 1 = ap (λ t. t.1) w.head-is in
          let is-head : head ≡ get_or xs (n - 1) w.index-self-n.result = ap (λ t. t.0) w.head-is in
          inr (omega arith, is-head ∙ get_or_default xs (n - 1) _ _ (omega arith) ∙ ap (λ k. get_or xs k head) (sym is-left), sym w.in-None.ensures)
    ] in
    let few : left ≤ n = cases way (λ w. let e = w.0 in omega arith) (λ w. let e = w.0 in omega arith) in
    let some : 0 < n = omega arith in
    let fits : n ≤ length xs = omega arith in
    let at : x ≡ get_or xs 0 x = get_or_default xs 0 _ _ (omega arith) in
    let ys = c.sink.new.s in
    let moved = c.sink.ensures.shuffled in (
      fronts.foremost ahead xs ys [] n left _ x head fits some few refl at moved (IsStrictWeakOrder-flip ahead g.met.C.Claim.ranks) c.args.self.now.queued,
      cases way
          (λ w. fronts.follows ahead xs ys _ n left _ x head fits some few refl at moved next w.0 w.1)
          (λ w. fronts.leaves ahead xs ys _ n left _ x head fits some few refl at moved next w.0 w.1 w.2),
    )
