use Rattle.std.proofs.Common.{◌<◌, length, refl, arith}
use Rattle.std.proofs.lemmas.List.{length-take}
use Rattle.sharing.proofs.Fronts as fronts
use Rattle.sharing.proofs.list.WaitingList.enter.Goals as goal

pub returns-clause-entered : goal.returns-clause-entered
returns-clause-entered g c =
    let xs = c.args.self.now.claims.now in
    let n = c.args.self.now.len in
    let u = length-take n xs in
    let in' : n < length xs = omega arith in
    (omega arith, fronts.entered g.C.Claim.ahead xs c.rise.new.s _ n _ c.args.claim in' refl c.rise.ensures.shuffled)
