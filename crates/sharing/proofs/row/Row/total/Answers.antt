use Rattle.std.proofs.Common.{rules, ◌≡◌, sum_by, ◌∙◌, arith}
use Rattle.std.proofs.iter.runs.Made.{chains}
use Rattle.sharing.proofs.Sums.{sum_placed}
use Rattle.sharing.proofs.row.Row.total.Goals as goal

pub returns : goal.returns
returns g c =
    let items = c.args.self.now.items.now in
    let is : c.sum.result ≡ sum_by g.P.Party.heft items = search (rules, chains) in
    is ∙ sum_placed g.P.Party.heft items 64 (omega arith)
