use Rattle.std.proofs.Common.{◌≡◌, get_or, sym, subst, unwrap_or, arith, ap, ◌∙◌}
use Rattle.day.specs.Alike.{ReadAlike}
use Rattle.day.specs.Reading.{period_at, blank}
use Rattle.day.proofs.Blank.{read_past, unwraps}
use Rattle.day.proofs.closed.ClosedDay.period.Goals as goal

pub returns : goal.returns
returns c =
    let b = c.args.self.now.book in
    let p = c.args.period in
    let found : unwrap_or c.copied.result blank ≡ get_or b.periods p blank = ap (λ o. unwrap_or o blank) c.copied.ensures ∙ c.get.ensures.lookup.4 (omega arith) blank ∙ ap (λ n. get_or b.periods n blank) c.from.ensures in
    let same : c.unwrap_or_else.result ≡ get_or b.periods p blank = unwraps c.copied.result _ blank c.unwrap_or_else.ensures ∙ found in
    subst (λ q. ReadAlike q (period_at b p)) (sym same) (read_past b.periods p)
