use Rattle.std.proofs.Common.{of_calls, ◌≡◌, rules, ℕ, cond, get_or, None}
use Rattle.sharing.proofs.Made.{filled}
use Rattle.day.specs.Bills.{in_area, payee_area, reading_in}
use Rattle.day.specs.Reading.{enrolled}
use Rattle.day.specs.declared.parties.Payee.{Payee}
use Rattle.day.proofs.bills.payees.Goals as goal

pub returns : goal.returns
returns c =
    let made = c.from_fn.ensures.items in
    let P : ℕ → Payee → Type 0 = λ i y. y.reading ≡ cond (in_area (payee_area (enrolled (get_or c.args.sellers.now i None))) c.args.area) (reading_in c.args.period.now i) 0 in
    λ i l. filled _ _ P (λ i y q k. search (rules, of_calls)) _ 64 made i _ l
