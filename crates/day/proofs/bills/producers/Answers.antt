use Rattle.std.proofs.Common.{of_calls, ◌≡◌, rules, ℕ, cond, get_or, None}
use Rattle.sharing.specs.Places.{at_place}
use Rattle.day.specs.Bills.{in_area}
use Rattle.day.specs.declared.parties.Producer.{Producer}
use Rattle.sharing.proofs.Made.{filled}
use Rattle.day.proofs.bills.producers.Goals as goal

pub returns : goal.returns
returns c =
    let made = c.from_fn.ensures.items in
    let P : ℕ → Producer → Type 0 = λ j y. y.net ≡ cond (in_area (get_or c.args.plants.now j None) c.args.area) (at_place c.args.readings.now j) 0 in
    λ j l. filled _ _ P (λ i y q k. search (rules, of_calls)) _ 64 made j _ l
