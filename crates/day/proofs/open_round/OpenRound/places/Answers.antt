use Rattle.std.proofs.Common.{of_calls, ◌≡◌, rules, ℕ, ◌<◌, get_or, None, Option}
use Rattle.sellers.specs.declared.bidder.Bidder.{Bidder}
use Rattle.sellers.specs.declared.rest.Rest.{Rest}
use Rattle.sharing.proofs.Made.{filled}
use Rattle.day.specs.Kinds.{number_of}
use Rattle.day.specs.Reading.{enrolled, curve_in}
use Rattle.day.specs.Slots.{weight_of, curve_of}
use Rattle.day.specs.Terms.{capacity_of}
use Rattle.day.proofs.open_round.OpenRound.places.Goals as goal

pub returns : goal.returns
returns c =
    let made = c.from_fn.ensures.items in
    let Curved : ℕ → Option (Rest Bidder) → Type 0 = λ i x. (q : ℕ) → curve_of x q ≡ curve_in (enrolled (get_or c.args.self.now.sellers.now i None)) c.args.self.now.period.now (number_of c.args.self.now.kind) i q in
    let Weighed : ℕ → Option (Rest Bidder) → Type 0 = λ i x. (q : ℕ) → 0 < curve_of x q → weight_of x ≡ capacity_of (enrolled (get_or c.args.self.now.sellers.now i None)) in
    record {
      curves = λ i q l. filled _ _ Curved (λ i y q k. ((λ t. search (rules, of_calls, k.met.0)), search (rules, of_calls, k.met.0))) _ 64 made i None l q;
      weights = λ i q l. filled _ _ Weighed (λ i y q k. search (rules, of_calls, k.met)) _ 64 made i None l q;
    }
