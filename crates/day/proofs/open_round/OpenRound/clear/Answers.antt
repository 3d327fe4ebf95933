use Rattle.std.proofs.Common.{◌≡◌, ℕ, ◌<◌, length, get_or, None, sym, ap, ◌∙◌, subst, arith}
use Rattle.std.proofs.lemmas.List.{get_or-map, get_or_past}
use Rattle.std.proofs.lemmas.Bool.{cases_lt}
use Rattle.sharing.specs.Shares.{share_of}
use Rattle.sharing.specs.Places.{total, at_place, by_place}
use Rattle.sharing.proofs.Sums.{cases}
use Rattle.clearing.specs.Calls.{Clears, Short}
use Rattle.clearing.specs.Costs.{Cheapest, Settled}
use Rattle.clearing.specs.Prices.{curves_at}
use Rattle.clearing.proofs.Reweighed.{reweighed}
use Rattle.clearing.proofs.Standing.{curve_past}
use Rattle.day.specs.declared.book.Round.{Round}
use Rattle.day.specs.Kinds.{number_of}
use Rattle.day.specs.Reading.{enrolled, curve_in, want_at}
use Rattle.day.specs.Slots.{weight_of, curve_of}
use Rattle.day.specs.Terms.{Enrolment, capacity_of}
use Rattle.day.proofs.open_round.OpenRound.clear.Goals as goal

pub returns : goal.returns
returns c =
    let slots = c.places-slots.result in
    let long : length slots ≡ 64 = omega arith in
    let items = c.from.result.items.now in
    let same : items ≡ slots = c.from.ensures in
    let sellers = c.args.self.now.sellers.now in
    let who : ℕ → Enrolment = λ i. enrolled (get_or sellers i None) in
    let gs : ℕ → ℕ → ℕ = λ i q. curve_in (who i) c.args.self.now.period.now (number_of c.args.self.now.kind) i q in
    let many : length sellers ≡ 64 = c.args.self.now.all in
    let at : (i : ℕ) → i < 64 → curves_at curve_of items i ≡ curve_of (get_or slots i None) =
    λ i l. ap (λ xs. curves_at curve_of xs i) same ∙ get_or-map curve_of slots i None (λ _. 0) (omega arith) in
    let is : (i q : ℕ) → curves_at curve_of items i q ≡ gs i q =
    λ i q. cases (cases_lt i 64)
    (λ l. ap (λ f. f q) (at i l) ∙ c.places-slots.ensures.curves i q l)
    (λ past. ap (λ f. f q) (ap (λ xs. curves_at curve_of xs i) same ∙ curve_past curve_of slots i (omega arith))
    ∙ sym (ap (λ o. curve_in (enrolled o) c.args.self.now.period.now (number_of c.args.self.now.kind) i q) (get_or_past sellers i None (omega arith)))) in
    let all : curves_at curve_of items ≡ gs = λ t i q. is i q t in
    let heft : ℕ → ℕ = by_place weight_of items in
    let weigh : (i q : ℕ) → 0 < gs i q → heft i ≡ capacity_of (who i) =
    λ i q some. cases (cases_lt i 64)
    (λ l. ap (λ xs. by_place weight_of xs i) same ∙ get_or-map weight_of slots i None 0 (omega arith)
    ∙ c.places-slots.ensures.weights i q l (let e = c.places-slots.ensures.curves i q l in omega arith))
    (λ past. absurd (let e = ap (λ o. curve_in (enrolled o) c.args.self.now.period.now (number_of c.args.self.now.kind) i q) (get_or_past sellers i None (omega arith)) in omega arith)) in
    let wanted : c.wanted.result ≡ total (want_at c.args.self.now.period.now (number_of c.args.self.now.kind)) = c.wanted.ensures ∙ ap (λ (r : Round). total (at_place r.wants)) c.round.ensures in
    let e = c.clear-cleared.ensures in
    let clears : Clears heft gs (total (want_at c.args.self.now.period.now (number_of c.args.self.now.kind))) _ _ _ =
    subst (λ n. Clears heft gs n c.clear-cleared.result.brought c.clear-cleared.result.price (at_place c.clear-cleared.result.calls)) wanted
    (subst (λ f. Clears heft f c.wanted.result c.clear-cleared.result.brought c.clear-cleared.result.price (at_place c.clear-cleared.result.calls)) all e.clears) in
    record {
      clears = reweighed heft (λ i. capacity_of (who i)) gs weigh _ _ _ _ clears;
      shared = λ a l. c.receive-received.ensures a l ∙ ap (λ (r : Round). share_of (at_place r.wants) c.clear-cleared.result.brought a) c.round.ensures;
      short = subst (λ n. Short gs n c.clear-cleared.result.brought) wanted (subst (λ f. Short f c.wanted.result c.clear-cleared.result.brought) all e.short);
      cheapest = subst (λ f. Cheapest f (at_place c.clear-cleared.result.calls)) all e.cheapest;
      settled = subst (λ f. Settled f c.clear-cleared.result.price (at_place c.clear-cleared.result.calls)) all e.settled;
    }
