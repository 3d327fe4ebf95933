-- The same accepted calls leave the same figures of every round.
use Rattle.std.proofs.Common.{◌≡◌, ℕ, ◌<◌, ◌≤◌, Bool, true, false, ◌||◌, eqb, List, [], ◌∷◌, Some, None, Option, sym, refl, ap, ◌∙◌, subst, inl, inr, arith}
use mathlib.Core.Path.{fun_ext}
use Rattle.std.proofs.lemmas.Bool.{eqb-true, both_ways, cases_Bool, cases_lt}
use Rattle.sharing.specs.Shares.{share_of}
use Rattle.sharing.proofs.Sums.{cases}
use Rattle.clearing.specs.Calls.{Priced}
use Rattle.clearing.proofs.Only.{all_only}
use Rattle.day.specs.declared.book.Cleared.{Cleared}
use Rattle.day.specs.Calls.{Early, Late, plan, want, clear, read_unit, read_plant}
use Rattle.day.specs.History.{enrolment, was_cleared, latest_want, curve_given}
use Rattle.day.specs.Reading.{call_in, received_in, brought_in, price_in}
use Rattle.day.specs.Rounds.{Stands}
use Rattle.day.specs.Terms.{Enrolment, nobody, capacity_of, curve_from}
use Rattle.day.proofs.Agree.{ClearedAfter, Settled}
use Rattle.day.proofs.Law.{nothing}

-- the figures of two rounds are the same
abbrev pub SameRound : Option Cleared → Option Cleared → Type 0
SameRound o o' = (brought_in o ≡ brought_in o') × (price_in o ≡ price_in o') × ((i : ℕ) → call_in o i ≡ call_in o' i) × ((a : ℕ) → a < 8 → received_in o a ≡ received_in o' a)

-- who offers nothing is not called
uncalled : (weights : ℕ → ℕ) (curves : ℕ → ℕ → ℕ) (brought : ℕ) (price : Option ℕ) (calls : ℕ → ℕ) (i : ℕ) → ((q : ℕ) → curves i q ≡ 0) → Priced weights curves brought price calls → calls i ≡ 0
uncalled weights curves brought None calls i none at = at.1 i
uncalled weights curves brought (Some p) calls i none at = omega (arith, at.2.high i, none p)

-- of the same sellers and wants one clearing stands
one_standing : (weights : ℕ → ℕ) (curves : ℕ → ℕ → ℕ) (wants : ℕ → ℕ) (o o' : Option Cleared) → ((i q : ℕ) → 64 ≤ i → curves i q ≡ 0) →
    Stands weights curves wants (brought_in o) (price_in o) (call_in o) (received_in o) →
    Stands weights curves wants (brought_in o') (price_in o') (call_in o') (received_in o') → SameRound o o'
one_standing weights curves wants o o' none at at' =
    let only = all_only weights curves _ _ _ _ at.clears weights curves _ _ _ (record { weigh = λ i l. refl; offer = λ i q l m. refl }) at'.clears in (
      only.0,
      only.1,
      λ i. cases (cases_lt i 64) (only.2 i)
          (λ past. uncalled weights curves _ _ _ i (λ q. none i q past) at.clears.priced ∙ sym (uncalled weights curves _ _ _ i (λ q. none i q past) at'.clears.priced)),
      λ a l. at.shared a l ∙ ap (λ n. share_of wants n a) only.0 ∙ sym (at'.shared a l),
    )

-- a round that was cleared was cleared after some calls
now_or_then : (k j : ℕ) (ls : List Late) (β x : Bool) → (β ≡ true → j ≡ k) → (x ≡ true → (e : List Late) × ClearedAfter k ls e) → (β || x) ≡ true → (e : List Late) × ClearedAfter k (clear j ∷ ls) e
now_or_then k j ls true x is before h = (ls, inl (is refl, refl))
now_or_then k j ls false x is before h = ((before h).0, inr (before h).1)

when : (k : ℕ) (ls : List Late) → was_cleared ls k ≡ true → (e : List Late) × ClearedAfter k ls e
when k [] h = absurd (both_ways false refl h)
when k (plan j i w ∷ ls) h = when k ls h
when k (want j a w ∷ ls) h = when k ls h
when k (clear j ∷ ls) h = now_or_then k j ls (eqb j k) (was_cleared ls k) (eqb-true j k) (when k ls) h
when k (read_unit i x ∷ ls) h = when k ls h
when k (read_plant i x ∷ ls) h = when k ls h

-- nobody offers nothing
no_curve : (e : Enrolment) (wants : ℕ → ℕ) (base called q : ℕ) → e ≡ nobody → curve_from e wants base called q ≡ 0
no_curve e wants base called q is = ap (λ x. curve_from x wants base called q) is

module _ (es : List Early) (ls : List Late) (past : (i : ℕ) → 64 ≤ i → enrolment es i ≡ nobody)
    (done done' : ℕ → Option Cleared) (was : Settled es ls done) (was' : Settled es ls done') where
  same_curves : (k : ℕ) → ((e : List Late) → curve_given es e (call_in (done 0)) k ≡ curve_given es e (call_in (done' 0)) k) → SameRound (done k) (done' k)
  same_curves k curves = elim (cases_Bool (was_cleared ls k)) [
    | inl was_so ↦
        let at = when k ls was_so in
        one_standing (λ i. capacity_of (enrolment es i)) (curve_given es at.0 (call_in (done' 0)) k) (latest_want at.0 k) (done k) (done' k)
        (λ i q high. no_curve (enrolment es i) _ _ _ q (past i high))
        (subst (λ f. Stands (λ i. capacity_of (enrolment es i)) f (latest_want at.0 k) (brought_in (done k)) (price_in (done k)) (call_in (done k)) (received_in (done k))) (curves at.0) (was.2 k at.0 at.1).1)
        (was'.2 k at.0 at.1).1
    | inr never ↦
        let none = nothing (done k) (was.3 k ∙ never) in
        let none' = nothing (done' k) (was'.3 k ∙ never) in
        (none.0 ∙ sym none'.0, none.1 ∙ sym none'.1, λ i. none.2 i ∙ sym (none'.2 i), λ a _. none.3 a ∙ sym (none'.3 a))
  ]

  -- the day-ahead round first, whose calls the curves of the intraday round hang on
  pub one_round : (k : ℕ) → SameRound (done k) (done' k)
  one_round k = same_curves k (λ e. ap (λ f. curve_given es e f k) (fun_ext (same_curves 0 (λ e. refl)).2))
