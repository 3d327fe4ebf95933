-- The law over all runs, from the agreement of every run's book with its calls.
use Rattle.std.proofs.Common.{◌≡◌, ℕ, ◌≤◌, true, false, cond, eqb, List, [], ◌∷◌, ◌++◌, is_some, Some, None, Option, sym, refl, ap, ◌∙◌, subst, inl, inr, arith}
use Rattle.std.proofs.lemmas.List.{get_or_past}
use Rattle.std.proofs.lemmas.Bool.{eq-eqb, both_ways, cond_both, cases_lt}
use Rattle.money.specs.declared.share.Share.{Share}
use Rattle.day.specs.declared.book.Book.{Book}
use Rattle.day.specs.declared.book.Cleared.{Cleared}
use Rattle.day.specs.Balance.{Balanced, Even}
use Rattle.day.specs.Calls.{Answer, Early, Late, plan, want, clear, read_unit, read_plant}
use Rattle.day.specs.History.{accepted, on}
use Rattle.day.specs.Law.{Rounds, Latest, EveryDay}
use Rattle.day.specs.Reading.{no_period, period_at, cleared_at, call_in, received_in, brought_in, price_in}
use Rattle.day.specs.Runs.{Running}
use Rattle.day.proofs.Agree.{ClearedAfter, Matched, none_matched}
use Rattle.day.proofs.Days.{late}
use Rattle.day.proofs.Soundness.{AtMost, sound, units_low}

-- the clearing in the list is one in the list of its period

skip : (k : ℕ) (c : Late) (ls e : List Late) → ClearedAfter k ls e → ClearedAfter k (c ∷ ls) e
skip k (plan j i w) ls e h = h
skip k (want j a w) ls e h = h
skip k (clear j) ls e h = inr h
skip k (read_unit i x) ls e h = h
skip k (read_plant i x) ls e h = h

found : (p k : ℕ) (after before : List (ℕ × Late)) → ClearedAfter k (on p (after ++ ((p, clear k) ∷ before))) (on p before)
found p k [] before = subst (λ β. ClearedAfter k (cond β (clear k ∷ on p before) (on p before)) (on p before)) (sym (eq-eqb p p refl)) (inl (refl, refl))
found p k (c ∷ after) before =
    cond_both (eqb c.0 p) _ _ (λ l. ClearedAfter k l (on p before)) (λ _. skip k c.1 _ _ (found p k after before)) (λ _. found p k after before)

no_more : (k : ℕ) (ls e : List Late) → ls ≡ [] → ClearedAfter k ls e → ⊥
no_more k ls e n h = subst (λ l. ClearedAfter k l e) n h

pub nothing : (o : Option Cleared) → is_some o ≡ false → (brought_in o ≡ 0) × (price_in o ≡ None) × ((i : ℕ) → call_in o i ≡ 0) × ((a : ℕ) → received_in o a ≡ 0)
nothing None h = (refl, refl, λ i. refl, λ a. refl)
nothing (Some c) h = absurd (both_ways true h refl)

module _ (s : Share) (es : List (Early × Answer)) (ls : List ((ℕ × Late) × Answer)) (b : Book) (run : Running s es ls b) where
  rounds : Rounds es ls b
  rounds =
      let was = late s run in (
        λ p k after before is.
            let there : ClearedAfter k (on p (accepted ls)) (on p before) = subst (λ l. ClearedAfter k (on p l) (on p before)) (sym is) (found p k after before) in
            elim (cases_lt p 96) [
              | inl low ↦ ((was.each p low).rounds.2 k (on p before) there).1
              | inr high ↦ absurd (no_more k _ _ (was.beyond p high) there)
            ],
        λ p k no. nothing (cleared_at (period_at b p) k) (elim (cases_lt p 96) [
          | inl low ↦ (was.each p low).rounds.3 k ∙ no
          | inr high ↦ ap (λ q. is_some (cleared_at q k)) (get_or_past b.periods p no_period (omega (arith, was.long)))
        ]),
      )

  latest : Latest s es ls b
  latest =
      let was = late s run in (was.share, was.sellers, was.plants, λ p k a low. (was.each p low).wants k a, λ p k i low. (was.each p low).plans k i, λ p i low. (was.each p low).units i, λ p j low. (was.each p low).plants j)

  matched : (p k : ℕ) → Matched (cleared_at (period_at b p) k)
  matched p k =
      let was = late s run in
      elim (cases_lt p 96) [
        | inl low ↦ (was.each p low).rounds.1 k
        | inr high ↦ subst (λ q. Matched (cleared_at q k)) (sym (get_or_past b.periods p no_period (omega (arith, was.long)))) none_matched
      ]

  pub even : Even b
  even =
      record {
        received = matched;
        units = λ i a is. let l : a ≤ 7 = subst (AtMost 7) is (units_low b (sound s run) i) in omega arith;
        plants = λ j a is. let l : a ≤ 7 = subst (AtMost 7) is ((sound s run).1 j) in omega arith;
      }

  pub every_day_but : Rounds es ls b × Latest s es ls b
  every_day_but = (rounds, latest)

-- the whole law, where even rounds balance
pub every_day : ((b : Book) → Even b → Balanced b) → EveryDay
every_day balances s es ls b run = let both = every_day_but s es ls b run in (both.0, both.1, balances b (even s es ls b run))
