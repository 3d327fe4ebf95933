-- The sellers and the cleared rounds stay as they are, whatever calls come after.
use Rattle.std.proofs.Common.{◌≡◌, ℕ, true, false, get_or, is_some, Some, None, Option, sym, refl, ap, ◌∙◌, subst, subst₂, inl, inr}
use Rattle.std.proofs.lemmas.List.{get_or-set_other}
use Rattle.std.proofs.lemmas.Bool.{both_ways, cases_eq}
use Rattle.day.specs.declared.book.Book.{Book}
use Rattle.day.specs.declared.book.Period.{Period}
use Rattle.day.specs.declared.book.Round.{Round}
use Rattle.day.specs.declared.faults.Fault.{Fault}
use Rattle.day.specs.Calls.{Answer, Answered, first_hit, Clearing, Late, plan, want, clear, read_unit, read_plant, Does, plan_checks, want_checks, clear_checks, read_unit_checks, read_plant_checks}
use Rattle.day.specs.Law.{Kept}
use Rattle.day.specs.Reading.{no_round, no_period, enrolled, period_at, round_at, cleared_at, with_round, with_period}
use Rattle.day.specs.Runs.{Later, as_it_is, after_late}
use Rattle.day.proofs.Agree.{passed}
use Rattle.day.proofs.Writes.{part_kept}

-- the sellers are the same, and so is each round that was cleared, whole
abbrev Stays : Book → Book → Type 0
Stays b n = (n.sellers ≡ b.sellers) × ((p k : ℕ) → is_some (cleared_at (period_at b p) k) ≡ true → round_at (period_at n p) k ≡ round_at (period_at b p) k)

-- refused, or done
stays : (o : Option Fault) (b : Book) (New : Book → Type 0) (r : Answer) (n : Book) → (o ≡ None → New n → Stays b n) → Answered o b New r n → Stays b n
stays None b New r n does h = does refl h.1
stays (Some e) b New r n does h = (ap (λ x. x.sellers) h.1, λ p k done. ap (λ x. round_at (period_at x p) k) h.1)

-- another period with the same rounds
same_rounds : (b : Book) (p : ℕ) (q : Period) → q.rounds ≡ (period_at b p).rounds → Stays b (with_period b p q)
same_rounds b p q same = (refl, λ j k done. part_kept (λ x. round_at x k) b.periods p q no_period (ap (λ x. get_or x k no_round) same) j)

-- a round that was not cleared is another one
fresh_round : (b : Book) (p k : ℕ) (r : Round) → is_some (cleared_at (period_at b p) k) ≡ false → Stays b (with_period b p (with_round (period_at b p) k r))
fresh_round b p k r free = (
  refl,
  λ j m done. elim (cases_eq k m) [
    | inl e ↦ ap (λ x. round_at x m) (get_or-set_other b.periods p j _ no_period (λ h. both_ways (is_some (cleared_at (period_at b j) m)) (subst₂ (λ x y. is_some (cleared_at (period_at b x) y) ≡ false) (sym h) e free) done))
    | inr ne ↦ part_kept (λ x. round_at x m) b.periods p _ no_period (get_or-set_other (period_at b p).rounds k m r no_round (λ h. ne (sym h))) j
  ],
)

each_stays : (p : ℕ) (c : Late) (b : Book) (r : Answer) (n : Book) → Does p c b r n → Stays b n
each_stays p (plan k i w) b r n = stays (first_hit (plan_checks b p k i w)) b _ r n (λ free e. subst (Stays b) (sym e) (fresh_round b p k _ (passed (plan_checks b p k i w) free).1.1.1.1.1.0))
each_stays p (want k a w) b r n = stays (first_hit (want_checks b p k a w)) b _ r n (λ free e. subst (Stays b) (sym e) (fresh_round b p k _ (passed (want_checks b p k a w) free).1.1.1.1.0))
each_stays p (clear k) b r n = stays (first_hit (clear_checks b p k)) b (Clearing b p k) r n (λ free e. subst (Stays b) (sym e.2) (fresh_round b p k _ (passed (clear_checks b p k) free).1.1.0))
each_stays p (read_unit i x) b r n = stays (first_hit (read_unit_checks b p i x)) b _ r n (λ _ e. subst (Stays b) (sym e) (same_rounds b p _ refl))
each_stays p (read_plant j x) b r n = stays (first_hit (read_plant_checks b p j x)) b _ r n (λ _ e. subst (Stays b) (sym e) (same_rounds b p _ refl))

later_stays : (b m : Book) → Later b m → Stays b m
later_stays b m as_it_is = (refl, λ p k done. refl)
later_stays b m (after_late {n = n} q c r before h) =
    let first = later_stays b n before in
    let then = each_stays q c n r m h in
    (then.0 ∙ first.0, λ p k done. let same = first.1 p k done in then.1 p k (ap (λ x. is_some x.cleared) same ∙ done) ∙ same)

pub kept : Kept
kept b m later =
    let all = later_stays b m later in (
      λ i. ap (λ x. enrolled (get_or x i None)) all.0,
      λ p k done. let same = all.1 p k done in record {
        cleared = ap (λ x. x.cleared) same;
        wants = λ a. ap (λ x. get_or x.wants a 0) same;
        plans = λ i. ap (λ x. get_or x.plans i None) same;
      },
    )
