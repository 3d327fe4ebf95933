-- The book of a day agrees with what its calls give, whatever call comes next.
use Rattle.std.proofs.Common.{◌≡◌, ℕ, zero, suc, ◌<◌, ◌≤◌, Bool, true, false, cond, not, ◌&&◌, ◌||◌, eqb, ◌⊎◌, List, [], ◌∷◌, length, get_or, is_some, Some, None, Option, sym, refl, ap, ◌∙◌, subst, subst₂, inl, inr, arith, length-set}
use mathlib.Core.Path.{fun_ext}
use Rattle.std.proofs.lemmas.List.{get_or-replicate, get_or_past}
use Rattle.std.proofs.lemmas.Bool.{eqb-true, both_ways, cond_both, not-false, cases_Bool, cases_lt, cases_eq}
use Rattle.sharing.specs.Places.{upto, total}
use Rattle.sharing.specs.Shares.{share_of}
use Rattle.sharing.proofs.ByRank.{share_weightless, shares_add, none_for_none'}
use Rattle.sharing.proofs.Sums.{cases, upto_same, upto_zero}
use Rattle.clearing.specs.Calls.{Priced}
use Rattle.day.specs.declared.book.Book.{Book}
use Rattle.day.specs.declared.book.Cleared.{Cleared}
use Rattle.day.specs.declared.book.Period.{Period}
use Rattle.day.specs.declared.book.Round.{Round}
use Rattle.day.specs.declared.faults.Fault.{Fault}
use Rattle.day.specs.Calls.{Passed, Answer, Answered, Checked, first_hit, Early, Late, plan, want, clear, read_unit, read_plant}
use Rattle.day.specs.History.{accepted, enrolment, latest_want, latest_plan, latest_unit_read, latest_plant_read, was_cleared, curve_given}
use Rattle.day.specs.Reading.{no_round, blank_round, blank, round_at, want_at, plan_at, unit_read, plant_read, cleared_at, call_in, received_in, brought_in, price_in, with_round, with_unit_read, with_plant_read, with_want, with_plan, with_cleared}
use Rattle.day.specs.Rounds.{Stands}
use Rattle.day.specs.Terms.{capacity_of}
use Rattle.day.proofs.Writes.{write, part_kept, part_write, write2, each_same}

-- a call that is not refused passed each of its checks
passed_one : (β : Bool) (e : Fault) (cs : List (Bool × Fault)) → (first_hit cs ≡ None → Passed cs) → cond β (Some e) (first_hit cs) ≡ None → (β ≡ false) × Passed cs
passed_one true e cs more h = let z : ◌≡◌ {A = ℕ} 0 1 = cc in absurd (omega arith)
passed_one false e cs more h = (refl, more h)

pub passed : (cs : List (Bool × Fault)) → first_hit cs ≡ None → Passed cs
passed [] h = tt
passed (c ∷ cs) h = passed_one c.0 c.1 cs (passed cs) h

-- what holds of the calls accepted and the book they leave
module _ {C : Type 0} (P : List C → Book → Type 0) (cs : List (C × Answer)) (c : C) where
  pub step : (o : Option Fault) (old : Book) (New : Book → Type 0) (r : Answer) (b : Book) → P (accepted cs) old → (o ≡ None → (n : Book) → New n → P (c ∷ accepted cs) n) → Answered o old New r b → P (accepted ((c, r) ∷ cs)) b
  step None old New r b was does h = subst (λ a. P (accepted ((c, a) ∷ cs)) b) (sym h.0) (does refl b h.1)
  step (Some e) old New r b was does h = subst₂ (λ a x. P (accepted ((c, a) ∷ cs)) x) (sym h.0) (sym h.1) was

  pub step_checked : (o : Option Fault) (old : Book) (More : Answer → Book → Type 0) (r : Answer) (b : Book) → P (accepted cs) old → (o ≡ None → More r b → P (accepted ((c, r) ∷ cs)) b) → Checked o old More r b → P (accepted ((c, r) ∷ cs)) b
  step_checked None old More r b was does h = does refl h
  step_checked (Some e) old More r b was does h = subst₂ (λ a x. P (accepted ((c, a) ∷ cs)) x) (sym h.0) (sym h.1) was

-- the calls, latest first, hold a clearing of the round k right after those of e
abbrev pub ClearedAfter : ℕ → List Late → List Late → Type 0
ClearedAfter k [] e = ⊥
ClearedAfter k (plan j i w ∷ ls) e = ClearedAfter k ls e
ClearedAfter k (want j a w ∷ ls) e = ClearedAfter k ls e
ClearedAfter k (clear j ∷ ls) e = ((j ≡ k) × (ls ≡ e)) ⊎ ClearedAfter k ls e
ClearedAfter k (read_unit i x ∷ ls) e = ClearedAfter k ls e
ClearedAfter k (read_plant i x ∷ ls) e = ClearedAfter k ls e

-- one cleared round, with what was accepted before
abbrev pub Standing : List Early → (ℕ → Option Cleared) → ℕ → List Late → Type 0
Standing es done k e =
    (is_some (done k) ≡ true) × Stands (λ i. capacity_of (enrolment es i)) (curve_given es e (call_in (done 0)) k) (latest_want e k)
    (brought_in (done k)) (price_in (done k)) (call_in (done k)) (received_in (done k))

-- the areas receive what is called
abbrev pub Matched : Option Cleared → Type 0
Matched o = total (call_in o) ≡ upto (received_in o) 8

pub none_matched : Matched None
none_matched = upto_zero _ 64 (λ i l. refl) ∙ sym (upto_zero _ 8 (λ a l. refl))

-- the rounds of a period: none before round 0, each matched, each standing on what was accepted before it
abbrev pub Settled : List Early → List Late → (ℕ → Option Cleared) → Type 0
Settled es ls done =
    (is_some (done 0) ≡ false → (k : ℕ) → is_some (done k) ≡ false) × ((k : ℕ) → Matched (done k))
    × ((k : ℕ) (e : List Late) → ClearedAfter k ls e → Standing es done k e) × ((k : ℕ) → is_some (done k) ≡ was_cleared ls k)

pub record Agrees (es : List Early) (ls : List Late) (q : Period) : Type 0 where
  pub two : length q.rounds ≡ 2
  pub wide : (k : ℕ) → k < 2 → length (round_at q k).wants ≡ 8
  pub many : (k : ℕ) → k < 2 → length (round_at q k).plans ≡ 64
  pub wants : (k a : ℕ) → want_at q k a ≡ latest_want ls k a
  pub plans : (k i : ℕ) → plan_at q k i ≡ latest_plan ls k i
  pub tall : length q.units ≡ 64
  pub units : (i : ℕ) → unit_read q i ≡ latest_unit_read ls i
  pub high : length q.plants ≡ 64
  pub plants : (j : ℕ) → plant_read q j ≡ latest_plant_read ls j
  pub rounds : Settled es ls (cleared_at q)

-- a period as the day begins
pub blank_agrees : (es : List Early) → Agrees es [] blank
blank_agrees es =
    let none : cleared_at blank ≡ (λ _. None) = fun_ext (each_same (λ r. r.cleared ≡ None) 2 blank_round no_round refl refl) in
    record {
      two = refl;
      wide = λ k h. ap (λ r. length r.wants) (get_or-replicate 2 k blank_round no_round h);
      many = λ k h. ap (λ r. length r.plans) (get_or-replicate 2 k blank_round no_round h);
      wants = λ k a. each_same (λ r. get_or r.wants a 0 ≡ 0) 2 blank_round no_round (each_same (λ n. n ≡ 0) 8 0 0 refl refl a) refl k;
      plans = λ k i. each_same (λ r. get_or r.plans i None ≡ None) 2 blank_round no_round (each_same (λ n. n ≡ None) 64 None None refl refl i) refl k;
      tall = refl;
      units = each_same (λ n. n ≡ None) 64 None None refl refl;
      high = refl;
      plants = each_same (λ n. n ≡ 0) 64 0 0 refl refl;
      rounds = subst (Settled es []) (sym none) (λ _ k. refl, λ k. none_matched, λ k e h. absurd h, λ k. refl);
    }

module _ (es : List Early) (ls : List Late) (q : Period) (k : ℕ) (low : k < 2) (was : Agrees es ls q) where
  pub after_want : (a w : ℕ) → a < 8 → Agrees es (want k a w ∷ ls) (with_round q k (with_want (round_at q k) a w))
  after_want a w small =
      let r : Round = with_want (round_at q k) a w in
      record {
        two = length-set q.rounds k r ∙ was.two;
        wide = λ j h. part_kept (λ x. length x.wants) q.rounds k r no_round (length-set (round_at q k).wants a w) j ∙ was.wide j h;
        many = λ j h. part_kept (λ x. length x.plans) q.rounds k r no_round refl j ∙ was.many j h;
        wants = λ j n. write2 (λ x. x.wants) q.rounds k r no_round a w 0 (omega (arith, was.two)) (omega (arith, was.wide k low)) refl j n ∙ ap (cond (eqb k j && eqb a n) w) (was.wants j n);
        plans = λ j i. part_kept (λ x. get_or x.plans i None) q.rounds k r no_round refl j ∙ was.plans j i;
        tall = was.tall;
        units = was.units;
        high = was.high;
        plants = was.plants;
        rounds = subst (Settled es ls) (sym (fun_ext (part_kept (λ x. x.cleared) q.rounds k r no_round refl))) was.rounds;
      }

  pub after_plan : (i w : ℕ) → i < 64 → Agrees es (plan k i w ∷ ls) (with_round q k (with_plan (round_at q k) i w))
  after_plan i w small =
      let r : Round = with_plan (round_at q k) i w in
      record {
        two = length-set q.rounds k r ∙ was.two;
        wide = λ j h. part_kept (λ x. length x.wants) q.rounds k r no_round refl j ∙ was.wide j h;
        many = λ j h. part_kept (λ x. length x.plans) q.rounds k r no_round (length-set (round_at q k).plans i (Some w)) j ∙ was.many j h;
        wants = λ j a. part_kept (λ x. get_or x.wants a 0) q.rounds k r no_round refl j ∙ was.wants j a;
        plans = λ j n. write2 (λ x. x.plans) q.rounds k r no_round i (Some w) None (omega (arith, was.two)) (omega (arith, was.many k low)) refl j n ∙ ap (cond (eqb k j && eqb i n) (Some w)) (was.plans j n);
        tall = was.tall;
        units = was.units;
        high = was.high;
        plants = was.plants;
        rounds = subst (Settled es ls) (sym (fun_ext (part_kept (λ x. x.cleared) q.rounds k r no_round refl))) was.rounds;
      }

module _ (es : List Early) (ls : List Late) (q : Period) (was : Agrees es ls q) (i x : ℕ) (low : i < 64) where
  pub after_read_unit : Agrees es (read_unit i x ∷ ls) (with_unit_read q i x)
  after_read_unit =
      record {
        two = was.two;
        wide = was.wide;
        many = was.many;
        wants = was.wants;
        plans = was.plans;
        tall = length-set q.units i (Some x) ∙ was.tall;
        units = λ j. write q.units i (Some x) None (omega (arith, was.tall)) j ∙ ap (cond (eqb i j) (Some x)) (was.units j);
        high = was.high;
        plants = was.plants;
        rounds = was.rounds;
      }

  pub after_read_plant : Agrees es (read_plant i x ∷ ls) (with_plant_read q i x)
  after_read_plant =
      record {
        two = was.two;
        wide = was.wide;
        many = was.many;
        wants = was.wants;
        plans = was.plans;
        tall = was.tall;
        units = was.units;
        high = length-set q.plants i x ∙ was.high;
        plants = λ j. write q.plants i x 0 (omega (arith, was.high)) j ∙ ap (cond (eqb i j) x) (was.plants j);
        rounds = was.rounds;
      }

-- past the last place that counts nothing is added
-- as upto_past of the sums, which asks of every place past m: the shares are known for the 64 places alone
upto_between : (f : ℕ → ℕ) (m n : ℕ) → m ≤ n → ((i : ℕ) → m ≤ i → i < n → f i ≡ 0) → upto f n ≡ upto f m
unfolding upto
upto_between f m zero l h = let e : m ≡ 0 = omega arith in ap (upto f) (sym e)
upto_between f m (suc n) l h = cases (cases_eq m (suc n))
    (λ e. ap (upto f) (sym e))
    (λ e. omega (arith, upto_between f m n (omega arith) (λ i a b. h i a (omega arith)), h n (omega arith) (omega arith)))

calls_add : (weights : ℕ → ℕ) (curves : ℕ → ℕ → ℕ) (brought : ℕ) (price : Option ℕ) (calls : ℕ → ℕ) → Priced weights curves brought price calls → total calls ≡ brought
calls_add weights curves brought None calls h = upto_zero calls 64 (λ i l. h.1 i) ∙ sym h.0
calls_add weights curves brought (Some p) calls h = h.2.adds

-- the areas share all that is brought
module _ (weights : ℕ → ℕ) (curves : ℕ → ℕ → ℕ) (wants : ℕ → ℕ) (brought : ℕ) (price : Option ℕ) (calls received : ℕ → ℕ) (few : (a : ℕ) → 8 ≤ a → wants a ≡ 0) (ok : Stands weights curves wants brought price calls received) where
  all_shared : upto (share_of wants brought) 8 ≡ brought
  all_shared = cases (cases_lt 0 (total wants))
      (λ some. sym (upto_between (share_of wants brought) 8 64 (omega arith) (λ a l h. none_for_none' wants brought some a h (few a l))) ∙ shares_add wants brought some)
      (λ none. let z : total wants ≡ 0 = omega arith in omega (arith, ok.clears.brings, upto_zero (share_of wants brought) 8 (λ a l. share_weightless wants brought z a)))

  stands_matched : total calls ≡ upto received 8
  stands_matched = calls_add weights curves brought price calls ok.clears.priced ∙ sym (upto_same received (share_of wants brought) 8 ok.shared ∙ all_shared)

now_heard : (β : Bool) (c : Cleared) (o : Option Cleared) (x : Bool) → is_some o ≡ x → is_some (cond β (Some c) o) ≡ (β || x)
now_heard true c o x h = refl
now_heard false c o x h = h

-- what was cleared is what the calls give, of the sellers and wants that they give
abbrev pub Cleanly : List Early → List Late → Option Cleared → ℕ → Cleared → Type 0
Cleanly es ls first k c =
    Stands (λ i. capacity_of (enrolment es i)) (curve_given es ls (call_in first) k) (latest_want ls k) c.brought c.price (call_in (Some c)) (received_in (Some c))

-- one more round cleared
now_done : (es : List Early) (ls : List Late) (done : ℕ → Option Cleared) (k : ℕ) (c : Cleared) → k < 2 → is_some (done k) ≡ false → (eqb k 1 && not (is_some (done 0))) ≡ false → Cleanly es ls (done 0) k c → Matched (Some c) → Settled es ls done → Settled es (clear k ∷ ls) (λ j. cond (eqb k j) (Some c) (done j))
now_done es ls done zero c low free ready ok even was = (
  λ e. absurd (both_ways true e refl),
  λ j. cond_both (eqb 0 j) (Some c) (done j) Matched (λ _. even) (λ _. was.1 j),
  λ j e h. elim h [
    | inl p ↦ subst₂ (λ m x. Standing es (λ n. cond (eqb 0 n) (Some c) (done n)) m x) p.0 p.1 (refl, ok)
    | inr t ↦ absurd (both_ways (is_some (done j)) (was.0 free j) (was.2 j e t).0)
  ],
  λ j. now_heard (eqb 0 j) c (done j) (was_cleared ls j) (was.3 j),
)
now_done es ls done (suc zero) c low free ready ok even was =
    let first : is_some (done 0) ≡ true = not-false (is_some (done 0)) ready in (
      λ e. absurd (both_ways (is_some (done 0)) e first),
      λ j. cond_both (eqb 1 j) (Some c) (done j) Matched (λ _. even) (λ _. was.1 j),
      λ j e h. elim h [
        | inl p ↦ subst₂ (λ m x. Standing es (λ n. cond (eqb 1 n) (Some c) (done n)) m x) p.0 p.1 (refl, ok)
        | inr t ↦ elim (cases_Bool (eqb 1 j)) [
          | inl y ↦ absurd (both_ways (is_some (done j)) (subst (λ m. is_some (done m) ≡ false) (eqb-true 1 j y) free) (was.2 j e t).0)
          | inr n ↦ subst (λ β. (is_some (cond β (Some c) (done j)) ≡ true) × Stands (λ i. capacity_of (enrolment es i)) (curve_given es e (call_in (done 0)) j) (latest_want e j) (brought_in (cond β (Some c) (done j))) (price_in (cond β (Some c) (done j))) (call_in (cond β (Some c) (done j))) (received_in (cond β (Some c) (done j)))) (sym n) (was.2 j e t)
        ]
      ],
      λ j. now_heard (eqb 1 j) c (done j) (was_cleared ls j) (was.3 j),
    )
now_done es ls done (suc (suc k)) c low free ready ok even was = absurd (omega arith)

pub after_clear : (es : List Early) (ls : List Late) (q : Period) (k : ℕ) (c : Cleared) → k < 2 → is_some (cleared_at q k) ≡ false → (eqb k 1 && not (is_some (cleared_at q 0))) ≡ false → Cleanly es ls (cleared_at q 0) k c → Agrees es ls q → Agrees es (clear k ∷ ls) (with_round q k (with_cleared (round_at q k) c))
after_clear es ls q k c low free ready ok was =
    let r : Round = with_cleared (round_at q k) c in
    let few : (a : ℕ) → 8 ≤ a → latest_want ls k a ≡ 0 = λ a h. sym (was.wants k a) ∙ get_or_past (round_at q k).wants a 0 (omega (arith, was.wide k low)) in
    record {
      two = length-set q.rounds k r ∙ was.two;
      wide = λ j h. part_kept (λ x. length x.wants) q.rounds k r no_round refl j ∙ was.wide j h;
      many = λ j h. part_kept (λ x. length x.plans) q.rounds k r no_round refl j ∙ was.many j h;
      wants = λ j a. part_kept (λ x. get_or x.wants a 0) q.rounds k r no_round refl j ∙ was.wants j a;
      plans = λ j i. part_kept (λ x. get_or x.plans i None) q.rounds k r no_round refl j ∙ was.plans j i;
      tall = was.tall;
      units = was.units;
      high = was.high;
      plants = was.plants;
      rounds = subst (Settled es (clear k ∷ ls)) (sym (fun_ext (part_write (λ x. x.cleared) q.rounds k r no_round (omega (arith, was.two)))))
          (now_done es ls (cleared_at q) k c low free ready ok (stands_matched _ _ _ _ _ _ _ few ok) was.rounds);
    }
