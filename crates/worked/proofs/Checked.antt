-- Tests of a case, which compute on numerals: a case that passes them holds. Assumes nothing.
use Rattle.std.proofs.Common.{◌≡◌, ℕ, zero, suc, ◌+◌, ◌-◌, ◌*◌, ◌/◌, ◌%◌, ◌<◌, ◌≤◌, min, Bool, true, cond, ◌&&◌, ◌||◌, eqb, ltb, leb, List, [], ◌∷◌, map, length, Some, None, Option, sym, refl, ap, ◌∙◌, inl, inr, mul-le-mul_right, mul-zero, arith}
use native.Mathlib.Nat.{zero-div, zero-mod}
use Rattle.std.specs.List.{AllByRecursion, list_all}
use Rattle.std.proofs.lemmas.List.{get_or_past, length-map}
use Rattle.std.proofs.lemmas.Bool.{and_parts, or_cases, cases_lt, cases_eq, cases_Bool, cond-true, cond-false, lt-ltb, eq-eqb, and_from, leb-true, ltb-true, eqb-true}
use Rattle.std.proofs.lemmas.Bool.Decides.{nat_tests}
use Rattle.sharing.specs.Order.{least_first, most_first}
use Rattle.sharing.specs.Places.{upto, total, at_place, by_place}
use Rattle.sharing.specs.Shares.{part_of, left_of}
use Rattle.sharing.specs.Tenths.{ByFraction}
use Rattle.sharing.proofs.Rounding.{before_none}
use Rattle.sharing.proofs.Sums.{cases, upto_past}
use Rattle.clearing.specs.Calls.{under, at_price, Priced}
use Rattle.clearing.specs.Prices.{curves_at, offered}
use Rattle.money.specs.Money.{penalty_of}
use Rattle.worked.specs.Cases.{UnitOf, power_of_unit, Case, cleared, shared, tenths, penalty, Holds}

-- Every number below n passes.
abbrev all_below : (ℕ → Bool) → ℕ → Bool
all_below passes zero = true
all_below passes (suc n) = passes n && all_below passes n

each_below : (passes : ℕ → Bool) (n i : ℕ) → all_below passes n ≡ true → i < n → passes i ≡ true
each_below passes zero i e l = absurd (omega arith)
each_below passes (suc n) i e l =
    let both = and_parts _ _ e in
    cases (cases_eq i n) (λ here. ap passes here ∙ both.0) (λ other. each_below passes n i both.1 (omega arith))

-- All of these pass.
abbrev all_pass : List Bool → Bool
all_pass = list_all (λ b. b)

each_passes : (bs : List Bool) → all_pass bs ≡ true → AllByRecursion (λ b. b ≡ true) bs
each_passes [] e = tt
each_passes (b ∷ bs) e = let both = and_parts _ _ e in (both.0, each_passes bs both.1)

-- A list has 0 past its end.
past_end : (xs : List ℕ) (n i : ℕ) → leb (length xs) n ≡ true → n ≤ i → at_place xs i ≡ 0
past_end xs n i e l = let short = leb-true _ _ e in get_or_past xs i 0 (omega arith)

-- The fraction rule owes the most where one has had its last tenth and the other has its next to come.
later_first : (p q p' q' i j : ℕ) → p' ≤ p → q ≤ q' → cond (eqb p q) (ltb i j) (ltb p q) ≡ true → cond (eqb p' q') (ltb i j) (ltb p' q') ≡ true
later_first p q p' q' i j low high first = grind (arith, nat_tests)

-- The tests of the fraction rule over the first n places.
module _ (weights rooms given : ℕ → ℕ) where
  abbrev next_first : ℕ → ℕ → Bool
  next_first a b = cond (ltb 0 (given a) && ltb (given b) (rooms b)) (least_first (given a) (weights a) a (given b + 1) (weights b) b) true

  abbrev has_room : ℕ → Bool
  has_room i = leb (given i) (rooms i)

  abbrev fraction_passes : ℕ → Bool
  fraction_passes n = all_below has_room n && all_below (λ a. all_below (next_first a) n) n

  by_fraction : (n : ℕ) → ((i : ℕ) → n ≤ i → given i ≡ 0) → ((i : ℕ) → n ≤ i → rooms i ≡ 0) → fraction_passes n ≡ true → ByFraction weights rooms given
  by_fraction n none_given none_roomed e =
      let both = and_parts (all_below has_room n) (all_below (λ a. all_below (next_first a) n) n) e in
      record {
        within = λ i. cases (cases_lt i n)
            (λ inside. leb-true _ _ (each_below has_room n i both.0 inside))
            (λ past. let g = none_given i past in omega arith);
        order = λ a b j k j0 ja kb kr. cases (cases_lt a n)
            (λ a_in. cases (cases_lt b n)
            (λ b_in.
            let tested : next_first a b ≡ true = each_below (next_first a) n b (each_below (λ x. all_below (next_first x) n) n a both.1 a_in) b_in in
            let asked : (ltb 0 (given a) && ltb (given b) (rooms b)) ≡ true = and_from _ _ (lt-ltb 0 (given a) (omega arith)) (lt-ltb (given b) (rooms b) (omega arith)) in
            later_first (given a * weights b) ((given b + 1) * weights a) (j * weights b) (k * weights a) a b
            (mul-le-mul_right (weights b) ja) (mul-le-mul_right (weights a) (omega arith)) (sym (cond-true _ _ _ asked) ∙ tested))
            (λ past. absurd (let r = none_roomed b past in omega arith)))
            (λ past. absurd (let g = none_given a past in omega arith));
      }

-- The tests of a share-out over the first n places.
module _ (weights : List ℕ) (amount : ℕ) (shares : List ℕ) where
  abbrev due : ℕ → ℕ
  due = part_of (at_place weights) amount

  abbrev left : ℕ → ℕ
  left = left_of (at_place weights) amount

  abbrev odd_first : ℕ → ℕ → Bool
  odd_first i j = cond (eqb (at_place shares i) (due i + 1) && eqb (at_place shares j) (due j)) (most_first (left i) i (left j) j) true

  abbrev share_tests : ℕ → List Bool
  share_tests n =
      leb n 64 ∷ leb (length weights) n ∷ leb (length shares) n ∷ ltb 0 (total (at_place weights)) ∷ eqb (upto (at_place shares) n) amount ∷
      all_below (λ i. eqb (at_place shares i) (due i) || eqb (at_place shares i) (due i + 1)) n ∷ all_below (λ i. all_below (odd_first i) n) n ∷ []

  shared_out : (n : ℕ) → all_pass (share_tests n) ≡ true → Holds (shared weights amount shares)
  shared_out n e =
      let tests = each_passes (share_tests n) e in
      let few = leb-true _ _ tests.0 in
      let no_weight : (i : ℕ) → n ≤ i → amount * at_place weights i ≡ 0 = λ i past. ap (λ w. amount * w) (past_end weights n i tests.1.0 past) ∙ mul-zero amount in
      let no_share : (i : ℕ) → n ≤ i → at_place shares i ≡ 0 = λ i past. past_end shares n i tests.1.1.0 past in
      let no_due : (i : ℕ) → n ≤ i → due i ≡ 0 = λ i past. ap (λ x. x / total (at_place weights)) (no_weight i past) ∙ zero-div (total (at_place weights)) in
      let none_left : (i : ℕ) → n ≤ i → left i ≡ 0 = λ i past. ap (λ x. x % total (at_place weights)) (no_weight i past) ∙ zero-mod (total (at_place weights)) in (
        ltb-true _ _ tests.1.1.1.0,
        record {
          adds = upto_past (at_place shares) n 64 few no_share ∙ eqb-true _ _ tests.1.1.1.1.0;
          rounded = λ i. cases (cases_lt i n)
              (λ inside. cases (or_cases _ _ (each_below _ n i tests.1.1.1.1.1.0 inside)) (λ h. inl (eqb-true _ _ h)) (λ h. inr (eqb-true _ _ h)))
              (λ past. inl (no_share i past ∙ sym (no_due i past)));
          order = λ i j more same. cases (cases_lt i n)
              (λ i_in. cases (cases_lt j n)
              (λ j_in. sym (cond-true _ _ _ (and_from _ _ (eq-eqb _ _ more) (eq-eqb _ _ same))) ∙ each_below _ n j (each_below _ n i tests.1.1.1.1.1.1.0 i_in) j_in)
              (λ past. let z = none_left j past in before_none (left i) i (left j) j z (omega arith)))
              (λ past. absurd (let a = no_share i past in let b = no_due i past in omega arith));
        },
      )

-- The tests of the clearing of a round over the first n places.
module _ (units : List UnitOf) (wanted brought : ℕ) (calls : List ℕ) where
  abbrev curve : ℕ → ℕ → ℕ
  curve = curves_at power_of_unit units

  abbrev heft : ℕ → ℕ
  heft = by_place (λ u. u.capacity) units

  abbrev call : ℕ → ℕ
  call = at_place calls

  abbrev together : ℕ → ℕ → ℕ
  together n q = upto (λ i. curve i q) n

  abbrev price_tests : ℕ → Option ℕ → List Bool
  price_tests n None = eqb brought 0 ∷ all_below (λ i. eqb (call i) 0) n ∷ []
  price_tests n (Some p) =
      ltb 0 brought ∷ leb p 60 ∷ leb brought (together n p) ∷ all_below (λ q. ltb (together n q) brought) p ∷
      all_below (λ i. leb (under (curve i) p) (call i)) n ∷ all_below (λ i. leb (call i) (curve i p)) n ∷ eqb (upto call n) brought ∷
      fraction_passes heft (λ i. at_price (curve i) p) (λ i. call i - under (curve i) p) n ∷ []

  abbrev clear_tests : ℕ → Option ℕ → List Bool
  clear_tests n price = leb n 64 ∷ leb (length units) n ∷ leb (length calls) n ∷ eqb brought (min wanted (together n 60)) ∷ all_pass (price_tests n price) ∷ []

  module _ (n : ℕ) (few : n ≤ 64) (no_unit : leb (length units) n ≡ true) (no_call : leb (length calls) n ≡ true) where
    nothing : (i : ℕ) → n ≤ i → curve i ≡ (λ _. 0)
    nothing i past = let short = leb-true _ _ no_unit in let as_long = length-map units power_of_unit in get_or_past (map power_of_unit units) i (λ _. 0) (omega arith)

    nothing_under : (p i : ℕ) → n ≤ i → under (curve i) p ≡ 0
    nothing_under zero i past = refl
    nothing_under (suc p) i past = ap (λ (c : ℕ → ℕ). c p) (nothing i past)

    nothing_at : (p i : ℕ) → n ≤ i → curve i p ≡ 0
    nothing_at p i past = ap (λ (c : ℕ → ℕ). c p) (nothing i past)

    all_offered : (q : ℕ) → offered curve q ≡ together n q
    all_offered q = upto_past (λ i. curve i q) n 64 few (nothing_at q)

    not_called : (i : ℕ) → n ≤ i → call i ≡ 0
    not_called i past = past_end calls n i no_call past

    priced : (price : Option ℕ) → all_pass (price_tests n price) ≡ true → Priced heft curve brought price call
    priced None e =
        let tests = each_passes (price_tests n None) e in
        (eqb-true _ _ tests.0, λ i. cases (cases_lt i n) (λ inside. eqb-true _ _ (each_below _ n i tests.1.0 inside)) (not_called i))
    priced (Some p) e =
        let tests = each_passes (price_tests n (Some p)) e in
        let calling = tests.1.1.1.1 in
        let reached = leb-true _ _ tests.1.1.0 in
        let at_p = all_offered p in (
          ltb-true _ _ tests.0,
          record {
            within = leb-true _ _ tests.1.0;
            reaches = omega arith;
            least = λ q l. let less = ltb-true _ _ (each_below _ p q tests.1.1.1.0 l) in let at_q = all_offered q in omega arith;
          },
          record {
            low = λ i. cases (cases_lt i n) (λ inside. leb-true _ _ (each_below _ n i calling.0 inside)) (λ past. let u = nothing_under p i past in omega arith);
            high = λ i. cases (cases_lt i n) (λ inside. leb-true _ _ (each_below _ n i calling.1.0 inside)) (λ past. let c = not_called i past in omega arith);
            adds = upto_past call n 64 few not_called ∙ eqb-true _ _ calling.1.1.0;
            fair = by_fraction heft (λ i. at_price (curve i) p) (λ i. call i - under (curve i) p) n
                (λ i past. let c = not_called i past in omega arith) (λ i past. let c = nothing_at p i past in omega arith) calling.1.1.1.0;
          },
        )

  clears : (n : ℕ) (price : Option ℕ) → all_pass (clear_tests n price) ≡ true → Holds (cleared units wanted brought price calls)
  clears n price e =
      let tests = each_passes (clear_tests n price) e in
      let few = leb-true _ _ tests.0 in
      let at_most = all_offered n few tests.1.0 tests.1.1.0 60 in
      record {
        brings = eqb-true _ _ tests.1.1.1.0 ∙ ap (min wanted) (sym at_most);
        priced = priced n few tests.1.0 tests.1.1.0 price tests.1.1.1.1.0;
      }

-- A case passes its tests.
abbrev passes : Case → Bool
passes (cleared units wanted brought price calls) = all_pass (clear_tests units wanted brought calls (length units) price)
passes (shared weights amount shares) = all_pass (share_tests weights amount shares (length weights))
passes (tenths weights rooms given) = leb (length given) (length rooms) && fraction_passes (at_place weights) (at_place rooms) (at_place given) (length rooms)
passes (penalty plan reading due) = eqb (penalty_of true reading plan) due

holds : (c : Case) → passes c ≡ true → Holds c
holds (cleared units wanted brought price calls) e = clears units wanted brought calls (length units) price e
holds (shared weights amount shares) e = shared_out weights amount shares (length weights) e
holds (tenths weights rooms given) e =
    let both = and_parts _ _ e in
    by_fraction (at_place weights) (at_place rooms) (at_place given) (length rooms)
    (λ i past. past_end given (length rooms) i both.0 past) (λ i past. get_or_past rooms i 0 past) both.1
holds (penalty plan reading due) e = eqb-true _ _ e

-- The cases that do not pass.
abbrev pub failing : List Case → List Case
failing [] = []
failing (c ∷ cs) = cond (passes c) (failing cs) (c ∷ failing cs)

-- Where none fails, all hold.
pub all_hold : (cs : List Case) → failing cs ≡ [] → AllByRecursion Holds cs
all_hold [] e = tt
all_hold (c ∷ cs) e = cases (cases_Bool (passes c))
    (λ pass. (holds c pass, all_hold cs (sym (cond-true (passes c) (failing cs) (c ∷ failing cs) pass) ∙ e)))
    (λ fail. absurd (let some = sym (cond-false (passes c) (failing cs) (c ∷ failing cs) fail) ∙ e in let z : ◌≡◌ {A = ℕ} 0 1 = cc in omega arith))
