-- What parties in a row share, by the weights they stand for. Assumes nothing.
use Rattle.std.proofs.Common.{◌≡◌, ℕ, ◌<◌, ◌≤◌, cond, eqb, List, length, get_or, sym, ◌∙◌, arith}
use Rattle.std.proofs.lemmas.List.{get_or-map}
use Rattle.std.proofs.lemmas.Bool.{cases_eq, cases_lt, eq-eqb, ne_eqb, cond-true, cond-false}
use Rattle.sharing.specs.Places.{total, by_place}
use Rattle.sharing.specs.Shares.{Shared, share_of}
use Rattle.sharing.proofs.ByRank.{share_same}
use Rattle.sharing.proofs.Sums.{cases, upto_same, by_place_past}

-- the weights of so many parties, and none past the last
pub weigh : {X : Type 0} (f : X → ℕ) (items : List X) (d : X) (weights : ℕ → ℕ) (n : ℕ) → length items ≡ n → ((j : ℕ) → j < n → f (get_or items j d) ≡ weights j) → ((j : ℕ) → n ≤ j → j < 64 → weights j ≡ 0) → (j : ℕ) → j < 64 → by_place f items j ≡ weights j
weigh f items d weights n long is none j l =
    cases (cases_lt j n)
    (λ low. get_or-map f items j d 0 (omega arith) ∙ is j low)
    (λ past. by_place_past f items j (omega arith) ∙ sym (none j (omega arith) l))

module _ {X : Type 0} (f : X → ℕ) (items : List X) (d : X) (weights : ℕ → ℕ) (long : length items ≡ 64) (is : (j : ℕ) → j < 64 → f (get_or items j d) ≡ weights j) where
  weighed : (j : ℕ) → j < 64 → by_place f items j ≡ weights j
  weighed = weigh f items d weights 64 long is (λ j past l. absurd (omega arith))

  pub part_is : (amount part j : ℕ) → j < 64 → part ≡ share_of (by_place f items) amount j → part ≡ share_of weights amount j
  part_is amount part j l e = e ∙ share_same (by_place f items) weights weighed amount j l

  pub rest_is : (amount : ℕ) (shares : ℕ → ℕ) (uncarried : ℕ) → Shared (by_place f items) amount shares uncarried → uncarried ≡ cond (eqb (total weights) 0) amount 0
  rest_is amount shares uncarried shared =
      let same : total (by_place f items) ≡ total weights = upto_same (by_place f items) weights 64 weighed in
      cases (cases_eq (total weights) 0)
      (λ z. (shared.weightless (same ∙ z)).1 ∙ sym (cond-true (eqb (total weights) 0) amount 0 (eq-eqb (total weights) 0 z)))
      (λ n. (shared.carried (omega arith)).1 ∙ sym (cond-false (eqb (total weights) 0) amount 0 (ne_eqb (total weights) 0 n)))
