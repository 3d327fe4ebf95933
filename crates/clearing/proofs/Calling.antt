-- The calls of a round at its price, from what is offered below it and at it and what the fraction rule gives. Assumes nothing.
use Rattle.std.proofs.Common.{◌≡◌, ℕ, ◌+◌, ◌-◌, ◌<◌, ◌≤◌, min, List, length, ap, ◌∙◌, subst, arith}
use Rattle.std.proofs.lemmas.Bool.{cases_lt}
use Rattle.sharing.specs.Places.{total, at_place}
use Rattle.sharing.specs.Rows.{weights}
use Rattle.sharing.specs.Tenths.{ByFraction, takes}
use Rattle.sharing.specs.declared.row.Row.{Row}
use Rattle.sharing.proofs.Entering.{takes_all}
use Rattle.sharing.proofs.Sums.{cases}
use Rattle.sellers.specs.Curves.{Lawful, Weighs}
use Rattle.clearing.specs.Calls.{under, CalledAt}
use Rattle.clearing.specs.Prices.{curves, offered, Least}
use Rattle.clearing.proofs.Standing.{lawful_at, curve_past, low_le, room_enough, called_at}

module _ {S : Type 0} (power : S → ℕ → ℕ) (heft : S → ℕ) (law : (s : S) → Lawful (power s)) (row : Row S) (p brought : ℕ) (least : Least (offered (curves power row)) brought p) (low high rooms : List ℕ)
    (is_low : (i : ℕ) → at_place low i ≡ under (curves power row i) p)
    (is_high : (i : ℕ) → at_place high i ≡ curves power row i (min p 60))
    (is_left : (i : ℕ) → at_place rooms i ≡ at_place high i - at_place low i) where
  lawful : (i : ℕ) → Lawful (curves power row i)
  lawful = lawful_at power law row.items.now

  is_room : (i : ℕ) → at_place rooms i ≡ curves power row i p - at_place low i
  is_room i =
      let within : min p 60 ≡ p = let l = least.within in omega arith in
      is_left i ∙ ap (λ n. n - at_place low i) (is_high i ∙ ap (curves power row i) within)

  pub low_within : total (at_place low) ≤ brought
  low_within = low_le (curves power row) lawful (weights heft row) p brought least _ _ is_low is_room

  module _ (weighs : (i : ℕ) → i < length row.items.now → Weighs (weights heft row i)) (given : List ℕ) (rest left : ℕ)
      (is_rest : rest ≡ brought - total (at_place low))
      (adds : total (at_place given) + left ≡ rest)
      (no_room : left ≡ rest - total (takes (weights heft row) (at_place rooms)))
      (shared : ByFraction (weights heft row) (takes (weights heft row) (at_place rooms)) (at_place given)) where
    -- Whoever has room has a weight, so all rooms are open.
    heavy : (i : ℕ) → 0 < at_place rooms i → 0 < weights heft row i
    heavy i some = cases (cases_lt i (length row.items.now))
        (λ l. let w = weighs i l in w.some)
        (λ past. absurd (let z = is_room i in let e = ap (λ f. f p) (curve_past power row.items.now i past) in omega arith))

    open_rooms : takes (weights heft row) (at_place rooms) ≡ at_place rooms
    open_rooms = λ k i. takes_all (weights heft row) (at_place rooms) i (heavy i) k

    fair : ByFraction (weights heft row) (at_place rooms) (at_place given)
    fair = subst (λ (r : ℕ → ℕ). ByFraction (weights heft row) r (at_place given)) open_rooms shared

    all_given : total (at_place given) ≡ brought - total (at_place low)
    all_given =
        let enough = room_enough (curves power row) lawful (weights heft row) p brought least _ _ is_low is_room in
        let all = ap total open_rooms in
        omega arith

    pub all_called : (calls : List ℕ) → ((i : ℕ) → at_place calls i ≡ at_place low i + at_place given i) → CalledAt (weights heft row) (curves power row) p brought (at_place calls)
    all_called calls = called_at (curves power row) lawful (weights heft row) p brought least _ _ is_low is_room _ fair all_given (at_place calls)
