-- The sums of a reached day balance. Assumes nothing.
use Rattle.std.proofs.Common.{◌≡◌, ◌+◌, sym, arith}
use mathlib.Core.Logic.{∥∥₁_elim}
use native.Mathlib.Nat.{ℕ_set}
use Rattle.sharing.specs.Places.{upto, total}
use Rattle.sharing.proofs.Sums.{upto_add, upto_same}
use Rattle.day.specs.declared.book.Book.{Book}
use Rattle.day.specs.Balance.{Balanced}
use Rattle.day.specs.Bills.{plant_charge, users, uncarried_charge, charges, refund, uncarried_refund, refunds}
use Rattle.day.specs.Reached.{Ran}
use Rattle.day.proofs.Balances.{balanced}
use Rattle.day.proofs.Law.{even}

pub ran_balanced : {b : Book} → Ran b → Balanced b
ran_balanced {b} h = (
  ∥∥₁_elim h (ℕ_set _ _) (λ r. (balanced b (even r.0 r.1 r.2 b r.3)).0),
  ∥∥₁_elim h (ℕ_set _ _) (λ r. (balanced b (even r.0 r.1 r.2 b r.3)).1),
)

-- charges are those of plants and those of areas, and so are refunds
pub charges_are : (b : Book) → upto (λ p. total (plant_charge b p)) 96 + upto (λ p. upto (users b p) 8) 96 + upto (λ p. upto (uncarried_charge b p) 8) 96 ≡ charges b
charges_are b =
    let areas = upto_same _ _ 96 (λ p l. upto_add (users b p) (uncarried_charge b p) 8) in
    omega (arith, areas, upto_add (λ p. upto (users b p) 8) (λ p. upto (uncarried_charge b p) 8) 96, upto_add (λ p. total (plant_charge b p)) (λ p. upto (λ a. users b p a + uncarried_charge b p a) 8) 96)

pub refunds_are : (b : Book) → upto (λ p. total (refund b p)) 96 + upto (λ p. upto (uncarried_refund b p) 8) 96 ≡ refunds b
refunds_are b = sym (upto_add (λ p. total (refund b p)) (λ p. upto (uncarried_refund b p) 8) 96)
