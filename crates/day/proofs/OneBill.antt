-- Days of which the same is read answer every question alike.
use Rattle.std.proofs.Common.{◌≡◌, ℕ, ◌+◌, ◌-◌, ◌*◌, ◌<◌, cond, eqb, ltb, pos, Some, None, Option, refl, ap, ◌∙◌}
use mathlib.Core.Path.{fun_ext}
use Rattle.sharing.specs.Places.{upto, total}
use Rattle.sharing.specs.Shares.{share_of}
use Rattle.sharing.proofs.Sums.{upto_same}
use Rattle.money.specs.Money.{fee_of, producers_of, users_of, deviation_of, penalty_of}
use Rattle.day.specs.declared.book.Book.{Book}
use Rattle.day.specs.Bills as bill
use Rattle.day.specs.Bills.{in_area, part_in, unit_area, payee_area}
use Rattle.day.specs.Only.{SameDay, SameBill, SameBills}
use Rattle.day.specs.Reading.{plant_at}
use Rattle.day.specs.Terms.{is_unit, or_else, base_from}

-- a party's part hangs on the weights and on the amount of its own area alone
part_same : (o : Option ℕ) (w w' : ℕ → ℕ → ℕ) (m m' : ℕ → ℕ) (j : ℕ) → ((a : ℕ) → w a ≡ w' a) → ((a : ℕ) → o ≡ Some a → m a ≡ m' a) → part_in o w m j ≡ part_in o w' m' j
part_same None w w' m m' j weights amounts = refl
part_same (Some a) w w' m m' j weights amounts = λ t. share_of (weights a t) (amounts a refl t) j

module _ (b b' : Book) (same : SameDay b b') where
  wanted : (p k : ℕ) → bill.wanted_of b k p ≡ bill.wanted_of b' k p
  wanted p k = λ t. cond (same.cleared p k t) (total (λ a. same.wants p k a t)) 0

  fee : (p k i : ℕ) → bill.fee b k p i ≡ bill.fee b' k p i
  fee p k i = λ t. fee_of (or_else (same.prices p k t) 0) (same.calls p k i t)

  charge : (p a : ℕ) → a < 8 → bill.charge b p a ≡ bill.charge b' p a
  charge p a l = λ t. fee_of (or_else (same.prices p 0 t) 0) (same.received p 0 a l t) + fee_of (or_else (same.prices p 1 t) 0) (same.received p 1 a l t)

  producers : (p a : ℕ) → a < 8 → bill.producers b p a ≡ bill.producers b' p a
  producers p a l = λ t. producers_of (same.share t) (charge p a l t)

  users : (p a : ℕ) → a < 8 → bill.users b p a ≡ bill.users b' p a
  users p a l = λ t. users_of (same.share t) (charge p a l t)

  net : (p a j : ℕ) → bill.net b p a j ≡ bill.net b' p a j
  net p a j = λ t. cond (in_area (same.plants j t) a) (same.plant_reads p j t) 0

  plant_charge : (p j : ℕ) → bill.plant_charge b p j ≡ bill.plant_charge b' p j
  plant_charge p j =
      part_same (plant_at b j) (bill.net b p) (bill.net b' p) (bill.producers b p) (bill.producers b' p) j (λ a. fun_ext (net p a)) (λ a is. producers p a (same.placed j a is))
      ∙ ap (λ o. part_in o (bill.net b' p) (bill.producers b' p) j) (same.plants j)

  uncarried_charge : (p a : ℕ) → a < 8 → bill.uncarried_charge b p a ≡ bill.uncarried_charge b' p a
  uncarried_charge p a l = λ t. cond (eqb (total (λ j. net p a j t)) 0) (producers p a l t) 0

  of_areas : (p : ℕ) → upto (λ a. bill.users b p a + bill.uncarried_charge b p a) 8 ≡ upto (λ a. bill.users b' p a + bill.uncarried_charge b' p a) 8
  of_areas p = upto_same _ _ 8 (λ a l t. users p a l t + uncarried_charge p a l t)

  plan_of : (p i : ℕ) → bill.plan_of b p i ≡ bill.plan_of b' p i
  plan_of p i = λ t. base_from (λ k n. same.plans p k n t) (λ n. same.calls p 0 n t) 1 i - same.calls p 1 i t

  reading_of : (p i : ℕ) → bill.reading_of b p i ≡ bill.reading_of b' p i
  reading_of p i = λ t. or_else (same.unit_reads p i t) (25 * plan_of p i t)

  deviation : (p i : ℕ) → bill.deviation b p i ≡ bill.deviation b' p i
  deviation p i = λ t. cond (is_unit (same.sellers i t)) (deviation_of (reading_of p i t) (plan_of p i t)) (pos 0)

  penalty : (p i : ℕ) → bill.penalty b p i ≡ bill.penalty b' p i
  penalty p i = λ t. cond (is_unit (same.sellers i t)) (penalty_of (ltb 0 (same.calls p 0 i t + same.calls p 1 i t)) (reading_of p i t) (plan_of p i t)) 0

  fines : (p a : ℕ) → bill.fines b p a ≡ bill.fines b' p a
  fines p a = λ t. total (λ i. cond (in_area (unit_area (same.sellers i t)) a) (penalty p i t) 0)

  payee : (p a i : ℕ) → bill.payee b p a i ≡ bill.payee b' p a i
  payee p a i = λ t. cond (in_area (payee_area (same.sellers i t)) a) (reading_of p i t) 0

  refund : (p i : ℕ) → bill.refund b p i ≡ bill.refund b' p i
  refund p i = λ t. part_in (unit_area (same.sellers i t)) (λ a n. payee p a n t) (λ a. fines p a t) i

  uncarried_refund : (p a : ℕ) → bill.uncarried_refund b p a ≡ bill.uncarried_refund b' p a
  uncarried_refund p a = λ t. cond (eqb (total (λ i. payee p a i t)) 0) (fines p a t) 0

  same_bill : SameBill b b'
  same_bill =
      record {
        calls = same.calls;
        prices = same.prices;
        wanted = wanted;
        brought = same.brought;
        received = same.received;
        fee = fee;
        charge = charge;
        producers = producers;
        users = users;
        plant_charge = plant_charge;
        uncarried_charge = uncarried_charge;
        deviation = deviation;
        penalty = penalty;
        refund = refund;
        uncarried_refund = uncarried_refund;
        fees = λ t. upto (λ p. total (λ i. fee p 0 i t + fee p 1 i t)) 96;
        charges = λ t. upto (λ p. total (λ j. plant_charge p j t) + of_areas p t) 96;
        penalties = λ t. upto (λ p. total (λ i. penalty p i t)) 96;
        refunds = λ t. upto (λ p. total (λ i. refund p i t) + upto (λ a. uncarried_refund p a t) 8) 96;
      }

pub same_bills : SameBills
same_bills = same_bill
