use Rattle.std.proofs.Common.{rules, of_calls, ◌≡◌, ◌+◌, ◌*◌, ◌^◌, ◌≤◌, arith, ◌∙◌}
use Rattle.day.specs.Bills.{fee, plant_charge, users, uncarried_charge, penalty, refund, uncarried_refund, fees, charges, penalties, refunds}
use Rattle.day.proofs.Totalled.{ran_balanced, charges_are, refunds_are}
use Rattle.day.proofs.closed.ClosedDay.totals.Goals as goal

pub overflow_cast-result : goal.overflow_cast-result
overflow_cast-result c =
    let most : c.in_day-fees.result ≤ 2 ^ 46 * 64 * 96 = c.in_day-fees.ensures.most (2 ^ 46) (λ p i r low l post. search (rules, of_calls)) in
    omega (arith, most)

pub overflow_cast-result-2 : goal.overflow_cast-result-2
overflow_cast-result-2 c =
    let b = c.args.self.now.book in
    let most : c.in_day-fees.result ≤ 2 ^ 46 * 64 * 96 = c.in_day-fees.ensures.most (2 ^ 46) (λ p i r low l post. search (rules, of_calls)) in
    let paid : c.in_day-fees.result ≡ fees b = c.in_day-fees.ensures.value (λ p i. fee b 0 p i + fee b 1 p i) (λ p i r low l post. search (rules, of_calls)) in
    let plants = c.in_day.ensures.value (plant_charge b) (λ p i r low l post. search (rules, of_calls)) in
    let borne = c.in_day-2.ensures.value (users b) (λ p i r low l post. search (rules, of_calls)) in
    let rest = c.in_day-3.ensures.value (uncarried_charge b) (λ p i r low l post. search (rules, of_calls)) in
    let all : c.in_day.result + c.in_day-2.result + c.in_day-3.result ≡ charges b = (λ t. plants t + borne t + rest t) ∙ charges_are b in
    omega (arith, most, (ran_balanced c.args.self.now.reached).0)

pub overflow_cast-result-3 : goal.overflow_cast-result-3
overflow_cast-result-3 c =
    let most : c.in_day-penalties.result ≤ 2 ^ 42 * 64 * 96 = c.in_day-penalties.ensures.most (2 ^ 42) (λ p i r low l post. search (rules, of_calls)) in
    omega (arith, most)

pub overflow_cast-result-4 : goal.overflow_cast-result-4
overflow_cast-result-4 c =
    let b = c.args.self.now.book in
    let most : c.in_day-penalties.result ≤ 2 ^ 42 * 64 * 96 = c.in_day-penalties.ensures.most (2 ^ 42) (λ p i r low l post. search (rules, of_calls)) in
    let fined : c.in_day-penalties.result ≡ penalties b = c.in_day-penalties.ensures.value (penalty b) (λ p i r low l post. search (rules, of_calls)) in
    let units = c.in_day-4.ensures.value (refund b) (λ p i r low l post. search (rules, of_calls)) in
    let kept = c.in_day-5.ensures.value (uncarried_refund b) (λ p i r low l post. search (rules, of_calls)) in
    let back : c.in_day-4.result + c.in_day-5.result ≡ refunds b = (λ t. units t + kept t) ∙ refunds_are b in
    omega (arith, most, (ran_balanced c.args.self.now.reached).1)

pub returns : goal.returns
returns c =
    let b = c.args.self.now.book in
    let even = ran_balanced c.args.self.now.reached in
    let paid : c.in_day-fees.result ≡ fees b = c.in_day-fees.ensures.value (λ p i. fee b 0 p i + fee b 1 p i) (λ p i r low l post. search (rules, of_calls)) in
    let plants = c.in_day.ensures.value (plant_charge b) (λ p i r low l post. search (rules, of_calls)) in
    let borne = c.in_day-2.ensures.value (users b) (λ p i r low l post. search (rules, of_calls)) in
    let rest = c.in_day-3.ensures.value (uncarried_charge b) (λ p i r low l post. search (rules, of_calls)) in
    let fined : c.in_day-penalties.result ≡ penalties b = c.in_day-penalties.ensures.value (penalty b) (λ p i r low l post. search (rules, of_calls)) in
    let units = c.in_day-4.ensures.value (refund b) (λ p i r low l post. search (rules, of_calls)) in
    let kept = c.in_day-5.ensures.value (uncarried_refund b) (λ p i r low l post. search (rules, of_calls)) in
    let all : c.in_day.result + c.in_day-2.result + c.in_day-3.result ≡ charges b = (λ t. plants t + borne t + rest t) ∙ charges_are b in
    let back : c.in_day-4.result + c.in_day-5.result ≡ refunds b = (λ t. units t + kept t) ∙ refunds_are b in
    record {
      fees = paid;
      charges = all;
      penalties = fined;
      refunds = back;
      balance = (omega (arith, even.0), omega (arith, even.1));
    }
