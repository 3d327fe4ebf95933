-- What the answers of `all` and of `is_sorted_by_key` at the steps of an offer decide. Assumes nothing.
use Rattle.std.proofs.Common.{◌≡◌, ℕ, ◌<◌, ◌≤◌, List, length, get_or, Some, Bool, true, false, MatchBool, sym, ◌∙◌, arith}
use Rattle.std.proofs.lemmas.Bool.{true≢false}
use Rattle.std.proofs.lemmas.Bool.Decides.{nat_tests}
use Rattle.std.specs.List.{AllWithin, HoldsAt, IsAllAdjacentAnswer}
use Rattle.std.specs.Ordering.{is_le, is_some_and, nat_cmp}
use Rattle.sellers.specs.Steps.{Rising, no_step}
use Rattle.sellers.specs.declared.step.Step.{Step}

-- Where a step passes or fails and not both, every step passes or one fails.
pub decided : (Passes Fails : Step → Type 0) → ((s : Step) → Passes s → Fails s → ⊥) → (r : Bool) (steps : List Step) →
    MatchBool r (AllWithin Passes steps 0 (length steps)) ((k : ℕ) × (k < length steps) × HoldsAt Fails steps k) →
    MatchBool r ((k : ℕ) → k < length steps → Passes (get_or steps k no_step)) (((k : ℕ) → k < length steps → Passes (get_or steps k no_step)) → ⊥)
decided Passes Fails apart true steps each = λ k l. each k no_step (omega arith) l
decided Passes Fails apart false steps found = λ each. apart _ (each found.0 found.1) (found.2 no_step)

tested : (x y : ℕ) → (is_le (nat_cmp x y) ≡ true → x ≤ y) × (x ≤ y → is_le (nat_cmp x y) ≡ true)
tested x y = grind (arith, nat_tests)

-- The prices rise, or one is below the one before it.
pub rising_decided : (r : Bool) (steps : List Step) → IsAllAdjacentAnswer (λ s t b. b ≡ is_some_and is_le (Some (nat_cmp s.price t.price))) steps r →
    MatchBool r (Rising steps) (Rising steps → ⊥)
rising_decided true steps each = λ k l. (tested _ _).0 (sym (each k no_step l))
rising_decided false steps found = λ each. true≢false (sym ((tested _ _).1 (each found.0 found.1)) ∙ sym (found.2 no_step))
