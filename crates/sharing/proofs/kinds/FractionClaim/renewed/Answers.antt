use Rattle.std.proofs.Common.{◌≡◌, ℕ, ◌+◌, ◌<◌, ◌≤◌, cond, ltb, Some, None, Option, sym, ◌∙◌, ap, arith}
use native.Mathlib.Bridge.{le_prop}
use Rattle.std.specs.Bool.{then_some}
use Rattle.std.proofs.lemmas.Bool.{cases_lt, cond-true, cond-false, lt-ltb, le-ltb}
use Rattle.sharing.specs.declared.fraction.Fraction.{Fraction}
use Rattle.sharing.proofs.Sums.{cases}
use Rattle.sharing.proofs.kinds.FractionClaim.renewed.Goals as goal

module _ (had more w r n : ℕ) (p q : 0 < w) (s t : n < 64) where
  abbrev follower : Fraction
  follower = record { had = more; weight = w; room = r; number = n; heavy = p; numbered = s }

  abbrev next : Fraction
  next = record { had = had + 1; weight = w; room = r; number = n; heavy = q; numbered = t }

  -- a bound has one proof
  same : more ≡ had + 1 → ◌≡◌ {A = Option Fraction} (Some follower) (Some next)
  same e = λ i. Some record { had = e i; weight = w; room = r; number = n; heavy = le_prop p q i; numbered = le_prop s t i }

  follows : (o : Option Fraction) → o ≡ then_some (ltb more r) follower → (had + 1 < r → more ≡ had + 1) → (r ≤ had + 1 → r ≤ more) → o ≡ cond (ltb (had + 1) r) (Some next) None
  follows o is one stop = cases (cases_lt (had + 1) r)
      (λ l. let e = one l in is ∙ ap (λ b. then_some b follower) (lt-ltb more r (omega arith)) ∙ same e ∙ sym (cond-true _ _ _ (lt-ltb _ _ l)))
      (λ l. is ∙ ap (λ b. then_some b follower) (le-ltb more r (stop l)) ∙ sym (cond-false _ _ _ (le-ltb _ _ l)))

pub returns : goal.returns
returns c = follows _ _ _ _ _ _ _ _ _ _ c.then_some.ensures (λ l. omega (arith, c.saturating_add.ensures)) (λ l. omega (arith, c.saturating_add.ensures))
