-- A book is sound in one way only, so what is reached by calls not named is sound.
use mathlib.Core.HLevel.{Unit-prop}
use mathlib.Core.Logic.{∥∥₁_elim}
use Rattle.std.proofs.Common.{ℕ, get_or, Some, None, Option}
use native.Mathlib.Bridge.{le_prop}
use Rattle.day.specs.declared.book.Book.{Book}
use Rattle.day.specs.declared.book.Enrolled.{Enrolled}
use Rattle.day.specs.declared.book.Role.{Role}
use Rattle.day.specs.declared.book.Role.TheVariants.{Thermal, Pooled}
use Rattle.day.specs.Reached.{Ran}
use Rattle.day.specs.Reading.{period_at, plan_at}
use Rattle.day.proofs.Soundness.{SoundRole, SoundEntry, AtMost, Sound, sound}

role_prop : (c : ℕ) (r : Role) → IsProp (SoundRole c r)
role_prop c (Thermal f o) = le_prop
role_prop c (Pooled None) = Unit-prop
role_prop c (Pooled (Some o)) = le_prop

entry_prop : (o : Option Enrolled) → IsProp (SoundEntry o)
entry_prop None = Unit-prop
entry_prop (Some x) = λ h g t. (le_prop h.0 g.0 t, role_prop x.capacity.megawatts x.role h.1 g.1 t)

most_prop : (n : ℕ) (o : Option ℕ) → IsProp (AtMost n o)
most_prop n None = Unit-prop
most_prop n (Some m) = le_prop

sound_prop : (b : Book) → IsProp (Sound b)
sound_prop b h g t = (
  λ i. entry_prop (get_or b.sellers i None) (h.0 i) (g.0 i) t,
  λ j. most_prop 7 (get_or b.plants j None) (h.1 j) (g.1 j) t,
  λ p k i. most_prop 20000 (plan_at (period_at b p) k i) (h.2 p k i) (g.2 p k i) t,
)

pub ran_sound : {b : Book} → Ran b → Sound b
ran_sound {b} h = ∥∥₁_elim h (sound_prop b) (λ p. sound p.0 p.3)
