-- The law over all runs. Assumes nothing.
use Rattle.std.specs.Prelude.{◌≡◌, ℕ, ◌<◌, true, false, List, ◌∷◌, ◌++◌, is_some, None}
use Rattle.money.specs.declared.share.Share.{Share}
use Rattle.day.specs.declared.book.Book.{Book}
use Rattle.day.specs.Balance.{Balanced}
use Rattle.day.specs.Bills.{call_of, price_of, brought_of, received_of}
use Rattle.day.specs.Calls.{Answer, Early, Late, clear}
use Rattle.day.specs.History.{accepted, enrolment, plant_in, on, latest_want, latest_plan, latest_unit_read, latest_plant_read, was_cleared, curve_given}
use Rattle.day.specs.Reading.{seller_at, plant_at, period_at, cleared_at, want_at, plan_at, unit_read, plant_read}
use Rattle.day.specs.Rounds.{Stands}
use Rattle.day.specs.Runs.{Running, Later}
use Rattle.day.specs.Terms.{capacity_of}

-- Of any accepted clearing: what the day answers of that round stands on the sellers and wants that the calls accepted before it give. Of a round with no accepted clearing it answers 0, and no price.
abbrev pub Rounds : List (Early × Answer) → List ((ℕ × Late) × Answer) → Book → Type 0
Rounds es ls b =
    ((p k : ℕ) (after before : List (ℕ × Late)) → accepted ls ≡ after ++ ((p, clear k) ∷ before)
    → Stands (λ i. capacity_of (enrolment (accepted es) i)) (curve_given (accepted es) (on p before) (call_of b 0 p) k) (latest_want (on p before) k)
    (brought_of b k p) (price_of b k p) (call_of b k p) (received_of b k p))
    × ((p k : ℕ) → was_cleared (on p (accepted ls)) k ≡ false →
    (brought_of b k p ≡ 0) × (price_of b k p ≡ None) × ((i : ℕ) → call_of b k p i ≡ 0) × ((a : ℕ) → received_of b k p a ≡ 0))

-- The share that the day's bills go by is that of its opening; who is enrolled as what, the wants, the plans and the readings are the latest accepted ones.
abbrev pub Latest : Share → List (Early × Answer) → List ((ℕ × Late) × Answer) → Book → Type 0
Latest s es ls b =
    (b.share ≡ s) × ((i : ℕ) → seller_at b i ≡ enrolment (accepted es) i) × ((j : ℕ) → plant_at b j ≡ plant_in (accepted es) j)
    × ((p k a : ℕ) → p < 96 → want_at (period_at b p) k a ≡ latest_want (on p (accepted ls)) k a)
    × ((p k i : ℕ) → p < 96 → plan_at (period_at b p) k i ≡ latest_plan (on p (accepted ls)) k i)
    × ((p i : ℕ) → p < 96 → unit_read (period_at b p) i ≡ latest_unit_read (on p (accepted ls)) i)
    × ((p j : ℕ) → p < 96 → plant_read (period_at b p) j ≡ latest_plant_read (on p (accepted ls)) j)

-- The law, of the calls that a day had and of what it answers.
abbrev pub Law : Share → List (Early × Answer) → List ((ℕ × Late) × Answer) → Book → Type 0
Law s es ls b = Rounds es ls b × Latest s es ls b × Balanced b

-- No number or arrangement of calls, accepted or refused, prevents it.
abbrev pub EveryDay : Type 0
EveryDay = (s : Share) (es : List (Early × Answer)) (ls : List ((ℕ × Late) × Answer)) (b : Book) → Running s es ls b → Law s es ls b

-- A round of a period has in both days the same clearing, wants and plans.
pub record Same (b b' : Book) (p k : ℕ) : Type 0 where
  pub cleared : cleared_at (period_at b' p) k ≡ cleared_at (period_at b p) k
  pub wants : (a : ℕ) → want_at (period_at b' p) k a ≡ want_at (period_at b p) k a
  pub plans : (i : ℕ) → plan_at (period_at b' p) k i ≡ plan_at (period_at b p) k i

-- In every later day, whatever calls come between, every seller is as it was, and so is every round that was cleared.
abbrev pub Kept : Type 0
Kept =
    (b b' : Book) → Later b b' →
    ((i : ℕ) → seller_at b' i ≡ seller_at b i) × ((p k : ℕ) → is_some (cleared_at (period_at b p) k) ≡ true → Same b b' p k)
