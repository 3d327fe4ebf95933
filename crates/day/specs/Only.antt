-- That a day is settled by its calls: what two days have in common, and that equal calls leave no other answer. Assumes nothing.
use Rattle.std.specs.Prelude.{◌≡◌, ℕ, ◌<◌, List, [], ◌∷◌, is_some, Some}
use Rattle.money.specs.declared.share.Share.{Share}
use Rattle.day.specs.declared.book.Book.{Book}
use Rattle.day.specs.Bills as bill
use Rattle.day.specs.Bills.{call_of, price_of, wanted_of, brought_of, received_of}
use Rattle.day.specs.Calls.{Answer, Early, Late}
use Rattle.day.specs.Reading.{seller_at, plant_at, period_at, want_at, plan_at, unit_read, plant_read, cleared_at}
use Rattle.day.specs.Runs.{Running}

-- The calls of a list of calls with answers.
abbrev pub asked : {C : Type 0} → List (C × Answer) → List C
asked [] = []
asked (e ∷ es) = e.0 ∷ asked es

-- Two days of which the same is read, and whose plants belong to areas there are: the share, the sellers and plants, the wants, plans and readings, and of each round whether it is cleared and its figures: what was brought, the price, the calls and what each of the eight areas received.
pub record SameDay (b b' : Book) : Type 0 where
  pub share : b.share.thousandths ≡ b'.share.thousandths
  pub sellers : (i : ℕ) → seller_at b i ≡ seller_at b' i
  pub plants : (j : ℕ) → plant_at b j ≡ plant_at b' j
  pub placed : (j a : ℕ) → plant_at b j ≡ Some a → a < 8
  pub wants : (p k a : ℕ) → want_at (period_at b p) k a ≡ want_at (period_at b' p) k a
  pub plans : (p k i : ℕ) → plan_at (period_at b p) k i ≡ plan_at (period_at b' p) k i
  pub unit_reads : (p i : ℕ) → unit_read (period_at b p) i ≡ unit_read (period_at b' p) i
  pub plant_reads : (p j : ℕ) → plant_read (period_at b p) j ≡ plant_read (period_at b' p) j
  pub cleared : (p k : ℕ) → is_some (cleared_at (period_at b p) k) ≡ is_some (cleared_at (period_at b' p) k)
  pub brought : (p k : ℕ) → brought_of b k p ≡ brought_of b' k p
  pub prices : (p k : ℕ) → price_of b k p ≡ price_of b' k p
  pub calls : (p k i : ℕ) → call_of b k p i ≡ call_of b' k p i
  pub received : (p k a : ℕ) → a < 8 → received_of b k p a ≡ received_of b' k p a

-- Two days opened with the same share and given the same calls in the same order have had the same answers, and the same is read of them.
abbrev pub OnlyDay : Type 0
OnlyDay =
    (s : Share) (es es' : List (Early × Answer)) (ls ls' : List ((ℕ × Late) × Answer)) (b b' : Book) → Running s es ls b → Running s es' ls' b' →
    asked es ≡ asked es' → asked ls ≡ asked ls' → (es ≡ es') × (ls ≡ ls') × SameDay b b'

-- Every question to two closed days has the same answer, those on an area for each of the eight.
pub record SameBill (b b' : Book) : Type 0 where
  pub calls : (p k i : ℕ) → call_of b k p i ≡ call_of b' k p i
  pub prices : (p k : ℕ) → price_of b k p ≡ price_of b' k p
  pub wanted : (p k : ℕ) → wanted_of b k p ≡ wanted_of b' k p
  pub brought : (p k : ℕ) → brought_of b k p ≡ brought_of b' k p
  pub received : (p k a : ℕ) → a < 8 → received_of b k p a ≡ received_of b' k p a
  pub fee : (p k i : ℕ) → bill.fee b k p i ≡ bill.fee b' k p i
  pub charge : (p a : ℕ) → a < 8 → bill.charge b p a ≡ bill.charge b' p a
  pub producers : (p a : ℕ) → a < 8 → bill.producers b p a ≡ bill.producers b' p a
  pub users : (p a : ℕ) → a < 8 → bill.users b p a ≡ bill.users b' p a
  pub plant_charge : (p j : ℕ) → bill.plant_charge b p j ≡ bill.plant_charge b' p j
  pub uncarried_charge : (p a : ℕ) → a < 8 → bill.uncarried_charge b p a ≡ bill.uncarried_charge b' p a
  pub deviation : (p i : ℕ) → bill.deviation b p i ≡ bill.deviation b' p i
  pub penalty : (p i : ℕ) → bill.penalty b p i ≡ bill.penalty b' p i
  pub refund : (p i : ℕ) → bill.refund b p i ≡ bill.refund b' p i
  pub uncarried_refund : (p a : ℕ) → bill.uncarried_refund b p a ≡ bill.uncarried_refund b' p a
  pub fees : bill.fees b ≡ bill.fees b'
  pub charges : bill.charges b ≡ bill.charges b'
  pub penalties : bill.penalties b ≡ bill.penalties b'
  pub refunds : bill.refunds b ≡ bill.refunds b'

-- Days of which the same is read answer every question alike.
abbrev pub SameBills : Type 0
SameBills = (b b' : Book) → SameDay b b' → SameBill b b'
