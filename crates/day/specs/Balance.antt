-- What balances over a day, and whom a reading concerns. Assumes nothing.
use Rattle.std.specs.Prelude.{◌≡◌, ℕ, ◌<◌, Some}
use Rattle.sharing.specs.Places.{upto, total}
use Rattle.day.specs.declared.book.Book.{Book}
use Rattle.day.specs.Reading.{seller_at, plant_at, period_at, plant_read, cleared_at}
use Rattle.day.specs.Bills.{call_of, received_of, unit_area, plant_charge, fees, charges, penalties, refunds}

-- Fees equal charges and penalties equal refunds, to the fen.
abbrev pub Balanced : Book → Type 0
Balanced b = (fees b ≡ charges b) × (penalties b ≡ refunds b)

-- What makes it so: in every round the areas receive what is called, and units and plants belong to areas there are.
pub record Even (b : Book) : Type 0 where
  pub received : (p k : ℕ) → total (call_of b k p) ≡ upto (received_of b k p) 8
  pub units : (i a : ℕ) → unit_area (seller_at b i) ≡ Some a → a < 8
  pub plants : (j a : ℕ) → plant_at b j ≡ Some a → a < 8

-- Two days that agree but for the readings of other areas' units and plants: the same share and enrolments, the same clearings,
-- and the same readings of the plants of a.
pub record AlikeFor (a : ℕ) (b b' : Book) : Type 0 where
  pub share : b.share.thousandths ≡ b'.share.thousandths
  pub plants : (j : ℕ) → plant_at b j ≡ plant_at b' j
  pub rounds : (p k : ℕ) → cleared_at (period_at b p) k ≡ cleared_at (period_at b' p) k
  pub readings : (p j : ℕ) → plant_at b j ≡ Some a → plant_read (period_at b p) j ≡ plant_read (period_at b' p) j

-- The charges of an area's plants hang on no other area's readings.
abbrev pub Isolated : Type 0
Isolated = (a : ℕ) (b b' : Book) → AlikeFor a b b' → (p j : ℕ) → j < 64 → plant_at b j ≡ Some a → plant_charge b p j ≡ plant_charge b' p j
