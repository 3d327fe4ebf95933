-- Whole days: any calls, in any number and order, each finding the book as the one before left it. Assumes nothing.
use Rattle.std.specs.Prelude.{ℕ, List, [], ◌∷◌}
use Rattle.money.specs.declared.share.Share.{Share}
use Rattle.day.specs.declared.book.Book.{Book}
use Rattle.day.specs.Calls.{Answer, Early, EarlyDoes, Late, Does}
use Rattle.day.specs.Reading.{opened}

-- The day opened with the share s and given these calls, latest first, with these answers, has this book.
pub data Opening (s : Share) : List (Early × Answer) → Book → Type 0 where
  opens : Opening s [] (opened s)
  then_early : {es : List (Early × Answer)} {b b' : Book} (c : Early) (r : Answer) → Opening s es b → EarlyDoes c b r b' → Opening s ((c, r) ∷ es) b'

-- And given these for the periods named, after its offers were closed.
pub data Running (s : Share) (es : List (Early × Answer)) : List ((ℕ × Late) × Answer) → Book → Type 0 where
  starts : {b : Book} → Opening s es b → Running s es [] b
  then_late : {ls : List ((ℕ × Late) × Answer)} {b b' : Book} (p : ℕ) (c : Late) (r : Answer) → Running s es ls b → Does p c b r b' → Running s es (((p, c), r) ∷ ls) b'

-- The second of two running days comes from the first by some calls, whatever their answers.
pub data Later (b : Book) : Book → Type 0 where
  as_it_is : Later b b
  after_late : {n m : Book} (p : ℕ) (c : Late) (r : Answer) → Later b n → Does p c n r m → Later b m
