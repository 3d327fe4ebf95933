-- The two kinds of claim: their orders, and what waits on after one is served. Assumes nothing.
use Rattle.std.specs.Prelude.{ℕ, ◌+◌, Bool, cond, Some, None, Option, nat_lt}
use Rattle.sharing.specs.Order.{most_first, least_first}
use Rattle.sharing.specs.declared.fraction.Fraction.{Fraction}
use Rattle.sharing.specs.declared.remainder.Remainder.{Remainder}

-- To an odd tenth or fen: the greatest remainder first, and of equals the lower number.
abbrev pub by_remainder : Remainder → Remainder → Bool
by_remainder x y = most_first x.part x.number y.part y.number

-- To the next tenth: the least (had + 1) / weight first, and of equals the lower number.
abbrev pub by_fraction : Fraction → Fraction → Bool
by_fraction x y = least_first (x.had + 1) x.weight x.number (y.had + 1) y.weight y.number

-- The same claim with n tenths more.
abbrev pub had_more : ℕ → Fraction → Fraction
had_more n x = record { had = x.had + n; weight = x.weight; room = x.room; number = x.number; heavy = x.heavy; numbered = x.numbered }

-- While there is room, a claim to one tenth more waits on.
abbrev pub next_tenth : Fraction → Option Fraction
next_tenth x = cond (nat_lt (x.had + 1) x.room) (Some (had_more 1 x)) None
