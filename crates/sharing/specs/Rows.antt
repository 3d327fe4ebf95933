-- A row of parties, each known by its number, and what it weighs. Assumes nothing.
use Rattle.std.specs.Prelude.{ℕ}
use Rattle.sharing.specs.Places.{by_place}
use Rattle.sharing.specs.declared.row.Row.{Row}

-- What each party of a row weighs, by its number: 0 where nobody stands.
abbrev pub weights : {P : Type 0} → (P → ℕ) → Row P → ℕ → ℕ
weights heft row = by_place heft row.items.now
