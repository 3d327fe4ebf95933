-- What stands in a waiting list, and what it is to serve a claim from it. Assumes nothing.
use Rattle.std.specs.Prelude.{ℕ, ◌≤◌, Bool, List, ◌∷◌, ◌++◌, length, take, Option}
use Rattle.std.specs.List.Sorted.{IsPermutation}
use Rattle.std.specs.Option.{option_to_list}
use Rattle.sharing.specs.Order.{Queued}
use Rattle.sharing.specs.declared.list.WaitingList.{WaitingList}

-- The claims that wait.
abbrev pub waiting : {C : Type 0} {g : _} → WaitingList C g → List C
waiting w = take w.len w.claims.now

-- How many claims the list has room for.
abbrev pub room : {C : Type 0} {g : _} → WaitingList C g → ℕ
room w = length w.claims.now

-- The list is in order: what waits fits the lent slice, and stands as a heap. Every list is, by its type.
pub record Orderly {C : Type 0} {g : _} (ahead : C → C → Bool) (w : WaitingList C g) : Type 0 where
  pub fits : w.len ≤ length w.claims.now
  pub queued : Queued ahead (waiting w)

-- The claim c leaves the list xs; the one that follows it, if any, waits in its stead, and all others wait on.
pub record Serves {C : Type 0} (next : C → Option C) (c : C) (xs ys : List C) : Type 0 where
  pub rest : List C
  pub out : IsPermutation xs (c ∷ rest)
  pub back : IsPermutation (option_to_list (next c) ++ rest) ys
