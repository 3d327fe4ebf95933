-- The terms on which sellers take part in a round: who is enrolled as what, its offer, its base, and the curve that follows. Assumes nothing.
use Rattle.std.specs.Prelude.{ℕ, ◌-◌, Bool, true, false, cond, List, Some, None, Option, unwrap_or, ◌==◌}
use Rattle.sellers.specs.Steps.{pool_power}
use Rattle.sellers.specs.Tiers.{unit_power}
use Rattle.sellers.specs.declared.step.Step.{Step}

-- What a number stands for among the sellers: nobody, a unit or a pool, with its latest offer if it has one.
pub data Enrolment : Type 0 where
  nobody : Enrolment
  unit : (area capacity floor : ℕ) (prices : Option (List ℕ)) → Enrolment
  pool : (area capacity : ℕ) (steps : Option (List Step)) → Enrolment

-- Whether it is a unit.
abbrev pub is_unit : Enrolment → Bool
is_unit nobody = false
is_unit (unit a c f o) = true
is_unit (pool a c o) = false

-- Whether it is a pool.
abbrev pub is_pool : Enrolment → Bool
is_pool nobody = false
is_pool (unit a c f o) = false
is_pool (pool a c o) = true

-- Its capacity: the weight of a seller.
abbrev pub capacity_of : Enrolment → ℕ
capacity_of nobody = 0
capacity_of (unit a c f o) = c
capacity_of (pool a c o) = c

-- The same with another offer.
abbrev pub with_prices : List ℕ → Enrolment → Enrolment
with_prices ps nobody = nobody
with_prices ps (unit a c f o) = unit a c f (Some ps)
with_prices ps (pool a c o) = pool a c o

abbrev pub with_steps : List Step → Enrolment → Enrolment
with_steps ss nobody = nobody
with_steps ss (unit a c f o) = unit a c f o
with_steps ss (pool a c o) = pool a c (Some ss)

-- A number that may have been given, or what stands in its place.
abbrev pub or_else : Option ℕ → ℕ → ℕ
or_else = unwrap_or

-- The base of a unit in a round: as planned for it; if not, 0 day-ahead, and intraday the day-ahead base less the day-ahead call.
abbrev pub base_from : (plan : ℕ → ℕ → Option ℕ) (called : ℕ → ℕ) → ℕ → ℕ → ℕ
base_from plan called k i = or_else (plan k i) (cond (k == 0) 0 (or_else (plan 0 i) 0 - called i))

-- What a pool has been called for before a round: nothing day-ahead, intraday its day-ahead call.
abbrev pub called_before : (called : ℕ → ℕ) → ℕ → ℕ → ℕ
called_before called k i = cond (k == 0) 0 (called i)

-- The curve of a seller in a round: nothing without an offer, and nothing where its area wants some;
-- else that of its tiers from its base, or that of its steps less what it has been called for.
abbrev pub curve_from : Enrolment → (wants : ℕ → ℕ) (base called : ℕ) → ℕ → ℕ
curve_from nobody wants base called q = 0
curve_from (unit a c f None) wants base called q = 0
curve_from (unit a c f (Some ps)) wants base called q = cond (wants a == 0) (unit_power c f base ps q) 0
curve_from (pool a c None) wants base called q = 0
curve_from (pool a c (Some ss)) wants base called q = cond (wants a == 0) (pool_power ss q - called) 0
