-- The order of fractions is total and transitive. Assumes nothing.
use Rattle.std.specs.Prelude.{◌≡◌, ℕ, ◌*◌, ◌<◌, ◌≤◌, true, false, cond, ◌==◌, nat_lt}
use Rattle.std.proofs.Common.{ap, mul_right_comm, mul-le-mul_right, le_of_mul-le-mul_right, arith}
use Rattle.std.proofs.lemmas.Bool.Decides.{nat_tests}
use Rattle.sharing.specs.Order.{least_first}

not_before : (p q i j : ℕ) → cond (p == q) (nat_lt i j) (nat_lt p q) ≡ false → (q ≤ p) × (p ≡ q → j ≤ i)
not_before p q i j h = (grind (arith, nat_tests), λ e. grind (arith, nat_tests))

from_not_before : (p q i j : ℕ) → q ≤ p → (p ≡ q → j ≤ i) → cond (p == q) (nat_lt i j) (nat_lt p q) ≡ false
from_not_before p q i j l h = grind (arith, nat_tests)

pub one_way : (a u i b v j : ℕ) → least_first a u i b v j ≡ true → least_first b v j a u i ≡ false
one_way a u i b v j h = grind (arith, nat_tests)

pub chain : (a u i b v j c w k : ℕ) → 0 < u → 0 < v → 0 < w → least_first a u i b v j ≡ false → least_first b v j c w k ≡ false → least_first a u i c w k ≡ false
chain a u i b v j c w k pu pv pw h h' =
    let x = not_before (a * v) (b * u) i j h in
    let y = not_before (b * w) (c * v) j k h' in
    let x_w : b * u * w ≤ a * v * w = mul-le-mul_right w x.0 in
    let y_u : c * v * u ≤ b * w * u = mul-le-mul_right u y.0 in
    let e1 : c * u * v ≡ c * v * u = mul_right_comm c u v in
    let e2 : b * w * u ≡ b * u * w = mul_right_comm b w u in
    let e3 : a * v * w ≡ a * w * v = mul_right_comm a v w in
    let all : c * u * v ≤ a * w * v = omega arith in
    from_not_before (a * w) (c * u) i k (le_of_mul-le-mul_right {k = v} all pv)
    (λ e.
    let same : a * w * v ≡ c * u * v = ap (λ n. n * v) e in
    let back : a * v * w ≤ b * u * w = omega arith in
    let back' : b * w * u ≤ c * v * u = omega arith in
    let ab : a * v ≤ b * u = le_of_mul-le-mul_right {k = w} back pw in
    let bc : b * w ≤ c * v = le_of_mul-le-mul_right {k = u} back' pu in
    omega (arith, x.1 (omega arith), y.1 (omega arith)))
