-- The producers' part of a charge is no more than the charge.
use Rattle.std.proofs.Common.{ℕ, ◌≤◌, mul-le-mul_right, arith}
use Rattle.money.specs.Money.{producers_of}

pub part_le : (share charge : ℕ) → share ≤ 1000 → producers_of share charge ≤ charge
part_le share charge within = omega (arith, mul-le-mul_right charge within)
