-- Defines the money of one period: fees, parts of a charge, deviations and penalties.
use Rattle.std.specs.Prelude.{ℕ, ◌+◌, ◌-◌, ◌*◌, ◌/◌, Bool, cond, ℤ, pos, ◌-ℤ◌, nat_lt}

-- A call earns its price for each of its tenths, 25 kilowatt-hours apiece.
abbrev pub fee_of : ℕ → ℕ → ℕ
fee_of price call = 25 * price * call

-- The producers' part of a charge: so many thousandths of it, rounded down.
abbrev pub producers_of : ℕ → ℕ → ℕ
producers_of share charge = share * charge / 1000

-- The users' part of a charge: what the producers' part leaves of it.
abbrev pub users_of : ℕ → ℕ → ℕ
users_of share charge = charge - producers_of share charge

-- The deviation: the reading less 25 kilowatt-hours for each tenth of the plan, with its sign.
abbrev pub deviation_of : ℕ → ℕ → ℤ
deviation_of reading plan = pos reading -ℤ pos (25 * plan)

-- The size of the deviation: of the two differences, each stopped at 0, the one that is not 0.
abbrev pub size_of : ℕ → ℕ → ℕ
size_of reading plan = (reading - 25 * plan) + (25 * plan - reading)

-- A unit that was called pays where twice the size of its deviation exceeds the plan: 30 times the size less 15 times the plan.
abbrev pub penalty_of : Bool → ℕ → ℕ → ℕ
penalty_of called reading plan =
    cond called (cond (nat_lt plan (2 * size_of reading plan)) (30 * size_of reading plan - 15 * plan) 0) 0
