-- The lines of a statement by their fields, each with the case in which it stands. Assumes nothing.
use Rattle.std.specs.Prelude.{ℕ, ◌*◌, cond, ◌||◌, List, [], ◌∷◌, ◌++◌, Some, None, Option, nat_lt}
use Rattle.std.specs.List.{flat_map}
use Rattle.statements.specs.Lines.{field, line, where_above}

-- A price in yuan per megawatt-hour, or a dash where there is none.
abbrev pub price_field : Option ℕ → List ℕ
price_field None = 32 ∷ 45 ∷ []
price_field (Some price) = field (10 * price)

-- C period round wanted brought price
abbrev pub C_line : (period round wanted brought : ℕ) (price : Option ℕ) → List ℕ
C_line p k wanted brought price = 67 ∷ (flat_map field (p ∷ k ∷ wanted ∷ brought ∷ []) ++ (price_field price ++ 10 ∷ []))

-- S period round seller call fee, for a call above 0
abbrev pub S_line : (period round seller call fee : ℕ) → List ℕ
S_line p k i call fee = where_above call (line 83 (p ∷ k ∷ i ∷ call ∷ fee ∷ []))

-- A period area charge users uncarried, for a charge above 0
abbrev pub A_line : (period area charge users uncarried : ℕ) → List ℕ
A_line p a charge users uncarried = where_above charge (line 65 (p ∷ a ∷ charge ∷ users ∷ uncarried ∷ []))

-- W period plant charge, for a charge above 0
abbrev pub W_line : (period plant charge : ℕ) → List ℕ
W_line p j charge = where_above charge (line 87 (p ∷ j ∷ charge ∷ []))

-- U period unit penalty refund, where either is above 0
abbrev pub U_line : (period unit penalty refund : ℕ) → List ℕ
U_line p i penalty refund = cond (nat_lt 0 penalty || nat_lt 0 refund) (line 85 (p ∷ i ∷ penalty ∷ refund ∷ [])) []

-- N period area uncarried-refund, where that is above 0
abbrev pub N_line : (period area uncarried : ℕ) → List ℕ
N_line p a uncarried = where_above uncarried (line 78 (p ∷ a ∷ uncarried ∷ []))

-- T fees charges penalties refunds
abbrev pub T_line : (fees charges penalties refunds : ℕ) → List ℕ
T_line fees charges penalties refunds = line 84 (fees ∷ charges ∷ penalties ∷ refunds ∷ [])
