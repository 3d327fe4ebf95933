-- The steps that bytes show, chunk by chunk.
use Rattle.std.proofs.Common.{◌≡◌, ℕ, zero, suc, List, [], ◌∷◌, take, drop, map, refl, ap, ◌∙◌}
use Rattle.std.specs.Simd.{first_chunks}
use Rattle.dayfile.specs.Files.{step_at, steps_in}

first_step : (bs : List ℕ) → step_at (take 3 bs) 0 ≡ step_at bs 0
first_step [] = refl
first_step (a ∷ []) = refl
first_step (a ∷ b ∷ []) = refl
first_step (a ∷ b ∷ c ∷ bs) = refl

pub chunked : (n : ℕ) (bs : List ℕ) → map (λ t. step_at t 0) (first_chunks 3 n bs) ≡ steps_in n bs
chunked zero bs = refl
chunked (suc n) bs =
    ap (λ x. x ∷ map (λ t. step_at t 0) (first_chunks 3 n (drop 3 bs))) (first_step bs) ∙ ap (λ l. step_at bs 0 ∷ l) (chunked n (drop 3 bs))
