-- Tenths are handed out by the fraction rule in just one way. Assumes nothing.
use Rattle.std.proofs.Common.{◌≡◌, ℕ, ◌+◌, ◌<◌, refl, arith}
use Rattle.std.proofs.lemmas.Bool.{both_ways}
use Rattle.sharing.specs.Fractions.{one_way}
use Rattle.sharing.specs.Places.{total}
use Rattle.sharing.specs.Tenths.{ByFraction}
use Rattle.sharing.proofs.Sums.{only_one}

-- Two handings of one total among parties with equal weights and rooms are the same.
pub alike_handing : (weights weights' rooms rooms' given given' : ℕ → ℕ) →
    ((i : ℕ) → i < 64 → weights i ≡ weights' i) → ((i : ℕ) → i < 64 → rooms i ≡ rooms' i) →
    ByFraction weights rooms given → ByFraction weights' rooms' given' → total given ≡ total given' → (i : ℕ) → i < 64 → given i ≡ given' i
alike_handing weights weights' rooms rooms' given given' weigh fit one two sums = only_one given given' 64 sums
    (λ a b la lb more less.
    let there = one.order a b (given a) (given b + 1) (omega arith) (omega arith) (omega arith) (omega (arith, two.within b, fit b lb)) in
    let back = two.order b a (given b + 1) (given a) (omega arith) (omega arith) more (omega (arith, one.within a, fit a la)) in
    both_ways _ (one_way (given a) (weights a) a (given b + 1) (weights b) b there) (rw (weigh a la, weigh b lb) back))

pub one_handing : (weights rooms given given' : ℕ → ℕ) → ByFraction weights rooms given → ByFraction weights rooms given' →
    total given ≡ total given' → (i : ℕ) → i < 64 → given i ≡ given' i
one_handing weights rooms given given' = alike_handing weights weights rooms rooms given given' (λ i l. refl) (λ i l. refl)
