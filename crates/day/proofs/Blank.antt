-- A blank period is read as one that is not there. Assumes nothing.
use Rattle.std.proofs.Common.{◌≡◌, ℕ, zero, suc, List, [], ◌∷◌, get_or, None, Some, Option, MatchOption, unwrap_or, refl}
use Rattle.day.specs.declared.book.Period.{Period}
use Rattle.day.specs.Alike.{ReadAlike}
use Rattle.day.specs.Reading.{no_round, no_period, blank_round, blank}
use Rattle.day.proofs.Writes.{each_same}

pub blank_alike : ReadAlike blank no_period
blank_alike = record {
  plans = λ t k i. each_same (λ r. get_or r.plans i None ≡ None) 2 blank_round no_round (each_same (λ n. n ≡ None) 64 None None refl refl i) refl k t;
  clearings = λ t k. each_same (λ r. r.cleared ≡ None) 2 blank_round no_round refl refl k t;
  units = λ t i. each_same (λ n. n ≡ None) 64 None None refl refl i t;
  plants = λ t j. each_same (λ n. n ≡ 0) 64 0 0 refl refl j t;
}

pub unwraps : {X : Type 0} (o : Option X) (r d : X) → MatchOption o (r ≡ d) (λ x. r ≡ x) → r ≡ unwrap_or o d
unwraps None r d h = h
unwraps (Some x) r d h = h

-- past the last period a blank one is read
pub read_past : (qs : List Period) (p : ℕ) → ReadAlike (get_or qs p blank) (get_or qs p no_period)
read_past [] p = blank_alike
read_past (q ∷ qs) zero = record { plans = refl; clearings = refl; units = refl; plants = refl }
read_past (q ∷ qs) (suc p) = read_past qs p
