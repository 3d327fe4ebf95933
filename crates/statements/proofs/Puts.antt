-- One part put after another. Assumes nothing.
use Rattle.std.proofs.Common.{◌≡◌, ℕ, ◌+◌, ◌*◌, ◌≤◌, List, [], ◌++◌, length, sym, ap, ◌∙◌, subst, append_assoc, mul-one, mul-add, arith, length-append}
use Rattle.std.proofs.lemmas.List.{append-nil}
use Rattle.statements.specs.Lines.{each, Put}
use Rattle.statements.proofs.Groups.{each_none, each_more}

pub put_then : {v w : ℕ} {old s mid t new : List ℕ} → Put v old s mid → Put w mid t new → Put (v + w) old (s ++ t) new
put_then {old = old} {s = s} {mid = mid} {t = t} h k = record {
  short = omega (arith, h.short, k.short, length-append s t);
  written = λ fits.
      let all : length old + (length s + length t) ≤ 24950 = omega (arith, length-append s t) in
      let first : mid ≡ old ++ s = h.written (omega arith) in
      k.written (omega (arith, ap length first, length-append old s)) ∙ (ap (λ l. l ++ t) first ∙ append_assoc old s t);
}

-- What is put on an empty page that it fits is all that stands there.
pub alone : {most : ℕ} {old text new : List ℕ} → old ≡ [] → Put most old text new → most ≤ 24950 → new ≡ text
alone {text = text} empty h fits = h.written (omega (arith, h.short, ap length empty)) ∙ ap (λ l. l ++ text) empty

module _ (w : ℕ) (lines : ℕ → List ℕ) {old : List ℕ} where
  pub none_put : Put (w * 0) old (each lines 0) old
  none_put = subst (λ t. Put (w * 0) old t old) (each_none lines) (record { short = omega arith; written = λ _. sym (append-nil old) })

  pub one_put : (n : ℕ) {mid new : List ℕ} → Put (w * n) old (each lines n) mid → Put w mid (lines n) new → Put (w * (n + 1)) old (each lines (n + 1)) new
  one_put n {new = new} h k =
      let wider : w * n + w ≡ w * (n + 1) = sym (mul-add w n 1 ∙ ap (λ m. w * n + m) (mul-one w)) in
      subst (λ m. Put m old (each lines (n + 1)) new) wider (subst (λ t. Put (w * n + w) old t new) (sym (each_more lines n)) (put_then h k))
