-- What stands at a place of a file, and what comes of it.
use Rattle.std.proofs.Common.{◌≡◌, ℕ, ◌+◌, ◌<◌, ◌≤◌, true, false, List, length, drop, Some, Ok, Err, Option, Result, MatchResult, IsErrAnd, sym, refl, subst, subst₂, ap, ◌∙◌, arith, length-drop}
use Rattle.std.proofs.lemmas.Result.{err_from_is_err_and}
use Rattle.records.specs.declared.kind.Stage.{Stage}
use Rattle.records.specs.declared.kind.Stage.TheVariants as s
use Rattle.records.specs.declared.record.Record.{Record}
use Rattle.records.specs.declared.fault.RecordFault.{RecordFault}
use Rattle.records.specs.Marks.{stage_is}
use Rattle.records.specs.Records.{Item, Says, shown, said, size}
use Rattle.records.proofs.Within.{within}
use Rattle.day.specs.declared.faults.Fault.{Fault}
use Rattle.dayfile.specs.declared.fault.FileFault.{FileFault}
use Rattle.dayfile.specs.declared.fault.Why.{Why}
use Rattle.dayfile.specs.declared.fault.Why.TheVariants as w
use Rattle.dayfile.specs.Files.{State, stage_of, call_of, Takes, Taken, then_record, unread, by_day, Stops, ends_early, refused, ReadFrom}
use Rattle.dayfile.specs.Parts.{Stands, Unread, ended, unreadable, ToClosing}
use Rattle.dayfile.proofs.Turns.{untouched, goes_on}

-- What the reader of records answers, with the place of a refusal.
pub told : (stage : Stage) (bs : List ℕ) (at : ℕ) (r : Result Record RecordFault) (out : Result Record FileFault) (Q : RecordFault → FileFault → Type 0) → MatchResult r (λ x. out ≡ Ok x) (λ e. IsErrAnd out (Q e)) → ((e : RecordFault) (y : FileFault) → Q e y → (y.place ≡ at) × (y.why ≡ w.Record e)) → at < length bs → Says (said stage (drop at bs)) r → MatchResult out (λ x. Stands stage bs at (shown x)) (Unread stage bs at)
told stage bs at (Ok x) out Q e facts h says = rw e (record { before = h; says = says })
told stage bs at (Err f) out Q e facts h says =
    let p = err_from_is_err_and out e in
    let q = facts f p.0 p.2 in
    rw p.1 (unreadable h says q.0 q.1)

not_so : false ≡ true → ⊥
not_so e = let z : ◌≡◌ {A = ℕ} 0 1 = cc in omega arith

module _ {bs : List ℕ} {at : ℕ} {f : FileFault} where
  -- The refusal f stands for a place and a reason.
  stops_so : {st : State} {why : Why} → f.place ≡ at → f.why ≡ why → Stops bs at st (Some (record { place = at; why = why })) → Stops bs at st (Some f)
  stops_so {st = st} {why = why} p q stops = subst₂ (λ x y. Stops bs at st (Some (record { place = x; why = y }))) (sym p) (sym q) stops

  -- No record stands at the place where the day is to take one.
  pub unread_stops : {stage : Stage} {st : State} → stage_of st ≡ stage → stage_is stage s.Closed ≡ false → Unread stage bs at f → Stops bs at st (Some f)
  unread_stops {st = st} e not_closed (ended h p q) = stops_so p q (ends_early h (λ same. not_so (sym not_closed ∙ ap (λ x. stage_is x s.Closed) (sym e ∙ same))))
  unread_stops {st = st} e not_closed (unreadable {fault = fault} h says p q) = stops_so p q (refused h (unread (subst (λ x. said x (drop at bs) ≡ Err fault) (sym e) says)))

  -- Something stands there that no record can be read from.
  pub unreadable_stops : {stage : Stage} {st : State} → stage_of st ≡ stage → (at ≡ length bs → ⊥) → Unread stage bs at f → Stops bs at st (Some f)
  unreadable_stops {st = st} e more (ended h p q) = absurd (more h)
  unreadable_stops {st = st} e more (unreadable {fault = fault} h says p q) = stops_so p q (refused h (unread (subst (λ x. said x (drop at bs) ≡ Err fault) (sym e) says)))

  -- The day refuses the record, and stands as it stood.
  pub denied : {stage : Stage} {st st' : State} {x : Item} {fault : Fault} → stage_of st ≡ stage → Stands stage bs at x → Takes (call_of x) st (Err fault) st' → f.place ≡ at → f.why ≡ w.Day fault → Stops bs at st (Some f) × (st' ≡ st)
  denied {st = st} {x = x} {fault = fault} e here takes p q =
      (stops_so p q (refused here.before (by_day x (subst (λ y. said y (drop at bs) ≡ Ok x) (sym e) here.says) (subst (Takes (call_of x) st (Err fault)) (untouched takes) takes))), untouched takes)

-- One more record is taken.
pub one_more : {bs : List ℕ} {from : ℕ} {first : State} {at : ℕ} {stage : Stage} {st st' : State} {x : Item} → Taken bs from first at st → stage_of st ≡ stage → Stands stage bs at x → Takes (call_of x) st (Ok tt) st' → Taken bs from first (at + size x) st'
one_more {bs = bs} {at = at} {x = x} run e here takes =
    then_record run here.before (record { item = x; stands = subst (λ y. said y (drop at bs) ≡ Ok x) (sym e) here.says; taken = takes; long = refl })

-- A record that stands at a place lies within the bytes.
pub fits : {stage : Stage} {bs : List ℕ} {at : ℕ} {x : Item} → Stands stage bs at x → at + size x ≤ length bs
fits {stage = stage} {bs = bs} {at = at} {x = x} here =
    let before = here.before in
    omega (arith, within stage (drop at bs) x here.says, length-drop at bs)

-- The day that the record closing its stage leads to.
pub stage_closed : {stage : Stage} {x : Item} {bs : List ℕ} {from : ℕ} {first last : State} {rest : List ℕ} {end : ℕ} {next : State} → ToClosing stage x bs from first last rest end → stage_of last ≡ stage → Takes (call_of x) last (Ok tt) next → Taken bs from first end next × (rest ≡ bs)
stage_closed {bs = bs} {from = from} {first = first} {next = next} t e takes =
    (subst (λ n. Taken bs from first n next) (sym t.past) (one_more t.taken e t.stands takes), t.same)

-- What a `?` hands on.
pub handed_on : {T E : Type 0} (P : T → Type 0) (Q : E → Type 0) (f : E) (r : Result T E) → IsErrAnd r (λ y. y ≡ f) → Q f → MatchResult r P Q
handed_on P Q f (Ok x) h q = absurd h
handed_on P Q f (Err y) h q = subst Q (sym h) q

ok_err : {T D : Type 0} {x : T} {d : D} → ◌≡◌ {A = Result T D} (Ok x) (Err d) → ⊥
ok_err e = let z : ◌≡◌ {A = ℕ} 0 1 = cc in omega arith

err_same : {T D : Type 0} {x y : D} → ◌≡◌ {A = Result T D} (Err x) (Err y) → x ≡ y
err_same e = cc

-- What `map_err` was given, by what it answers.
module _ {T E D : Type 0} (r : Result T E) (out : Result T D) (Q : E → D → Type 0) (cases : MatchResult r (λ x. out ≡ Ok x) (λ e. IsErrAnd out (Q e))) where
  pub mapped_ok : (x : T) → out ≡ Ok x → r ≡ Ok x
  mapped_ok x e = ok_of r cases
    where
      ok_of : (s : Result T E) → MatchResult s (λ y. out ≡ Ok y) (λ f. IsErrAnd out (Q f)) → s ≡ Ok x
      ok_of (Ok y) h = let z : ◌≡◌ {A = Result T D} (Ok y) (Ok x) = sym h ∙ e in cc
      ok_of (Err f) h = let p = err_from_is_err_and out h in let z : ◌≡◌ {A = Result T D} (Err p.0) (Ok x) = sym p.1 ∙ e in cc

  pub mapped_err : (P : E → D → Type 0) → ((e : E) (y : D) → Q e y → P e y) → (d : D) → out ≡ Err d → (e : E) × (r ≡ Err e) × P e d
  mapped_err P tells d e = err_of r cases refl
    where
      err_of : (s : Result T E) → MatchResult s (λ y. out ≡ Ok y) (λ f. IsErrAnd out (Q f)) → r ≡ s → (f : E) × (r ≡ Err f) × P f d
      err_of (Ok y) h same = let z : ◌≡◌ {A = Result T D} (Ok y) (Err d) = sym h ∙ e in absurd (ok_err z)
      err_of (Err f) h same =
          let p = err_from_is_err_and out h in
          let z : ◌≡◌ {A = Result T D} (Err p.0) (Err d) = sym p.1 ∙ e in
          (f, same, tells f d (subst (Q f) (err_same z) p.2))

  -- What is known of the answer that `map_err` was given.
  pub ok_holds : (F : T → Type 0) (G : E → Type 0) → MatchResult r F G → (x : T) → out ≡ Ok x → F x
  ok_holds F G h x e = subst (λ s. MatchResult s F G) (mapped_ok x e) h

  pub err_holds : (F : T → Type 0) (G : E → Type 0) → MatchResult r F G → (P : E → D → Type 0) → ((e : E) (y : D) → Q e y → P e y) → (d : D) → out ≡ Err d → (e : E) × G e × P e d
  err_holds F G h P tells d e = let p = mapped_err P tells d e in (p.0, subst (λ s. MatchResult s F G) p.1 h, p.2)

-- One reading after another, each of the same bytes.
module _ {bs now : List ℕ} {from : ℕ} {first : State} {at : ℕ} {st : State} (run : Taken bs from first at st) (same : now ≡ bs) where
  pub then_read : {refusal : Option FileFault} {last : State} → ReadFrom now at st refusal last → ReadFrom bs from first refusal last
  then_read {refusal = refusal} {last = last} more = goes_on run (subst (λ b. ReadFrom b at st refusal last) same more)

  pub then_stops : {refusal : Option FileFault} → Stops now at st refusal → ReadFrom bs from first refusal st
  then_stops {refusal = refusal} stops = record { place = at; taken = run; stops = subst (λ b. Stops b at st refusal) same stops }
