-- Every file's day is a run of its records' calls.
use Rattle.std.proofs.Common.{ℕ, List, [], ◌∷◌, Ok, sym, refl, ap, subst}
use Rattle.money.specs.declared.share.Share.{Share}
use Rattle.day.specs.declared.book.Book.{Book}
use Rattle.day.specs.Runs as runs
use Rattle.day.specs.Runs.{Running}
use Rattle.day.proofs.Balances.{balanced}
use Rattle.day.proofs.Law.{every_day}
use Rattle.dayfile.specs.Account.{calls_in, earlies, lates, OpenedBy, Ran, OfCalls, FileLaw}
use Rattle.dayfile.specs.Files.{State, unopened, Call, opening_with, early, offers_close, late, day_closes, Takes, opens, on_opening, closes_offers, on_running, closes_day, Taken, none, then_record}

ran : (cs : List Call) (b : Book) (s : Share) (more : List Call) → OpenedBy cs s more → Running s (earlies more) (lates more) b → Ran cs b
ran cs b s more e run = (s, more, e, run, every_day balanced s (earlies more) (lates more) b run)

by_call : {c : Call} {st st' : State} (cs : List Call) → Takes c st (Ok tt) st' → OfCalls cs st → OfCalls (c ∷ cs) st'
by_call cs (opens s) e = (s, [], ap (λ l. opening_with s.thousandths ∷ l) e, runs.opens, refl)
by_call cs (on_opening {c = c} h) was = (was.0, early c ∷ was.1, ap (λ l. early c ∷ l) was.2, runs.then_early c (Ok tt) was.3 h, was.4)
by_call cs (closes_offers {b = b}) was =
    ran (offers_close ∷ cs) b was.0 (offers_close ∷ was.1) (ap (λ l. offers_close ∷ l) was.2) (subst (λ l. Running was.0 (earlies was.1) l b) (sym was.4) (runs.starts was.3))
by_call cs (on_running {p = p} {c = c} {b' = b'} h) was =
    ran (late p c ∷ cs) b' was.0 (late p c ∷ was.1) (ap (λ l. late p c ∷ l) was.2) (runs.then_late p c (Ok tt) was.3 h)
by_call cs (closes_day {b = b}) was =
    ran (day_closes ∷ cs) b was.0 (day_closes ∷ was.1) (ap (λ l. day_closes ∷ l) was.2) was.3

of_calls : {bs : List ℕ} {at : ℕ} {st : State} (run : Taken bs 0 unopened at st) → OfCalls (calls_in run) st
of_calls none = refl
of_calls (then_record run h next) = by_call (calls_in run) next.taken (of_calls run)

pub file_law : FileLaw
file_law bs refusal last r = of_calls r.taken
