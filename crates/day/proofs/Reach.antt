-- An accepted call takes a book that is reached to one that is reached, and of every reached book the law holds.
use mathlib.Core.Logic.{∥∥₁_map}
use Rattle.std.proofs.Common.{ℕ, [], ◌∷◌, Ok}
use Rattle.money.specs.declared.share.Share.{Share}
use Rattle.day.specs.declared.book.Book.{Book}
use Rattle.day.specs.Balance.{Balanced, Even}
use Rattle.day.specs.Calls.{Early, EarlyDoes, Late, Does}
use Rattle.day.specs.Reached.{Opened, Ran, Accounted}
use Rattle.day.specs.Reading.{opened}
use Rattle.day.specs.Runs.{opens, then_early, starts, then_late}
use Rattle.day.proofs.Law.{every_day}

pub new : (s : Share) → Opened (opened s)
new s = ∣ (s, [], opens) ∣₁

pub grow_early : (c : Early) {b b' : Book} → Opened b → EarlyDoes c b (Ok tt) b' → Opened b'
grow_early c h d = ∥∥₁_map h (λ p. (p.0, (c, Ok tt) ∷ p.1, then_early c (Ok tt) p.2 d))

pub begin : {b : Book} → Opened b → Ran b
begin h = ∥∥₁_map h (λ p. (p.0, p.1, [], starts p.2))

pub grow : (n : ℕ) (c : Late) {b b' : Book} → Ran b → Does n c b (Ok tt) b' → Ran b'
grow n c h d = ∥∥₁_map h (λ p. (p.0, p.1, ((n, c), Ok tt) ∷ p.2, then_late n c (Ok tt) p.3 d))

pub accounted : ((b : Book) → Even b → Balanced b) → {b : Book} → Ran b → Accounted b
accounted balances {b} h = ∥∥₁_map h (λ p. (p.0, p.1, p.2, p.3, every_day balances p.0 p.1 p.2 b p.3))
