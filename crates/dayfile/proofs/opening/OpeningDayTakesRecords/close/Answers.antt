use Rattle.std.proofs.Common.{Ok, sym, subst}
use Rattle.dayfile.specs.Files.{Takes, offers_close, opening, running, closes_offers}
use Rattle.dayfile.proofs.opening.OpeningDayTakesRecords.close.Goals as goal

pub returns : goal.returns
returns c = subst (λ b. Takes offers_close (opening c.args.self.book) (Ok tt) (running b)) (sym c.close_offers.ensures) closes_offers
