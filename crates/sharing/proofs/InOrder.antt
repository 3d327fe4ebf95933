-- Every waiting list is in order. Assumes nothing.
use Rattle.sharing.specs.Waiting.{Orderly}
use Rattle.sharing.specs.declared.list.WaitingList.{WaitingList}

pub in_order : {C : Type 0} {g : _} (w : WaitingList C g) → Orderly g.ahead w
in_order w = record { fits = w.fits; queued = w.queued }
