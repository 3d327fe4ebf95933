-- The entries of a period, with their figures as a book has them. Assumes nothing.
use Rattle.std.specs.Prelude.{ℕ}
use Rattle.day.specs.declared.book.Book.{Book}
use Rattle.day.specs.Bills.{call_of, price_of, wanted_of, brought_of, fee, charge, users, uncarried_charge, plant_charge, penalty, refund, uncarried_refund}
use Rattle.statements.specs.declared.entries.AreaCharge.{AreaCharge}
use Rattle.statements.specs.declared.entries.AreaRefund.{AreaRefund}
use Rattle.statements.specs.declared.entries.Clearing.{Clearing}
use Rattle.statements.specs.declared.entries.PlantCharge.{PlantCharge}
use Rattle.statements.specs.declared.entries.Sale.{Sale}
use Rattle.statements.specs.declared.entries.UnitDues.{UnitDues}

abbrev pub clearing_of : Book → ℕ → ℕ → Clearing
clearing_of b p k = record { period = p; round = k; wanted = wanted_of b k p; brought = brought_of b k p; price = price_of b k p }

abbrev pub sale_of : Book → ℕ → ℕ → ℕ → Sale
sale_of b p k i = record { period = p; round = k; seller = i; call = call_of b k p i; fee = fee b k p i }

abbrev pub area_of : Book → ℕ → ℕ → AreaCharge
area_of b p a = record { period = p; area = a; charge = charge b p a; users = users b p a; uncarried = uncarried_charge b p a }

abbrev pub plant_of : Book → ℕ → ℕ → PlantCharge
plant_of b p j = record { period = p; plant = j; charge = plant_charge b p j }

abbrev pub unit_of : Book → ℕ → ℕ → UnitDues
unit_of b p i = record { period = p; unit = i; penalty = penalty b p i; refund = refund b p i }

abbrev pub refund_of : Book → ℕ → ℕ → AreaRefund
refund_of b p a = record { period = p; area = a; uncarried = uncarried_refund b p a }
