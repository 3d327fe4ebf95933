-- The number of each refusal. Assumes nothing.
use Rattle.std.specs.Prelude.{ℕ}
use Rattle.sellers.specs.Faults.{fault_number}
use Rattle.day.specs.declared.faults.Fault.{Fault}
use Rattle.day.specs.declared.faults.Fault.TheVariants as f

-- The number that a refusal is known by; a wrong offer has its own.
abbrev pub refusal : Fault → ℕ
refusal f.Share = 1
refusal f.Seller = 2
refusal f.SellerTwice = 3
refusal f.NotSuch = 4
refusal f.Capacity = 5
refusal f.Floor = 6
refusal (f.Offer o) = fault_number o
refusal f.Area = 12
refusal f.Plant = 13
refusal f.PlantTwice = 14
refusal f.NoPlant = 15
refusal f.Round = 16
refusal f.Period = 17
refusal f.Base = 18
refusal f.Want = 19
refusal f.Cleared = 20
refusal f.NotCleared = 21
refusal f.Called = 22
refusal f.Energy = 23
