use Rattle.dayfile.specs.Files.{on_running}
use Rattle.dayfile.proofs.Turns.{takes_as}
use Rattle.dayfile.proofs.running.RunningDayTakesRecords.give.Goals as goal

pub returns-in-Plan : goal.returns-in-Plan
returns-in-Plan c = takes_as c.in-Plan.is (on_running c.plan.ensures)

pub returns-in-Want : goal.returns-in-Want
returns-in-Want c = takes_as c.in-Want.is (on_running c.want.ensures)

pub returns-in-Clear : goal.returns-in-Clear
returns-in-Clear c = takes_as c.in-Clear.is (on_running c.clear.ensures)

pub returns-in-ReadUnit : goal.returns-in-ReadUnit
returns-in-ReadUnit c = takes_as c.in-ReadUnit.is (on_running c.read_unit.ensures)

pub returns-in-ReadPlant : goal.returns-in-ReadPlant
returns-in-ReadPlant c = takes_as c.in-ReadPlant.is (on_running c.read_plant.ensures)
