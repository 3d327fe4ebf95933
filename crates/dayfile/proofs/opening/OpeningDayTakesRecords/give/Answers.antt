use Rattle.std.proofs.Common.{ap, ◌∙◌, subst, arith}
use Rattle.records.specs.Records.{shown}
use Rattle.day.specs.Calls.{EarlyDoes, offer_pool}
use Rattle.dayfile.specs.Files.{on_opening, steps_in}
use Rattle.dayfile.specs.Parts.{AllShown}
use Rattle.dayfile.proofs.Turns.{takes_as}
use Rattle.dayfile.proofs.opening.OpeningDayTakesRecords.give.Goals as goal

pub returns-in-EnrolUnit : goal.returns-in-EnrolUnit
returns-in-EnrolUnit c = takes_as c.in-EnrolUnit.is (on_opening c.enrol_unit.ensures)

pub returns-in-EnrolPool : goal.returns-in-EnrolPool
returns-in-EnrolPool c = takes_as c.in-EnrolPool.is (on_opening c.enrol_pool.ensures)

pub returns-in-EnrolPlant : goal.returns-in-EnrolPlant
returns-in-EnrolPlant c = takes_as c.in-EnrolPlant.is (on_opening c.enrol_plant.ensures)

pub returns-in-OfferUnit : goal.returns-in-OfferUnit
returns-in-OfferUnit c = takes_as c.in-OfferUnit.is (on_opening c.offer_unit.ensures)

pub returns-in-OfferPool : goal.returns-in-OfferPool
returns-in-OfferPool c =
    let bs = c.in-OfferPool.steps.now in
    let whole = subst (λ x. AllShown (shown x)) c.in-OfferPool.is c.requires.1 in
    let given = c.as_slice.ensures.value ∙ c.steps_in.ensures ∙ ap (λ n. steps_in n bs) (omega (arith, whole)) in
    takes_as c.in-OfferPool.is (on_opening (subst (λ ss. EarlyDoes (offer_pool c.in-OfferPool.seller ss) c.args.self.now.book c.offer_pool.result c.offer_pool.new.self.book) given c.offer_pool.ensures))
