use Rattle.std.proofs.Common.{Some}
use Rattle.tc_cascade.specs.declared.cascade.Cascade.TheVariants.{Whole, Over}
use Rattle.tc_centre.specs.Held.{origin_of}
use Rattle.tc_centre.proofs.Answered.{request-agent}
use Rattle.tc_centre.proofs.Given.{read-stands, read-answer, tuple-wanted, tuple-oldest, gives}
use Rattle.tc_centre.proofs.operations.give_tuple.Goals as goal

pub regime-regime-requires : goal.regime-regime-requires
regime-regime-requires g c =
    let old = c.args.held.now in
    request-agent (origin_of old.founding) old.history.items old.spec old.bag.now old.bag.next old.pending.now c.requires.run
    c.args.place c.index-list-place.result
    (read-stands old c.args.place (Some c.args.age) c.requires.next c.list.result.now c.index-list-place.result
    c.index-list-place.is c.list.ensures)

pub answer-requires-clause-wants : goal.answer-requires-clause-wants
answer-requires-clause-wants g c =
    let r = c.index-list-place.result in
    tuple-wanted c.args.held.now.bag.now r.wants r.template c.args.age
    (read-answer c.args.held.now c.args.place (Some c.args.age) c.requires.next c.list.result.now r c.index-list-place.is c.list.ensures)

pub answer-requires-clause-oldest : goal.answer-requires-clause-oldest
answer-requires-clause-oldest g c =
    let r = c.index-list-place.result in
    let oldest = tuple-oldest c.args.held.now.bag.now r.wants r.template c.args.age
    (read-answer c.args.held.now c.args.place (Some c.args.age) c.requires.next c.list.result.now r c.index-list-place.is c.list.ensures) in
    record { template = r.template; tuple = oldest.tuple; found = oldest.found }

pub returns-in-Whole-clause-gives : goal.returns-in-Whole-clause-gives
returns-in-Whole-clause-gives g c =
    let old = c.args.held.now in
    let r = c.index-list-place.result in
    let told = c.in_ok-tuple.ensures in
    gives old _ c.args.place r
    (read-stands old c.args.place (Some c.args.age) c.requires.next c.list.result.now r c.index-list-place.is c.list.ensures)
    c.regime-regime.result c.regime-regime.ensures c.args.age c.in_ok-tuple.tuple c.in_ok-tuple.cascade (Whole c.in-Whole.items)
    (read-answer old c.args.place (Some c.args.age) c.requires.next c.list.result.now r c.index-list-place.is c.list.ensures)
    told.tuple told.phase told.next told.adds c.in-Whole.is

pub returns-in-Over-clause-gives : goal.returns-in-Over-clause-gives
returns-in-Over-clause-gives g c =
    let old = c.args.held.now in
    let r = c.index-list-place.result in
    let told = c.in_ok-tuple.ensures in
    gives old _ c.args.place r
    (read-stands old c.args.place (Some c.args.age) c.requires.next c.list.result.now r c.index-list-place.is c.list.ensures)
    c.regime-regime.result c.regime-regime.ensures c.args.age c.in_ok-tuple.tuple c.in_ok-tuple.cascade (Over c.in-Over.items)
    (read-answer old c.args.place (Some c.args.age) c.requires.next c.list.result.now r c.index-list-place.is c.list.ensures)
    told.tuple told.phase told.next told.adds c.in-Over.is
