use Rattle.std.proofs.Common.{None}
use Rattle.tc_cascade.specs.declared.cascade.Cascade.TheVariants.{Whole, Over}
use Rattle.tc_centre.specs.Held.{origin_of}
use Rattle.tc_centre.proofs.Answered.{request-agent}
use Rattle.tc_centre.proofs.Given.{read-stands, read-answer, tells}
use Rattle.tc_centre.proofs.operations.tell_absence.Goals as goal

pub regime-regime-requires : goal.regime-regime-requires
regime-regime-requires g c =
    let old = c.args.held.now in
    request-agent (origin_of old.founding) old.history.items old.spec old.bag.now old.bag.next old.pending.now c.requires.run
    c.args.place c.index-list-place.result
    (read-stands old c.args.place None c.requires.next c.list.result.now c.index-list-place.result
    c.index-list-place.is c.list.ensures)

pub returns-in-Whole-clause-gives : goal.returns-in-Whole-clause-gives
returns-in-Whole-clause-gives g c =
    let old = c.args.held.now in
    let r = c.index-list-place.result in
    let told = c.in_ok-cascade.ensures in
    tells old _ c.args.place r
    (read-stands old c.args.place None c.requires.next c.list.result.now r c.index-list-place.is c.list.ensures)
    c.regime-regime.result c.regime-regime.ensures c.in_ok-cascade.cascade (Whole c.in-Whole.items)
    (read-answer old c.args.place None c.requires.next c.list.result.now r c.index-list-place.is c.list.ensures)
    told.phase told.next told.adds c.in-Whole.is

pub returns-in-Over-clause-gives : goal.returns-in-Over-clause-gives
returns-in-Over-clause-gives g c =
    let old = c.args.held.now in
    let r = c.index-list-place.result in
    let told = c.in_ok-cascade.ensures in
    tells old _ c.args.place r
    (read-stands old c.args.place None c.requires.next c.list.result.now r c.index-list-place.is c.list.ensures)
    c.regime-regime.result c.regime-regime.ensures c.in_ok-cascade.cascade (Over c.in-Over.items)
    (read-answer old c.args.place None c.requires.next c.list.result.now r c.index-list-place.is c.list.ensures)
    told.phase told.next told.adds c.in-Over.is
