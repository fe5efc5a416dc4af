use Rattle.std.proofs.Common.{take, get_or, refl, sym, subst, arith}
use Rattle.std.proofs.lemmas.List.{take_all, get_or_default}
use Rattle.tc_lists.proofs.Parts.{take_read}
use Rattle.tc_model.specs.declared.reactions.GuardTest.TheVariants.{Request}
use Rattle.tc_spec.specs.Guards.{Allows}
use Rattle.tc_spec.proofs.Tests.{allows_more, forbids_by}
use Rattle.tc_spec.proofs.guards.allows.Goals as goal

pub returns-then-not-holds-clause-no : goal.returns-then-not-holds-clause-no
returns-then-not-holds-clause-no c fails =
    forbids_by c.args.phase c.args.sign c.args.tests.now c.loop-i.i (get_or c.args.tests.now c.loop-i.i Request) Request c.holds.result
    c.loop-i-test.true refl c.if-not-holds.true c.holds.ensures

pub loop-i-preserved : goal.loop-i-preserved
loop-i-preserved c =
    let ts = c.args.tests.now in
    let i = c.loop-i.i in
    let t = get_or ts i Request in
    subst (Allows c.args.phase c.args.sign) (sym (take_read ts i t c.loop-i-test.true (get_or_default ts i Request t c.loop-i-test.true)))
    (allows_more c.args.phase c.args.sign (take i ts) t c.holds.result c.loop-i.invariant c.if-not-holds.false c.holds.ensures)

pub returns-clause-yes : goal.returns-clause-yes
returns-clause-yes c _ =
    subst (Allows c.args.phase c.args.sign) (take_all c.loop-i.i c.args.tests.now (omega (arith, c.loop-i-test.false))) c.loop-i.invariant
