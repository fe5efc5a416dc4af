use Rattle.std.proofs.Common.{subst}
use Rattle.tc_lists.proofs.Elements.{All-take_read, All-from_take}
use Rattle.tc_model.specs.Typed.{AreBytes}
use Rattle.tc_histtext.proofs.read_texts.names_fit.Goals as goal

pub loop-name-preserved : goal.loop-name-preserved
loop-name-preserved c =
    All-take_read AreBytes c.args.names.now c.loop-name.name-index c.name-item.result c.loop-name-test.true
    c.name-item.is c.loop-name.invariant (subst AreBytes c.bytes.ensures c.bytes_fit.ensures)

pub returns : goal.returns
returns c = All-from_take AreBytes c.args.names.now c.loop-name.name-index c.loop-name-test.false c.loop-name.invariant
