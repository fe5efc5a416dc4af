use Rattle.std.proofs.Common.{subst}
use Rattle.tc_lists.proofs.Elements.{All-take_read, All-from_take}
use Rattle.tc_model.specs.State.{IsName}
use Rattle.tc_model.proofs.origins.are_names.Goals as goal

pub loop-name-preserved : goal.loop-name-preserved
loop-name-preserved c =
    All-take_read IsName c.args.names.now c.loop-name.name-index c.name-item.result c.loop-name-test.true
    c.name-item.is c.loop-name.invariant
    (subst IsName c.bytes.ensures (c.is_name.ensures.yes c.if-not-is_name.false))

pub returns-clause-yes : goal.returns-clause-yes
returns-clause-yes c told =
    All-from_take IsName c.args.names.now c.loop-name.name-index c.loop-name-test.false c.loop-name.invariant
