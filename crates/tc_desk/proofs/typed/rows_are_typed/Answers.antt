use Rattle.tc_lists.proofs.Elements.{All-take_read, All-from_take}
use Rattle.tc_desk.specs.Typed.{IsTypedRow}
use Rattle.tc_desk.proofs.typed.rows_are_typed.Goals as goal

pub loop-row-preserved : goal.loop-row-preserved
loop-row-preserved c =
    All-take_read IsTypedRow c.args.log.now c.loop-row.row-index c.row-item.result c.loop-row-test.true
    c.row-item.is c.loop-row.invariant c.typed.ensures

pub returns : goal.returns
returns c = All-from_take IsTypedRow c.args.log.now c.loop-row.row-index c.loop-row-test.false c.loop-row.invariant
