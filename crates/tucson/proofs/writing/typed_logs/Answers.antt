use Rattle.std.proofs.Common.{All, List, Vec, Global, subst}
use Rattle.std.proofs.lemmas.List.Elements.{All-map}
use Rattle.tc_desk.specs.Typed.{IsTypedRow}
use Rattle.tc_desk.specs.declared.rows.LogRow.{LogRow}
use Rattle.tc_lists.proofs.Elements.{All-take_read, All-from_take}
use Rattle.tucson.proofs.writing.typed_logs.Goals as goal

pub loop-log-preserved : goal.loop-log-preserved
loop-log-preserved c =
    All-take_read (λ (log : Vec LogRow Global). All IsTypedRow log.items) c.args.logs.now c.loop-log.log-index c.log-item.result c.loop-log-test.true
    c.log-item.is c.loop-log.invariant (subst (λ (rows : List LogRow). All IsTypedRow rows) c.deref.ensures.value c.rows_are_typed.ensures)

pub returns : goal.returns
returns c =
    All-map (All IsTypedRow) (λ (log : Vec LogRow Global). log.items) c.args.logs.now
    (All-from_take (λ (log : Vec LogRow Global). All IsTypedRow log.items) c.args.logs.now c.loop-log.log-index c.loop-log-test.false c.loop-log.invariant)
