use Rattle.std.proofs.Common.{All, take}
use Rattle.tc_desk.specs.Typed.{IsTypedRow}
use Rattle.tc_desk.proofs.typed.rows_are_typed.Given as goal

abbrev pub invariant-loop-row : goal.invariant-loop-row
invariant-loop-row l = All IsTypedRow (take l.row-index l.log)
