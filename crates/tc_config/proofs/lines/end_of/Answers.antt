use Rattle.std.proofs.Common.{codes}
use Rattle.tc_config.proofs.Cells.{differ, end_name}
use Rattle.tc_config.proofs.lines.end_of.Goals as goal

pub returns-then-ne : goal.returns-then-ne
returns-then-ne c ls e =
    end_name c.args.name ls
    (differ c.bytes.result.now c.as_slice.result.now c.args.name (codes "[]") c.ne.result c.bytes.ensures
    c.as_slice.ensures c.ne.ensures c.if-ne.true) e
