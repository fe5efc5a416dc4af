use Rattle.std.proofs.Common.{codes}
use Rattle.tc_term.specs.Few.{few_terms}
use Rattle.tc_term.specs.TreeView.{trees_of}
use Rattle.tc_config.proofs.Cells.{cell_name, cell_two, differ}
use Rattle.tc_config.proofs.lines.cell_of.Goals as goal

pub returns-then-ne : goal.returns-then-ne
returns-then-ne c ls e =
    cell_name c.args.name (trees_of (few_terms c.args.args)) ls
    (differ c.bytes.result.now c.as_slice.result.now c.args.name (codes ".") c.ne.result c.bytes.ensures
    c.as_slice.ensures c.ne.ensures c.if-ne.true) e

pub returns : goal.returns
returns c ls e = cell_two c.args.name (trees_of (few_terms c.args.args)) ls c.in-None.ensures.none e
