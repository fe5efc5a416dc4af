use Rattle.std.proofs.Common.{◌∙◌, sym, ap, nat_eq}
use lib.Pointwise.{pointwise}
use Rattle.tc_read.proofs.Cells.{is_cell-two}
use Rattle.tc_read.specs.Front.{is_cell}
use Rattle.tc_read.proofs.canonical.is_cell.Goals as goal

pub returns-then-eq : goal.returns-then-eq
returns-then-eq c =
    is_cell-two c.args.name.now c.items.result.now (ap (pointwise nat_eq c.args.name.now) (sym c.as_slice.ensures) ∙ sym (c.if-eq.ensures)) c.items.ensures.some ∙ ap (is_cell c.args.name.now) c.items.ensures.trees
