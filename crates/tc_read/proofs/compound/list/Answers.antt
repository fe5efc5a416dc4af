use Rattle.std.proofs.Common.{◌-◌, sym, ◌∙◌, ap}
use Rattle.tc_read.specs.Frames.{items_of, under}
use Rattle.tc_read.specs.Items.{kept_item}
use Rattle.tc_read.specs.Kept.{kept}
use Rattle.tc_read.specs.Machine.{cells}
use Rattle.tc_read.proofs.Framed.{tops-some, under-some}
use Rattle.tc_read.proofs.compound.list.Goals as goal

pub loop-left-preserved : goal.loop-left-preserved
loop-left-preserved c =
    let n = c.loop-left.left in
    let ks = items_of c.loop-left.stack in (
      rw (c.in_ok-whole.ensures, c.pop_item.ensures.item, c.pop_item.ensures.items)
          (c.loop-left.invariant.0 ∙ ap (λ xs. cells kept xs (kept_item c.loop-left.whole)) (tops-some n ks c.loop-left-test.true)),
      c.loop-left.invariant.1 ∙ under-some n ks c.loop-left-test.true ∙ ap (under (n - 1)) (sym c.pop_item.ensures.items),
      c.pop_item.ensures.frames ∙ c.loop-left.invariant.2,
    )
