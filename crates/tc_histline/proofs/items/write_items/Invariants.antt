use Rattle.std.proofs.Common.{◌≡◌, ◌++◌, take}
use Rattle.tc_histline.specs.Text.{items_text}
use Rattle.tc_histline.proofs.items.write_items.Given as goal

-- the reactions so far are written
abbrev pub invariant-loop-item : goal.invariant-loop-item
invariant-loop-item l = l.into.items ≡ l.fn.into.items ++ items_text (take l.item-index l.items)
