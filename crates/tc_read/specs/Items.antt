-- What is kept of parts of a text, as the code has it.
use Rattle.std.specs.Prelude.{List, map, reverse}
use Rattle.tc_term.specs.TreeView.{tree_of}
use Rattle.tc_read.specs.Kept as kept
use Rattle.tc_read.specs.declared.measured.Item.{Item}
use Rattle.tc_read.specs.declared.measured.Item.TheVariants.{Small, Large, Wide}
use Rattle.tc_read.specs.declared.measured.Parts.{Parts}
use Rattle.tc_read.specs.declared.measured.Parts.TheVariants as parts

abbrev pub kept_item : Item → kept.Kept
kept_item (Small m) = kept.Small (tree_of m.term)
kept_item Large = kept.Large
kept_item (Wide place) = kept.Wide place

-- the items so far, the last one first
abbrev pub done_of : List Item → List kept.Kept
done_of items = reverse (map kept_item items)

abbrev pub parts_view : Parts → kept.Parts
parts_view (parts.Whole several) = kept.Whole (reverse (map tree_of several.terms.items))
parts_view parts.Oversized = kept.Oversized
parts_view (parts.Wide place) = kept.Wide_at place
