use Rattle.std.proofs.Common.{◌≡◌, ◌-◌}
use Rattle.tc_histline.specs.Items.{effects_at, several}
use Rattle.tc_histline.specs.Outcomes.{effect_at}
use Rattle.tc_histline.proofs.ReadItems.{all_ahead}
use Rattle.tc_histline.proofs.read_items.effects.Given as goal

-- the effects so far, and then those that are still to be read, are all of them
abbrev pub invariant-loop : goal.invariant-loop
invariant-loop l = all_ahead l.effects.items (several effect_at (l.end - l.counter) l.rest) ≡ effects_at l.fn.bytes
