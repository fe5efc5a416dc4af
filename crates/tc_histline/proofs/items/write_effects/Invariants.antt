use Rattle.std.proofs.Common.{◌≡◌, ◌++◌, take}
use Rattle.tc_histline.specs.Text.{effects_text}
use Rattle.tc_histline.proofs.items.write_effects.Given as goal

-- the effects so far are written
abbrev pub invariant-loop-effect : goal.invariant-loop-effect
invariant-loop-effect l = l.into.items ≡ l.fn.into.items ++ effects_text (take l.effect-index l.effects)
