use Rattle.std.proofs.Common.{◌≡◌, take}
use Rattle.tc_model.proofs.reactions.copy_reactions.Given as goal

abbrev pub invariant-loop-reaction : goal.invariant-loop-reaction
invariant-loop-reaction l = l.copies.items ≡ take l.reaction-index l.reactions
