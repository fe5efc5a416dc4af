use Rattle.tc_config.specs.Meanings.{AreItems}
use Rattle.tc_config.proofs.filling.items_of.Given as goal

abbrev pub invariant-loop-line : goal.invariant-loop-line
invariant-loop-line l = AreItems l.centres l.yielded l.items.items
