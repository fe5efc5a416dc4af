use Rattle.std.proofs.Common.{◌≡◌, drop}
use Rattle.tc_term.proofs.Variables.{variables_in}
use Rattle.tc_term.proofs.numbering.+note.Given as goal

abbrev pub invariant-loop-arg : goal.invariant-loop-arg
invariant-loop-arg l = variables_in l.initial.seen l.arg-items ≡ variables_in l.seen (drop l.arg-index l.arg-items)
