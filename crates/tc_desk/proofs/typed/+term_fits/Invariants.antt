use Rattle.std.proofs.Common.{All, take}
use Rattle.tc_desk.proofs.Typing.{IsTypedTerm}
use Rattle.tc_desk.proofs.typed.+term_fits.Given as goal

abbrev pub invariant-loop-arg : goal.invariant-loop-arg
invariant-loop-arg l = All IsTypedTerm (take l.arg-index l.arg-items)
