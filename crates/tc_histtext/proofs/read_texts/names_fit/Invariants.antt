use Rattle.std.proofs.Common.{All, take}
use Rattle.tc_model.specs.Typed.{AreBytes}
use Rattle.tc_histtext.proofs.read_texts.names_fit.Given as goal

abbrev pub invariant-loop-name : goal.invariant-loop-name
invariant-loop-name l = All AreBytes (take l.name-index l.names)
