-- Goals that have nothing to do with the tuples of a centre.
use Rattle.tc_model.specs.declared.goals.Goal.{Goal}
use Rattle.tc_model.specs.declared.goals.Goal.TheVariants.{OutR, InR, RdR, NoR, Pre, Post}
use Rattle.tc_model.specs.declared.goals.Goal.TheVariants.{Success, Failure, True, Agent}
use Rattle.tc_model.specs.declared.goals.Goal.TheVariants.{Centre, Operation, Tuple, Equal}
use Rattle.tc_model.specs.declared.goals.Goal.TheVariants.{Differ, Is, Compare}

-- the goal neither puts a tuple nor looks for one
abbrev pub IsTupleFree : Goal → Type 0
IsTupleFree (OutR t) = ⊥
IsTupleFree (InR t) = ⊥
IsTupleFree (RdR t) = ⊥
IsTupleFree (NoR t) = ⊥
IsTupleFree Pre = Unit {0}
IsTupleFree Post = Unit {0}
IsTupleFree Success = Unit {0}
IsTupleFree Failure = Unit {0}
IsTupleFree True = Unit {0}
IsTupleFree (Agent t) = Unit {0}
IsTupleFree (Centre t) = Unit {0}
IsTupleFree (Operation t) = Unit {0}
IsTupleFree (Tuple t) = Unit {0}
IsTupleFree (Equal s t) = Unit {0}
IsTupleFree (Differ s t) = Unit {0}
IsTupleFree (Is s t) = Unit {0}
IsTupleFree (Compare comparison s t) = Unit {0}
