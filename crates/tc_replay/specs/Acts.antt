-- What an operation does before its reactions, and the event that triggers them.
use Rattle.std.specs.Prelude.{List, [], ◌∷◌, ◌++◌}
use Rattle.tc_term.specs.Tree.{Tree}
use Rattle.tc_model.specs.Choices.{AnyOne, IsChosen}
use Rattle.tc_model.specs.Events.{Occurrence, MayOccur, SucceedsWithTuple}
use Rattle.tc_model.specs.Events.{success_event, failure_event, request_event}
use Rattle.tc_model.specs.State.{IsMatch, NoneMatches}
use Rattle.tc_model.specs.Tuples.{without_first}
use Rattle.tc_model.specs.declared.events.EventOp.{EventOp}
use Rattle.tc_model.specs.declared.events.Phase.TheVariants.{Pre, Post}
use Rattle.tc_model.specs.declared.events.Sign.TheVariants.{Neither, Success, Failure}
use Rattle.tc_replay.specs.declared.acts.Act.{Act}
use Rattle.tc_replay.specs.declared.acts.Act.TheVariants.{Put, Ask, Take, Read}
use Rattle.tc_replay.specs.declared.acts.Act.TheVariants.{Miss, Confirm, Refute}

-- the tuple may be chosen for the template, whether or not it is the oldest that matches
abbrev pub MayChoose : Tree → Tree → List Tree → Type 0
MayChoose template tuple tuples = IsChosen AnyOne (IsMatch template) tuples tuple

-- these tuples allow it
abbrev pub CanAct : Act → List Tree → Type 0
CanAct (Put tuple) tuples = Unit {0}
CanAct (Ask template) tuples = Unit {0}
CanAct (Take template tuple) tuples = MayChoose template.now tuple.now tuples
CanAct (Read template tuple) tuples = MayChoose template.now tuple.now tuples
CanAct (Miss template) tuples = NoneMatches tuples template.now
CanAct (Confirm template) tuples = NoneMatches tuples template.now
CanAct (Refute template tuple) tuples = MayChoose template.now tuple.now tuples

-- the tuples after it
abbrev pub after_act : Act → List Tree → List Tree
after_act (Put tuple) tuples = tuples ++ tuple.now ∷ []
after_act (Ask template) tuples = tuples
after_act (Take template tuple) tuples = without_first tuple.now tuples
after_act (Read template tuple) tuples = tuples
after_act (Miss template) tuples = tuples
after_act (Confirm template) tuples = tuples
after_act (Refute template tuple) tuples = tuples

-- the event of an operation that has acted so
abbrev pub event_of : EventOp → Act → Occurrence
event_of op (Put tuple) = success_event op tuple.now
event_of op (Ask template) = request_event op template.now
event_of op (Take template tuple) = success_event op tuple.now
event_of op (Read template tuple) = success_event op tuple.now
event_of op (Miss template) = failure_event op template.now
event_of op (Confirm template) = success_event op template.now
event_of op (Refute template tuple) = failure_event op template.now

-- the table of events has it; what succeeds without a tuple asks for absence
abbrev pub IsAllowed : EventOp → Act → Type 0
IsAllowed op (Put tuple) = MayOccur op Post Success
IsAllowed op (Ask template) = MayOccur op Pre Neither
IsAllowed op (Take template tuple) = MayOccur op Post Success
IsAllowed op (Read template tuple) = MayOccur op Post Success
IsAllowed op (Miss template) = MayOccur op Post Failure
IsAllowed op (Confirm template) = MayOccur op Post Success × (SucceedsWithTuple op → ⊥)
IsAllowed op (Refute template tuple) = MayOccur op Post Failure
