-- What an operation does to the tuples, and the event that triggers the reactions to it.
use Rattle.std.specs.Prelude.{ℕ}
use Rattle.tc_bag.specs.Stock.{Stock, with_tuple, without_age}
use Rattle.tc_model.specs.Events.{Occurrence, MayOccur, SucceedsWithTuple}
use Rattle.tc_model.specs.Events.{success_event, failure_event, request_event}
use Rattle.tc_model.specs.declared.calls.Wants.{Wants}
use Rattle.tc_model.specs.declared.calls.Wants.TheVariants as wants
use Rattle.tc_model.specs.declared.events.Phase.TheVariants.{Pre, Post}
use Rattle.tc_model.specs.declared.events.Sign.TheVariants as sign
use Rattle.tc_phases.specs.declared.running.Change.{Change}
use Rattle.tc_phases.specs.declared.running.Change.TheVariants.{Put, Take, Nothing}
use Rattle.tc_phases.specs.declared.running.Trigger.{Trigger}
use Rattle.tc_phases.specs.declared.running.Trigger.TheVariants.{Success, Absence}
use Rattle.tc_phases.specs.declared.running.Trigger.TheVariants.{Failure, Request}

-- the bag after the change
abbrev pub changed : Change → Stock → Stock
changed (Put tuple) stock = with_tuple stock tuple.now
changed (Take age) stock = record stock { now = without_age age stock.now }
changed Nothing stock = stock

-- the change of a search or an answer that has found the tuple of this age
abbrev pub taking : Wants → ℕ → Change
taking wants.Take age = Take age
taking wants.Look age = Nothing
taking wants.Absence age = Nothing

-- the event
abbrev pub event_in : Trigger → Occurrence
event_in (Success op tuple) = success_event op tuple.now
event_in (Absence op template) = success_event op template.now
event_in (Failure op template) = failure_event op template.now
event_in (Request op template) = request_event op template.now

-- the table of events allows it, and what succeeds without a tuple asks for absence
abbrev pub IsAllowed : Trigger → Type 0
IsAllowed (Success op tuple) = MayOccur op Post sign.Success
IsAllowed (Absence op template) = MayOccur op Post sign.Success × (SucceedsWithTuple op → ⊥)
IsAllowed (Failure op template) = MayOccur op Post sign.Failure
IsAllowed (Request op template) = MayOccur op Pre sign.Neither
