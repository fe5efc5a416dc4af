use Rattle.tc_calls.specs.Places.{lists_of}
use Rattle.tc_calls.proofs.AgentPlaces.{places-none}
use Rattle.tc_calls.proofs.places.no_places.Goals as goal

pub returns-clause-none : goal.returns-clause-none
returns-clause-none c = places-none (lists_of c.loop.places.items) c.loop.invariant.empty
