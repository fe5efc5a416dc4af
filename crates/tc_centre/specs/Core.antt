-- What a core keeps.
use Rattle.std.specs.Prelude.{◌≡◌, [], All, length}
use Rattle.tc_model.specs.Typed.{IsTypedCall}
use Rattle.tc_centre.specs.Centre.{Centre, weight_in}
use Rattle.tc_centre.specs.Held.{origin_of, IsAtRest}
use Rattle.tc_calls.specs.Numbers.{AreLast}
use Rattle.tc_calls.specs.Places.{lists_of, ArePlaces}
use Rattle.tc_centre.specs.declared.centre.Core.TheInside.{Inside}

-- the centre that a core stands for
abbrev pub centre_of : Inside → Centre
centre_of c = record { origin = origin_of c.held.value.founding; history = c.held.value.history.items }

-- what it holds is at rest, it knows its weight, the places of its calls and the last number of
-- each agent, its calls are typed, and no mark is left
pub record IsSound (c : Inside) : Type 0 where
  pub rest : IsAtRest c.held.value
  pub weight : c.weight ≡ weight_in (centre_of c)
  pub places : ArePlaces (lists_of c.places.items) c.held.value.history.items
  pub lists : length c.places.items ≡ length c.held.value.founding.agents.items
  pub agents : length c.numbers.items ≡ length c.held.value.founding.agents.items
  pub numbers : AreLast c.numbers.items c.held.value.history.items
  pub typed : All IsTypedCall c.held.value.history.items
  pub bag_unmarked : c.held.value.bag.saved ≡ []
  pub pending_unmarked : c.held.value.pending.saved ≡ []
