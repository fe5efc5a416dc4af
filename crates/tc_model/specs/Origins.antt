-- Why a centre can't begin so.
use Rattle.std.specs.Prelude.{◌≢◌, ◌≤◌, ◌<◌, ◌^◌, List, [], ◌∷◌, All, AllPairs, length}
use Rattle.tc_lists.specs.Firsts.{IsFirst}
use Rattle.tc_model.specs.State.{Origin, IsName}
use Rattle.tc_model.specs.declared.limits.TheConstants.{MOST_BUDGET, MOST_TUPLES}
use Rattle.tc_model.specs.declared.origins.OriginFault.{OriginFault}
use Rattle.tc_model.specs.declared.origins.OriginFault.TheVariants.{CentreName, AgentCount}
use Rattle.tc_model.specs.declared.origins.OriginFault.TheVariants.{AgentName, SameNames}
use Rattle.tc_model.specs.declared.origins.OriginFault.TheVariants.{Budget, TupleCount}

-- the condition that the fault names does not hold
abbrev pub IsBroken : Origin → OriginFault → Type 0
IsBroken origin CentreName = IsName origin.name → ⊥
IsBroken origin AgentCount = 0 < length origin.agents → length origin.agents < 2 ^ 32 → ⊥
IsBroken origin AgentName = All IsName origin.agents → ⊥
IsBroken origin SameNames = AllPairs ◌≢◌ origin.agents → ⊥
IsBroken origin Budget = 1 ≤ origin.budget → origin.budget ≤ MOST_BUDGET → ⊥
IsBroken origin TupleCount = length origin.tuples ≤ MOST_TUPLES → ⊥

-- the faults, in the order in which they are told
abbrev pub ordered_faults : List OriginFault
ordered_faults = CentreName ∷ AgentCount ∷ AgentName ∷ SameNames ∷ Budget ∷ TupleCount ∷ []

-- the fault is the first in this order whose condition does not hold
abbrev pub IsFirstBroken : Origin → OriginFault → Type 0
IsFirstBroken origin fault = IsFirst (IsBroken origin) ordered_faults fault
