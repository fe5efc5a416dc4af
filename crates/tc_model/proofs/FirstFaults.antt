-- Which fault of a beginning is the first.
use Rattle.std.proofs.Common.{◌≡◌, ◌≢◌, ◌≤◌, ◌<◌, ◌^◌, List, [], ◌∷◌, ◌++◌, All, AllPairs, length}
use Rattle.tc_lists.specs.Firsts.{NoneOf}
use Rattle.tc_lists.proofs.Firsts.{NoneOf-nil, NoneOf-push}
use Rattle.tc_model.specs.State.{Origin, IsName}
use Rattle.tc_model.specs.Origins.{IsBroken, IsFirstBroken, ordered_faults}
use Rattle.tc_model.specs.declared.limits.TheConstants.{MOST_BUDGET}
use Rattle.tc_model.specs.declared.origins.OriginFault.{OriginFault}
use Rattle.tc_model.specs.declared.origins.OriginFault.TheVariants.{CentreName, AgentCount}
use Rattle.tc_model.specs.declared.origins.OriginFault.TheVariants.{AgentName, SameNames}
use Rattle.tc_model.specs.declared.origins.OriginFault.TheVariants.{Budget}

-- a broken condition is the first, where those before it hold
pub first_fault : (o : Origin) (before behind : List OriginFault) (fault : OriginFault)
    → ordered_faults ≡ before ++ fault ∷ behind → NoneOf (IsBroken o) before → IsBroken o fault
    → IsFirstBroken o fault
first_fault o before behind fault split none broken =
    record { before = before; behind = behind; split = split; has = broken; none = none }

pub good_name : (o : Origin) → IsName o.name → NoneOf (IsBroken o) (CentreName ∷ [])
good_name o name = NoneOf-push (IsBroken o) [] CentreName (NoneOf-nil (IsBroken o)) (λ broken. broken name)

pub good_count : (o : Origin) → NoneOf (IsBroken o) (CentreName ∷ [])
    → 0 < length o.agents → length o.agents < 2 ^ 32
    → NoneOf (IsBroken o) (CentreName ∷ AgentCount ∷ [])
good_count o none some few =
    NoneOf-push (IsBroken o) (CentreName ∷ []) AgentCount none (λ broken. broken some few)

pub good_names : (o : Origin) → NoneOf (IsBroken o) (CentreName ∷ AgentCount ∷ []) → All IsName o.agents
    → NoneOf (IsBroken o) (CentreName ∷ AgentCount ∷ AgentName ∷ [])
good_names o none names =
    NoneOf-push (IsBroken o) (CentreName ∷ AgentCount ∷ []) AgentName none (λ broken. broken names)

pub differing_names : (o : Origin) → NoneOf (IsBroken o) (CentreName ∷ AgentCount ∷ AgentName ∷ [])
    → AllPairs ◌≢◌ o.agents
    → NoneOf (IsBroken o) (CentreName ∷ AgentCount ∷ AgentName ∷ SameNames ∷ [])
differing_names o none differ =
    NoneOf-push (IsBroken o) (CentreName ∷ AgentCount ∷ AgentName ∷ []) SameNames none (λ broken. broken differ)

pub good_budget : (o : Origin)
    → NoneOf (IsBroken o) (CentreName ∷ AgentCount ∷ AgentName ∷ SameNames ∷ [])
    → 1 ≤ o.budget → o.budget ≤ MOST_BUDGET
    → NoneOf (IsBroken o) (CentreName ∷ AgentCount ∷ AgentName ∷ SameNames ∷ Budget ∷ [])
good_budget o none some most =
    NoneOf-push (IsBroken o) (CentreName ∷ AgentCount ∷ AgentName ∷ SameNames ∷ []) Budget none
    (λ broken. broken some most)
