-- What becomes of kits: some are served, and others are idle.
use Rattle.std.specs.Prelude.{◌≡◌, ℕ, All, List, [], ◌++◌, map, Option}
use Rattle.std.specs.Option.{option_map}
use Rattle.tc_io.specs.Faults.{CountRises}
use Rattle.tc_io.specs.Links.{Connection}
use Rattle.tc_policy.specs.declared.grants.Grant.{Grant}
use Rattle.tc_site.specs.Sites.{SiteState, EndedDeskState, KitState}
use Rattle.tc_visits.specs.Visits.{VisitState}

-- the kit of a visit's desk
abbrev pub kit_of : VisitState → KitState (List Grant)
kit_of v = record { site = v.site; agent = v.agent }

-- the desk that a visit leaves, and the one of a kit whose agent has made no call
abbrev pub desk_left : VisitState → EndedDeskState (List Grant)
desk_left v = record { site = v.site; agent = v.agent; log = v.log }

abbrev pub desk_unused : KitState (List Grant) → EndedDeskState (List Grant)
desk_unused k = record { site = k.site; agent = k.agent; log = [] }

-- the kits are of this site
abbrev pub AreKitsOf : SiteState (List Grant) → List (KitState (List Grant)) → Type 0
AreKitsOf s kits = All (λ (k : KitState (List Grant)). k.site ≡ s) kits

-- what was opened, and then these connections
abbrev pub opened_all : Option (List Connection) → List Connection → Option (List Connection)
opened_all opened connections = option_map (λ before. before ++ connections) opened

-- each kit was served, in order, up to those that are idle: a visit's connection is the next that
-- the door has opened; where none is idle no call of the door has failed, and else one has
pub record AreServed
    (kits : List (KitState (List Grant))) (opened opened_after : Option (List Connection))
    (faults faults_after : ℕ) (visits : List VisitState) (idle : List (KitState (List Grant)))
    : Type 0 where
  pub kits_are : map kit_of visits ++ idle ≡ kits
  pub opened_are : opened_after
      ≡ opened_all opened (map (λ (v : VisitState). v.connection) visits)
  pub all : idle ≡ [] → faults_after ≡ faults
  pub lacking : (idle ≡ [] → ⊥) → CountRises faults faults_after
