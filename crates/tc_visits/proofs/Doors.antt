-- How a door stands after the sessions of a site's agents.
use Rattle.std.proofs.Common.{◌≡◌, ◌∙◌, ℕ, true, false, List, [], ◌∷◌, map, length, refl, ap, inr, arith, length-append}
use Rattle.std.proofs.lemmas.List.{length-map}
use Rattle.tc_config.specs.declared.configs.AgentConf.{AgentConf}
use Rattle.tc_policy.specs.declared.grants.Grant.{Grant}
use Rattle.tc_centre.specs.Centre.{Centre}
use Rattle.tc_site.specs.Sites.{AreOfSite, IsSiteOf, KitState, SiteState}
use Rattle.tc_visits.specs.Service.{DoorState, MayUseDoor, UsesDoor}
use Rattle.tc_visits.specs.Serving.{AreServed, kit_of}
use Rattle.tc_visits.specs.Visits.{VisitState}

-- a site's kits are as many as its agents
pub kits-count : (names : List (List ℕ)) (fresh : List Centre) (agents configured : List AgentConf) (roles : List Grant) (s : SiteState (List Grant)) (kits : List (KitState (List Grant)))
    → IsSiteOf names fresh agents roles s → AreOfSite (λ (k : KitState (List Grant)). k.site) (λ (k : KitState (List Grant)). k.agent) s kits
    → agents ≡ configured → length kits ≡ length configured
kits-count names fresh agents configured roles s kits site every same =
    every.whole ∙ ap length site.roles_are ∙ length-map agents (λ (a : AgentConf). a.role) ∙ ap length same

module _ (agents : ℕ) (kits : List (KitState (List Grant))) (door after : DoorState) (visits : List VisitState) (whole : length kits ≡ agents) where
  -- the door was used for the agents whose kits were served
  pub door-used : (idle : List (KitState (List Grant))) → AreServed kits door.opened after.opened door.faults after.faults visits idle → UsesDoor agents door after
  door-used [] served =
      let count = ap length served.kits_are in
      record {
        connections = map (λ (v : VisitState). v.connection) visits;
        opened = served.opened_are;
        all = true;
        all_are = (omega (arith, count, whole, length-append (map kit_of visits) [], length-map visits kit_of, length-map visits (λ (v : VisitState). v.connection)), served.all refl);
      }
  door-used (k ∷ idle) served =
      let count = ap length served.kits_are in
      record {
        connections = map (λ (v : VisitState). v.connection) visits;
        opened = served.opened_are;
        all = false;
        all_are = (omega (arith, count, whole, length-append (map kit_of visits) (k ∷ idle), length-map visits kit_of, length-map visits (λ (v : VisitState). v.connection)), served.lacking (λ none. cc));
      }

-- and so it stands where memory runs out after their sessions
pub served-door : (names : List (List ℕ)) (fresh : List Centre) (agents configured : List AgentConf) (roles : List Grant) (s : SiteState (List Grant))
    (kits : List (KitState (List Grant))) → IsSiteOf names fresh agents roles s
    → AreOfSite (λ (k : KitState (List Grant)). k.site) (λ (k : KitState (List Grant)). k.agent) s kits → agents ≡ configured
    → (door after : DoorState) (visits : List VisitState) (idle : List (KitState (List Grant)))
    → AreServed kits door.opened after.opened door.faults after.faults visits idle → MayUseDoor (length configured) door after
served-door names fresh agents configured roles s kits site every same door after visits idle served =
    inr (door-used (length configured) kits door after visits (kits-count names fresh agents configured roles s kits site every same) idle served)
