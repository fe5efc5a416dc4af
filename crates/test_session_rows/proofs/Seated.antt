-- The agents of a site as they sit down at their desks, and as these are ended.
use Rattle.std.proofs.Common.{◌≡◌, ◌∙◌, ℕ, List, [], ◌∷◌, ◌++◌, Some, true, length, refl, sym, ap, subst, ⊎_elim, arith}
use Rattle.std.specs.List.{slice_get, slice_set}
use Rattle.std.proofs.lemmas.Bool.{cases_eq}
use Rattle.std.proofs.lemmas.List.{length-set}
use Rattle.std.proofs.lemmas.Option.{same_Some}
use Rattle.tc_lists.proofs.Sets.{slice_get-set_same, slice_get-set_other}
use Rattle.tc_policy.specs.declared.grants.Grant.{Grant}
use Rattle.tc_site.specs.Desks.{AgentState, IsNewDesk, desk_of}
use Rattle.tc_site.specs.Sites.{AreOfSite, EndedDeskState, KitState, SiteState}
use Rattle.test_session_rows.specs.Seats.{AreSeats, IsSeat}
use Rattle.test_session_rows.proofs.Moves.{Moves, moves-none, moves-more}

module _ (s : SiteState (List Grant)) where
  -- the kit, or the ended desk, is this agent's at the site
  abbrev pub IsKit : ℕ → KitState (List Grant) → Type 0
  IsKit agent kit = (kit.site ≡ s) × (kit.agent ≡ agent)

  abbrev pub IsEnded : ℕ → EndedDeskState (List Grant) → Type 0
  IsEnded agent ended = (ended.site ≡ s) × (ended.agent ≡ agent)

  -- some kits are left, and the agents before sit at their desks
  abbrev pub SitDown : List (KitState (List Grant)) → List (AgentState (List Grant)) → Type 0
  SitDown = Moves IsKit (IsSeat s) (length s.roles)

  -- some desks are left, and those before have ended
  abbrev pub StandUp : List (AgentState (List Grant)) → List (EndedDeskState (List Grant)) → Type 0
  StandUp = Moves (IsSeat s) IsEnded (length s.roles)

  pub sit-none : (kits : List (KitState (List Grant))) (desks : List (AgentState (List Grant)))
      → AreOfSite (λ (k : KitState (List Grant)). k.site) (λ (k : KitState (List Grant)). k.agent) s kits → desks ≡ [] → SitDown kits desks
  sit-none kits desks are none = moves-none IsKit (IsSeat s) (length s.roles) kits desks are.whole are.each none

  pub sit-more : (kit : KitState (List Grant)) (kits : List (KitState (List Grant))) (desks : List (AgentState (List Grant))) (d : AgentState (List Grant))
      → SitDown (kit ∷ kits) desks → IsNewDesk s.names (desk_of d) → d.site ≡ s → d.agent ≡ kit.agent → SitDown kits (desks ++ d ∷ [])
  sit-more kit kits desks d moves new site same =
      let is = moves.left_are 0 kit refl in
      moves-more IsKit (IsSeat s) (length s.roles) kit kits desks d moves
      (record { site = site; agent_is = omega (arith, same, is.1); free = new.is_free })

  pub sit-all : (kits : List (KitState (List Grant))) (desks : List (AgentState (List Grant))) → length kits ≡ 0 → SitDown kits desks → AreSeats s desks
  sit-all kits desks none moves = record { whole = let count = moves.count in omega (arith, count, none); each = moves.moved_are }

  -- a session leaves its desk where it is
  pub seats-set : (desks : List (AgentState (List Grant))) (place : ℕ) (d e : AgentState (List Grant)) → AreSeats s desks
      → slice_get desks place ≡ Some d → e.site ≡ d.site → e.agent ≡ d.agent → (desk_of e).free ≡ true → AreSeats s (slice_set desks place e)
  seats-set desks place d e seats at site agent free = record {
    whole = length-set desks place e ∙ seats.whole;
    each = λ k x here.
        ⊎_elim
        (λ (same : k ≡ place).
        let was = seats.each place d at in
        let is : e ≡ x =
        same_Some e x (sym (slice_get-set_same desks place e d at) ∙ ap (slice_get (slice_set desks place e)) (sym same) ∙ here) in
        subst (IsSeat s k) is (record { site = site ∙ was.site; agent_is = agent ∙ was.agent_is ∙ sym same; free = free }))
        (λ (other : k ≡ place → ⊥). seats.each k x (sym (slice_get-set_other desks place k e other) ∙ here))
        (cases_eq k place);
  }

  pub stand-none : (desks : List (AgentState (List Grant))) (ended : List (EndedDeskState (List Grant))) → AreSeats s desks → ended ≡ [] → StandUp desks ended
  stand-none desks ended seats none = moves-none (IsSeat s) IsEnded (length s.roles) desks ended seats.whole seats.each none

  pub stand-more : (d : AgentState (List Grant)) (desks : List (AgentState (List Grant))) (ended : List (EndedDeskState (List Grant))) (e : EndedDeskState (List Grant))
      → StandUp (d ∷ desks) ended → e.site ≡ d.site → e.agent ≡ d.agent → StandUp desks (ended ++ e ∷ [])
  stand-more d desks ended e moves site agent =
      let is = moves.left_are 0 d refl in
      moves-more (IsSeat s) IsEnded (length s.roles) d desks ended e moves (site ∙ is.site, agent ∙ omega (arith, is.agent_is))

  pub stand-all : (desks : List (AgentState (List Grant))) (ended : List (EndedDeskState (List Grant))) → length desks ≡ 0 → StandUp desks ended
      → AreOfSite (λ (e : EndedDeskState (List Grant)). e.site) (λ (e : EndedDeskState (List Grant)). e.agent) s ended
  stand-all desks ended none moves = record { whole = let count = moves.count in omega (arith, count, none); each = moves.moved_are }
