-- The desks that a site's agents leave, and what their logs are.
use Rattle.std.proofs.Common.{◌≡◌, ◌∙◌, ℕ, zero, suc, ◌+◌, ◌||◌, List, [], ◌∷◌, ◌++◌, Option, Some, All, length, get_or, map, refl, sym, ap, subst, arith, length-append}
use Rattle.std.specs.List.{slice_get, list_any}
use Rattle.std.proofs.lemmas.List.{length-map, map-append}
use Rattle.std.proofs.lemmas.List.Elements.{All-append, All-map}
use Rattle.std.proofs.lemmas.Option.{none-some, same_Some}
use Rattle.tc_desk.specs.Decided.{IsDecided}
use Rattle.tc_lists.proofs.Elements.{All-append_left, All-append_right, All-from_slice_get, All-slice_get}
use Rattle.tc_lists.proofs.Sets.{slice_get-map_at, slice_get-map_from}
use Rattle.tc_model.specs.declared.asks.Primitive.{Primitive}
use Rattle.tc_policy.specs.declared.grants.Grant.{Grant}
use Rattle.tc_site.specs.Desks.{IsDecidedLog, WardenPermits}
use Rattle.tc_site.specs.Sites.{AreOfSite, EndedDeskState, KitState, SiteState}
use Rattle.tc_visits.specs.Service.{lacked_memory, log_left}
use Rattle.tc_visits.specs.Serving.{AreKitsOf, desk_left, desk_unused, kit_of}
use Rattle.tc_visits.specs.Sessions.{IsSessionAt, SessionState}
use Rattle.tc_visits.specs.Visits.{IsVisit, VisitState, session_of}

-- the desks that visits and idle kits leave
abbrev pub left_desks : List VisitState → List (KitState (List Grant)) → List (EndedDeskState (List Grant))
left_desks visits idle = map desk_left visits ++ map desk_unused idle

-- a desk of a kit whose agent has made no call
pub desk-unused : (kit : KitState (List Grant)) (e : EndedDeskState (List Grant)) → e.site ≡ kit.site → e.agent ≡ kit.agent → e.log ≡ [] → e ≡ desk_unused kit
desk-unused kit e site agent log = λ i. record { site = site i; agent = agent i; log = log i }

-- the kit of a desk that has ended
abbrev ended_kit : EndedDeskState (List Grant) → KitState (List Grant)
ended_kit e = record { site = e.site; agent = e.agent }

map_after : {X Y Z : Type 0} (g : Y → Z) (f : X → Y) (h : X → Z) (xs : List X) → ((x : X) → g (f x) ≡ h x) → map g (map f xs) ≡ map h xs
map_after g f h [] same = refl
map_after g f h (x ∷ xs) same = λ i. same x i ∷ map_after g f h xs same i

map_back : {X Y : Type 0} (g : Y → X) (f : X → Y) (xs : List X) → ((x : X) → g (f x) ≡ x) → map g (map f xs) ≡ xs
map_back g f [] same = refl
map_back g f (x ∷ xs) same = λ i. same x i ∷ map_back g f xs same i

kits-left : (visits : List VisitState) (idle : List (KitState (List Grant))) → map ended_kit (left_desks visits idle) ≡ map kit_of visits ++ idle
kits-left visits idle =
    map-append ended_kit (map desk_left visits) (map desk_unused idle)
    ∙ ap (λ ks. ks ++ map ended_kit (map desk_unused idle)) (map_after ended_kit desk_left kit_of visits (λ v. refl))
    ∙ ap (λ ks. map kit_of visits ++ ks) (map_back ended_kit desk_unused idle (λ k. refl))

-- a log without a row is decided
unasked-decided : (permits : ℕ → Primitive → Type 0) (names : List (List ℕ)) → IsDecided permits names []
unasked-decided permits names = record {
  read = λ k row ask at asked. absurd (none-some row at);
  decided = λ k row ask place at asked named. absurd (none-some row at);
}

module _ (s : SiteState (List Grant)) (kits : List (KitState (List Grant)))
    (every : AreOfSite (λ (k : KitState (List Grant)). k.site) (λ (k : KitState (List Grant)). k.agent) s kits) where
  -- the kits are of their site
  pub kits-of : AreKitsOf s kits
  kits-of = All-from_slice_get (λ (k : KitState (List Grant)). k.site ≡ s) kits (λ n k at. (every.each n k at).0)

  module _ (visits : List VisitState) (idle : List (KitState (List Grant))) (are : map kit_of visits ++ idle ≡ kits) where
    pub idle-of : AreKitsOf s idle
    idle-of =
        All-append_right (λ (k : KitState (List Grant)). k.site ≡ s) (map kit_of visits) idle
        (subst (All (λ (k : KitState (List Grant)). k.site ≡ s)) (sym are) kits-of)

    desk-kit : (n : ℕ) (e : EndedDeskState (List Grant)) → slice_get (left_desks visits idle) n ≡ Some e → slice_get kits n ≡ Some (ended_kit e)
    desk-kit n e at =
        ap (λ ks. slice_get ks n) (sym (kits-left visits idle ∙ are)) ∙ slice_get-map_at ended_kit (left_desks visits idle) n e at

    -- the desks are those of the site's agents
    pub desks-of : AreOfSite (λ (e : EndedDeskState (List Grant)). e.site) (λ (e : EndedDeskState (List Grant)). e.agent) s (left_desks visits idle)
    desks-of = record {
      whole = sym (length-map (left_desks visits idle) ended_kit) ∙ ap length (kits-left visits idle ∙ are) ∙ every.whole;
      each = λ n e at. every.each n (ended_kit e) (desk-kit n e at);
    }

    pub visits-count : length visits + length idle ≡ length s.roles
    visits-count =
        let all = ap length are in
        let whole = every.whole in
        omega (arith, all, whole, length-append (map kit_of visits) idle, length-map visits kit_of)

    visit-site : (n : ℕ) (v : VisitState) → slice_get visits n ≡ Some v → v.site ≡ s
    visit-site n v at =
        All-slice_get (λ (k : KitState (List Grant)). k.site ≡ s) (map kit_of visits) n (kit_of v)
        (All-append_left (λ (k : KitState (List Grant)). k.site ≡ s) (map kit_of visits) idle
        (subst (All (λ (k : KitState (List Grant)). k.site ≡ s)) (sym are) kits-of))
        (slice_get-map_at kit_of visits n v at)

    module _ (permits : List Grant → ℕ → ℕ → Primitive → Option ℕ) (all : All (IsVisit permits) visits) where
      -- the sessions were at the site's centres
      pub were-sessions : All (IsSessionAt s.names) (map session_of visits)
      were-sessions =
          All-from_slice_get (IsSessionAt s.names) (map session_of visits)
          (λ n x at.
          let v = slice_get-map_from session_of visits n x at in
          subst (IsSessionAt s.names) v.2
          (subst (λ (t : SiteState (List Grant)). IsSessionAt t.names (session_of v.0)) (visit-site n v.0 v.1)
          (All-slice_get (IsVisit permits) visits n v.0 all v.1).session))

      -- and what each desk's log says is decided
      pub desk-decided : (n : ℕ) (e : EndedDeskState (List Grant)) → slice_get (left_desks visits idle) n ≡ Some e → IsDecidedLog permits s n e.log
      desk-decided n e at =
          let D : EndedDeskState (List Grant) → Type 0 = λ d. IsDecidedLog permits d.site d.agent d.log in
          let each : All D (left_desks visits idle) =
          All-append D (map desk_left visits) (map desk_unused idle) (All-map D desk_left visits (λ k d inside. (all k d inside).decided))
          (All-map D desk_unused idle (λ k d inside role has. unasked-decided (WardenPermits permits (get_or idle k d).site.warden role) (get_or idle k d).site.names)) in
          let is = desks-of.each n e at in
          subst (λ a. IsDecidedLog permits s a e.log) is.1
          (subst (λ (t : SiteState (List Grant)). IsDecidedLog permits t e.agent e.log) is.0 (All-slice_get D (left_desks visits idle) n e each at))

-- the log of each desk is the one that the agent's session has left
pub log-left : (visits : List VisitState) (idle : List (KitState (List Grant))) (n : ℕ) (e : EndedDeskState (List Grant)) → slice_get (left_desks visits idle) n ≡ Some e
    → log_left (map session_of visits) n ≡ e.log
log-left [] idle n e at = let k = slice_get-map_from desk_unused idle n e at in ap (λ (d : EndedDeskState (List Grant)). d.log) k.2
log-left (v ∷ visits) idle zero e at = ap (λ (d : EndedDeskState (List Grant)). d.log) (same_Some (desk_left v) e at)
log-left (v ∷ visits) idle (suc n) e at = log-left visits idle n e at

-- what the sessions of visits are
pub connections-of : (visits : List VisitState) → map (λ (s : SessionState). s.connection) (map session_of visits) ≡ map (λ (v : VisitState). v.connection) visits
connections-of visits = map_after (λ (s : SessionState). s.connection) session_of (λ (v : VisitState). v.connection) visits (λ v. refl)

pub lacked-of : (visits : List VisitState) → list_any (λ (s : SessionState). lacked_memory s.end) (map session_of visits) ≡ list_any (λ (v : VisitState). lacked_memory v.end) visits
lacked-of [] = refl
lacked-of (v ∷ visits) = ap (λ b. lacked_memory v.end || b) (lacked-of visits)
