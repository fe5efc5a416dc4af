-- The agents as they sit down at their desks.
use Rattle.std.proofs.Common.{◌≡◌, ◌∙◌, ℕ, suc, ◌+◌, ◌<◌, List, [], ◌∷◌, ◌++◌, Option, Some, length, map, get_or, take, refl, sym, ap, subst, arith, ⊎_elim, length-append, take_all}
use Rattle.std.specs.List.{slice_get}
use Rattle.std.proofs.lemmas.List.{length-map, map-append}
use Rattle.std.proofs.lemmas.Option.{none-some, slice_get-get_or, get_or_from_slice_get}
use Rattle.tc_config.specs.declared.configs.AgentConf.{AgentConf}
use Rattle.tc_lists.proofs.Parts.{take_read}
use Rattle.tc_lists.proofs.Places.{slice_get_push}
use Rattle.tc_model.specs.Scripts.{Lines}
use Rattle.tc_model.specs.declared.asks.Primitive.{Primitive}
use Rattle.tc_lists.proofs.Sets.{slice_get-map_at}
use Rattle.tc_sched.specs.Clients.{Client}
use Rattle.tc_site.specs.Desks.{AgentState}
use Rattle.tc_site.specs.Sites.{AreOfSite, KitState, SiteState}
use Rattle.tc_workers.specs.Crews.{AreAtDesks, IsAtDesk}

abbrev pub scripts_of : {W : Type 0} → Client (AgentState W) → List Lines
scripts_of c = c.scripts

abbrev pub scripts_in : AgentConf → List Lines
scripts_in a = a.scripts

module _ {W : Type 0} (permits : W → ℕ → ℕ → Primitive → Option ℕ) (s : SiteState W) where
  -- so many kits are left of the agents', whose first ones sit at their desks
  pub record Seating (agents : List AgentConf) (rest : List (KitState W)) (crew : List (Client (AgentState W))) : Type 0 where
    pub many : length crew + length rest ≡ length agents
    pub kits : (k : ℕ) (v : KitState W) → slice_get rest k ≡ Some v → (v.site ≡ s) × (v.agent ≡ length crew + k)
    pub scripts : map scripts_of crew ≡ take (length crew) (map scripts_in agents)
    pub each : (k : ℕ) (c : Client (AgentState W)) → slice_get crew k ≡ Some c → IsAtDesk permits s k c

  -- at first none does
  pub seating-none : (agents : List AgentConf) (kits : List (KitState W)) (crew : List (Client (AgentState W))) → length agents ≡ length kits
      → AreOfSite (λ (k : KitState W). k.site) (λ (k : KitState W). k.agent) s kits → crew ≡ [] → Seating agents kits crew
  seating-none agents kits crew whole are none =
      subst (Seating agents kits) (sym none) (record {
        many = omega (arith, whole);
        kits = λ k v at. let is = are.each k v at in (is.0, omega (arith, is.1));
        scripts = refl;
        each = λ k c at. absurd (none-some c at);
      })

  module _ (agents : List AgentConf) (kit : KitState W) (rest : List (KitState W)) (crew : List (Client (AgentState W)))
      (seating : Seating agents (kit ∷ rest) crew) where
    pub within : length crew < length agents
    within = let many = seating.many in omega (arith, many)

    -- the next agent sits down
    pub seating-more : (a : AgentConf) (c : Client (AgentState W)) → a ≡ get_or agents (length crew) a → c.scripts ≡ a.scripts → IsAtDesk permits s (length crew) c
        → Seating agents rest (crew ++ c ∷ [])
    seating-more a c is same at =
        let n : ℕ = length crew in
        let there : slice_get agents n ≡ Some a = slice_get-get_or agents n a within ∙ ap Some (sym is) in
        let one : length (crew ++ c ∷ []) ≡ suc n = omega (arith, length-append crew (c ∷ [])) in
        let next : n + 1 ≡ length (crew ++ c ∷ []) = omega (arith, one) in
        record {
          many = let many = seating.many in omega (arith, many, one);
          kits = λ k v here. let next = seating.kits (suc k) v here in (next.0, omega (arith, next.1, one));
          scripts =
              map-append scripts_of crew (c ∷ []) ∙ ap (λ ss. ss ++ c.scripts ∷ []) seating.scripts
              ∙ ap (λ x. take n (map scripts_in agents) ++ x ∷ []) same
              ∙ sym (take_read (map scripts_in agents) n a.scripts (omega (arith, within, length-map agents scripts_in))
              (sym (get_or_from_slice_get (map scripts_in agents) n a.scripts a.scripts (slice_get-map_at scripts_in agents n a there))))
              ∙ ap (λ m. take m (map scripts_in agents)) next;
          each = λ k x here.
              ⊎_elim
              (λ (before : (k < n) × (slice_get crew k ≡ Some x)). seating.each k x before.1)
              (λ (last : (k ≡ n) × (x ≡ c)). subst (λ j. IsAtDesk permits s j x) (sym last.0) (subst (IsAtDesk permits s n) (sym last.1) at))
              (slice_get_push crew c k x here);
        }

  -- at last all do
  pub seated : (agents : List AgentConf) (rest : List (KitState W)) (crew : List (Client (AgentState W))) → length rest ≡ 0
      → Seating agents rest crew → AreAtDesks permits s agents crew
  seated agents rest crew none seating = record {
    scripts =
        let many = seating.many in
        seating.scripts ∙ take_all (length crew) (map scripts_in agents) (omega (arith, many, none, length-map agents scripts_in));
    each = seating.each;
  }
