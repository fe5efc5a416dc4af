-- The agents of a site as they sit down at their desks.
use Rattle.std.proofs.Common.{◌≡◌, ◌∙◌, ℕ, suc, ◌+◌, ◌<◌, List, [], ◌∷◌, ◌++◌, Option, Some, length, map, refl, sym, ap, subst, arith, ⊎_elim, append-nil, append_assoc, length-append}
use Rattle.std.specs.List.{slice_get}
use Rattle.std.proofs.lemmas.List.{length-map, map-append}
use Rattle.std.proofs.lemmas.Option.{none-some}
use Rattle.tc_config.specs.declared.configs.AgentConf.{AgentConf}
use Rattle.tc_lists.proofs.Places.{slice_get_push}
use Rattle.tc_model.specs.declared.asks.Primitive.{Primitive}
use Rattle.tc_sched.specs.Clients.{Client}
use Rattle.tc_site.specs.Desks.{AgentState}
use Rattle.tc_site.specs.Sites.{AreOfSite, KitState, SiteState, roles_of}
use Rattle.tc_workers.specs.Crews.{AreAtDesks, IsAtDesk}
use Rattle.tc_workers.proofs.Seating.{scripts_in, scripts_of}

module _ {W : Type 0} (permits : W → ℕ → ℕ → Primitive → Option ℕ) (s : SiteState W) (all : List AgentConf) where
  -- so many kits and agents are left of all agents; those before sit at their desks, with their scripts
  pub record Seated (kits : List (KitState W)) (agents : List AgentConf) (crew : List (Client (AgentState W))) : Type 0 where
    pub count : length crew + length agents ≡ length all
    pub many : length kits ≡ length agents
    pub kits_are : (k : ℕ) (v : KitState W) → slice_get kits k ≡ Some v → (v.site ≡ s) × (v.agent ≡ length crew + k)
    pub scripts : map scripts_of crew ++ map scripts_in agents ≡ map scripts_in all
    pub each : (k : ℕ) (c : Client (AgentState W)) → slice_get crew k ≡ Some c → IsAtDesk permits s k c

  -- at first nobody does
  pub seated-none : (kits : List (KitState W)) (crew : List (Client (AgentState W)))
      → AreOfSite (λ (k : KitState W). k.site) (λ (k : KitState W). k.agent) s kits → s.roles ≡ roles_of all → crew ≡ [] → Seated kits all crew
  seated-none kits crew are same none =
      subst (Seated kits all) (sym none) (record {
        count = omega arith;
        many = let whole = are.whole in omega (arith, whole, ap length same, length-map all (λ (a : AgentConf). a.role));
        kits_are = λ k v at. let is = are.each k v at in (is.0, omega (arith, is.1));
        scripts = refl;
        each = λ k c at. absurd (none-some c at);
      })

  -- the next one does
  pub seated-more : (kit : KitState W) (kits : List (KitState W)) (agent : AgentConf) (agents : List AgentConf) (crew : List (Client (AgentState W)))
      (c : Client (AgentState W)) → Seated (kit ∷ kits) (agent ∷ agents) crew → c.scripts ≡ agent.scripts → IsAtDesk permits s (length crew) c
      → Seated kits agents (crew ++ c ∷ [])
  seated-more kit kits agent agents crew c seated same at =
      let one : length (crew ++ c ∷ []) ≡ length crew + 1 = omega (arith, length-append crew (c ∷ [])) in
      record {
        count = let n = seated.count in omega (arith, n, one);
        many = let n = seated.many in omega (arith, n);
        kits_are = λ k v here. let next = seated.kits_are (suc k) v here in (next.0, omega (arith, next.1, one));
        scripts =
            ap (λ xs. xs ++ map scripts_in agents) (map-append scripts_of crew (c ∷ []))
            ∙ append_assoc (map scripts_of crew) (c.scripts ∷ []) (map scripts_in agents)
            ∙ ap (λ x. map scripts_of crew ++ x ∷ map scripts_in agents) same
            ∙ seated.scripts;
        each = λ k x here.
            ⊎_elim
            (λ (before : (k < length crew) × (slice_get crew k ≡ Some x)). seated.each k x before.1)
            (λ (last : (k ≡ length crew) × (x ≡ c)). subst (λ j. IsAtDesk permits s j x) (sym last.0) (subst (IsAtDesk permits s (length crew)) (sym last.1) at))
            (slice_get_push crew c k x here);
      }

  -- at last all do
  pub seated-all : (kits : List (KitState W)) (agents : List AgentConf) (crew : List (Client (AgentState W))) → length kits ≡ 0
      → Seated kits agents crew → AreAtDesks permits s all crew
  seated-all kits [] crew none seated = record {
    scripts = sym (append-nil (map scripts_of crew)) ∙ seated.scripts;
    each = seated.each;
  }
  seated-all kits (a ∷ agents) crew none seated = absurd (let n = seated.many in omega (arith, n, none))
