-- Cores and logs of which nothing has happened yet.
use Rattle.std.proofs.Common.{◌≡◌, ℕ, ◌==◌, true, false, cond, List, [], ◌∷◌, Some, All, length, map, refl, sym, ap, ◌∙◌, subst, arith}
use Rattle.std.specs.List.{slice_get}
use Rattle.std.proofs.lemmas.List.Elements.{All-cons, All-head, All-map, All-nil, All-tail}
use Rattle.std.proofs.lemmas.Bool.{ne_eqb}
use Rattle.std.proofs.lemmas.List.{length-map}
use Rattle.std.proofs.lemmas.Option.{none-some}
use Rattle.tc_centre.specs.Centre.{Centre}
use Rattle.tc_config.specs.Configurations.{Configuration, IsConfig}
use Rattle.tc_config.specs.Good.{Follows, IsHistory, IsNoLook, IsServedNumber, origin_of}
use Rattle.tc_config.specs.declared.configs.AgentConf.{AgentConf}
use Rattle.tc_config.specs.declared.configs.CentreConf.{CentreConf}
use Rattle.tc_desk.specs.declared.rows.LogRow.{LogRow}
use Rattle.tc_lists.proofs.Elements.{All-slice_get}
use Rattle.tc_model.proofs.Runs.{EachEntry-none}
use Rattle.tc_model.specs.Calls.{calls_of, id_of}
use Rattle.tc_model.specs.Choices.{TheFirst}
use Rattle.tc_model.specs.Run.{IsLegal}
use Rattle.tc_model.specs.State.{IsName, Origin, opening, origin_from}
use Rattle.tc_model.specs.declared.entries.Entry.{Entry}
use Rattle.tc_runner.specs.Cores.{AreCores, Goes, histories, histories_of}
use Rattle.tc_runner.specs.Plans.{AreAgentNames, fresh_core, fresh_cores, names_of}

-- each centre has a history
pub histories-whole : (ss : List CentreConf) (xs : List Centre) → length (histories_of ss xs) ≡ length ss
histories-whole [] xs = refl
histories-whole (s ∷ ss) [] = let rest = histories-whole ss [] in omega (arith, rest)
histories-whole (s ∷ ss) (x ∷ xs) = let rest = histories-whole ss xs in omega (arith, rest)

-- an empty one, where no core has served anything
pub histories-empty : (ss : List CentreConf) (xs : List Centre) (k : ℕ) (h : List Entry) → All (λ (x : Centre). x.history ≡ []) xs
    → slice_get (histories_of ss xs) k ≡ Some h → h ≡ []
histories-empty ss xs k h unserved at = All-slice_get (λ h. h ≡ []) (histories_of ss xs) k h (all-empty ss xs unserved) at
  where
    all-empty : (ss : List CentreConf) (xs : List Centre) → All (λ (x : Centre). x.history ≡ []) xs → All (λ h. h ≡ []) (histories_of ss xs)
    all-empty [] xs none = All-nil (λ h. h ≡ [])
    all-empty (s ∷ ss) [] none = All-cons (λ h. h ≡ []) [] (histories_of ss []) refl (all-empty ss [] none)
    all-empty (s ∷ ss) (x ∷ xs) none =
        let P : Centre → Type 0 = λ y. y.history ≡ [] in
        All-cons (λ h. h ≡ []) x.history (histories_of ss xs) (All-head P x xs none) (all-empty ss xs (All-tail P x xs none))

pub empty-history : (origin : Origin) → IsHistory TheFirst origin []
empty-history origin = record {
  run = EachEntry-none (IsLegal TheFirst origin) (opening origin);
  quiescent = λ r stands. absurd (omega (arith, stands.1));
  looks = All-nil IsNoLook;
}

-- a run of which nothing has happened yet may go on
pub Goes-fresh : (c : Configuration) (cores : List Centre) (logs : List (List LogRow)) → AreCores c cores
    → All (λ (x : Centre). x.history ≡ []) cores → length logs ≡ length c.agents → All (λ (log : List LogRow). log ≡ []) logs → Goes c cores logs
Goes-fresh c cores logs are unserved whole unasked =
    let empty : (place : ℕ) (h : List Entry) → slice_get (histories c cores) place ≡ Some h → h ≡ [] =
    λ place h at. histories-empty c.centres cores place h unserved at in
    let no-row : (agent : ℕ) (log : List LogRow) → slice_get logs agent ≡ Some log → log ≡ [] =
    λ agent log at. All-slice_get (λ (l : List LogRow). l ≡ []) logs agent log unasked at in
    record {
      are = are;
      going = record {
        runs = record {
          whole = histories-whole c.centres cores;
          each = λ place s h known at. subst (IsHistory TheFirst (origin_of c s)) (sym (empty place h at)) (empty-history (origin_of c s));
        };
        follow = record {
          whole = whole;
          each = λ agent a log stands at.
              subst (Follows c (histories c cores) agent a) (sym (no-row agent log at)) (record {
                rows = λ k row here. absurd (none-some row here);
                last = λ k row here. absurd (none-some row here);
                calls = λ place h there.
                    subst (λ es. All (λ e. IsServedNumber a [] place (id_of e).number) (calls_of agent es)) (sym (empty place h there))
                    (All-nil (λ e. IsServedNumber a [] place (id_of e).number));
              });
        };
      };
    }

-- the names of configured agents
pub AreAgentNames-config : (c : Configuration) → IsConfig c → AreAgentNames (names_of c.agents)
AreAgentNames-config c config =
    let name : AgentConf → List ℕ = λ a. a.name in
    record {
      are = All-map IsName name c.agents (λ k d inside. (config.agents k d inside).name);
      differ = config.agents_differ;
      few = omega (arith, config.few_agents, length-map c.agents name);
    }

origins-fresh : (names : List (List ℕ)) (ss : List CentreConf)
    → map (λ (x : Centre). x.origin) (map (fresh_core names) ss) ≡ map (λ (s : CentreConf). origin_from s.name names s.budget s.tuples s.clauses) ss
origins-fresh names [] = refl
origins-fresh names (s ∷ ss) = ap (λ t. origin_from s.name names s.budget s.tuples s.clauses ∷ t) (origins-fresh names ss)

-- fresh cores are those of their configuration
pub AreCores-fresh : (c : Configuration) → AreCores c (fresh_cores c.agents c.centres)
AreCores-fresh c some =
    let all : List Centre = map (fresh_core (names_of c.agents)) c.centres in
    ap (λ b. map (λ (x : Centre). x.origin) (cond b [] all)) (ne_eqb (length c.agents) 0 (λ none. omega (arith, none, some)))
    ∙ origins-fresh (names_of c.agents) c.centres

-- and have served nothing
pub unserved-fresh : (agents : List AgentConf) (ss : List CentreConf) → All (λ (x : Centre). x.history ≡ []) (fresh_cores agents ss)
unserved-fresh agents ss =
    let P : Centre → Type 0 = λ x. x.history ≡ [] in
    let all : List Centre = map (fresh_core (names_of agents)) ss in
    elim (length agents == 0) as (λ b. All P (cond b [] all))
    [ true ↦ All-nil P | false ↦ All-map P (fresh_core (names_of agents)) ss (λ k d inside. refl) ]

-- without an agent no centre is opened
pub fresh-none : (agents : List AgentConf) (centres : List CentreConf) → length agents ≡ 0 → fresh_cores agents centres ≡ []
fresh-none [] centres none = refl
fresh-none (a ∷ agents) centres none = absurd (omega (arith, none))
