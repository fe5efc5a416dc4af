-- The centre of each item of an agent is there.
use Rattle.std.proofs.Common.{◌≡◌, ℕ, ◌+◌, ◌<◌, List, [], ◌∷◌, Some, All, length, slice_get}
use Rattle.std.proofs.lemmas.List.Elements.{All-append, All-head, All-map, All-nil, All-tail}
use Rattle.tc_config.specs.Configurations.{Configuration, HasCentres, IsAgent, IsConfig}
use Rattle.tc_config.specs.declared.configs.AgentConf.{AgentConf}
use Rattle.tc_desk.specs.Asks.{ScriptStep, steps_at, steps_from, steps_of}
use Rattle.tc_lists.proofs.Elements.{All-slice_get}
use Rattle.tc_model.specs.Scripts.{Lines}
use Rattle.tc_model.specs.declared.scripts.ScriptItem.{ScriptItem}

steps-placed : (c : Configuration) (place : ℕ) (scripts : List Lines) → All (HasCentres c) scripts
    → All (λ (s : ScriptStep). s.item.centre < length c.centres) (steps_from place scripts)
steps-placed c place [] all = All-nil (λ (s : ScriptStep). s.item.centre < length c.centres)
steps-placed c place (s ∷ ss) all =
    let P : ScriptStep → Type 0 = λ t. t.item.centre < length c.centres in
    let here : All P (steps_at place s) =
    All-map P (λ (i : ScriptItem). record { script = place; vars = s.vars; item = i }) s.items (All-head (HasCentres c) s ss all) in
    All-append P (steps_at place s) (steps_from (place + 1) ss) here
    (steps-placed c (place + 1) ss (All-tail (HasCentres c) s ss all))

pub step-placed : (c : Configuration) (agent : ℕ) (a : AgentConf) (k : ℕ) (step : ScriptStep) → IsConfig c → slice_get c.agents agent ≡ Some a
    → slice_get (steps_of a.scripts) k ≡ Some step → step.item.centre < length c.centres
step-placed c agent a k step config stands at =
    let is : IsAgent c a = All-slice_get (IsAgent c) c.agents agent a config.agents stands in
    All-slice_get (λ (s : ScriptStep). s.item.centre < length c.centres) (steps_of a.scripts) k step (steps-placed c 0 a.scripts is.scripts) at
