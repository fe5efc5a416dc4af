-- Items of scripts, by their places.
use Rattle.std.proofs.Common.{◌≡◌, ℕ, ◌+◌, ◌-◌, ◌<◌, ◌≤◌, List, [], ◌∷◌, Some, All, length, get_or, drop, refl, sym, ap, ◌∙◌, subst, arith}
use Rattle.std.specs.List.{slice_get}
use Rattle.std.proofs.lemmas.List.Elements.{All-append, All-head, All-map, All-nil, All-tail}
use Rattle.std.proofs.lemmas.Option.{none-some, same_Some, slice_get_read}
use Rattle.std.proofs.lemmas.List.{drop_all, length-map}
use Rattle.tc_config.specs.Configurations.{Configuration, HasCentres, IsAgent, IsConfig}
use Rattle.tc_config.specs.declared.configs.AgentConf.{AgentConf}
use Rattle.tc_desk.specs.Asks.{ScriptStep, steps_at, steps_from, steps_of}
use Rattle.tc_lists.proofs.Elements.{All-slice_get}
use Rattle.tc_lists.proofs.Parts.{drop_read}
use Rattle.tc_lists.proofs.Places.{slice_get_longer, slice_get_behind}
use Rattle.tc_model.specs.Scripts.{Lines}
use Rattle.tc_model.specs.declared.scripts.ScriptItem.{ScriptItem}
use Rattle.tc_lists.proofs.Sets.{slice_get-map_at, slice_get_inside}

steps-placed : (c : Configuration) (place : ℕ) (scripts : List Lines) → All (HasCentres c) scripts
    → All (λ (s : ScriptStep). s.item.centre < length c.centres) (steps_from place scripts)
steps-placed c place [] all = All-nil (λ (s : ScriptStep). s.item.centre < length c.centres)
steps-placed c place (s ∷ ss) all =
    let P : ScriptStep → Type 0 = λ t. t.item.centre < length c.centres in
    let here : All P (steps_at place s) =
    All-map P (λ (i : ScriptItem). record { script = place; vars = s.vars; item = i }) s.items (All-head (HasCentres c) s ss all) in
    All-append P (steps_at place s) (steps_from (place + 1) ss) here
    (steps-placed c (place + 1) ss (All-tail (HasCentres c) s ss all))

-- the centre of each item of an agent is there
pub item-placed : (c : Configuration) (agent : ℕ) (a : AgentConf) (k : ℕ) (step : ScriptStep) → IsConfig c → slice_get c.agents agent ≡ Some a
    → slice_get (steps_of a.scripts) k ≡ Some step → step.item.centre < length c.centres
item-placed c agent a k step config stands at =
    let is : IsAgent c a = All-slice_get (IsAgent c) c.agents agent a config.agents stands in
    All-slice_get (λ (s : ScriptStep). s.item.centre < length c.centres) (steps_of a.scripts) k step (steps-placed c 0 a.scripts is.scripts) at

-- the item at a place of the script at hand
pub step-here : (scripts : List Lines) (i left : ℕ) (s : Lines) (item : ScriptItem) (step : ScriptStep) → i < length scripts → s ≡ get_or scripts i s
    → left < length s.items → item ≡ get_or s.items left item → slice_get (steps_from i (drop i scripts)) left ≡ Some step → step.item ≡ item
step-here scripts i left s item step within read inside at there =
    let P : List Lines → Type 0 = λ ss. slice_get (steps_from i ss) left ≡ Some step in
    let make : ScriptItem → ScriptStep = λ x. record { script = i; vars = s.vars; item = x } in
    let front : slice_get (steps_at i s) left ≡ Some (make item) =
    slice_get-map_at make s.items left item (slice_get_read s.items (length s.items) left item refl inside at) in
    ap (λ (t : ScriptStep). t.item)
    (same_Some step (make item)
    (sym (subst P (drop_read scripts i s within read) there)
    ∙ slice_get_longer (steps_at i s) (steps_from (i + 1) (drop (i + 1) scripts)) left (make item) front))

-- a place behind the script at hand
pub step-behind : (scripts : List Lines) (i left : ℕ) (s : Lines) → i < length scripts → s ≡ get_or scripts i s → length s.items ≤ left
    → slice_get (steps_from i (drop i scripts)) left ≡ slice_get (steps_from (i + 1) (drop (i + 1) scripts)) (left - length s.items)
step-behind scripts i left s within read past =
    let make : ScriptItem → ScriptStep = λ x. record { script = i; vars = s.vars; item = x } in
    let many = length-map s.items make in
    ap (λ ss. slice_get (steps_from i ss) left) (drop_read scripts i s within read)
    ∙ slice_get_behind (steps_at i s) (steps_from (i + 1) (drop (i + 1) scripts)) left (left - length s.items) (omega (arith, past, many))

-- nothing is left behind the last script
pub step-gone : (scripts : List Lines) (i left place : ℕ) → length scripts ≤ i → place < length (steps_of scripts)
    → slice_get (steps_of scripts) place ≡ slice_get (steps_from i (drop i scripts)) left → ⊥
step-gone scripts i left place past inside at =
    let step = slice_get_inside (steps_of scripts) place inside in
    none-some step.0 (ap (λ ss. slice_get (steps_from i ss) left) (sym (drop_all i scripts past)) ∙ sym at ∙ step.1)
