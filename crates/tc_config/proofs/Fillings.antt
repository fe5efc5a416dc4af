-- Drafts in which a centre has one more tuple or clause, and an agent one more script.
use Rattle.std.proofs.Common.{◌≡◌, ◌<◌, ◌≤◌, ◌+◌, ℕ, zero, suc, Option, Some, None, IfSome, Any, List, [], ◌∷◌, All, length, map, slice_get, get_or, Global, Vec, refl, sym, subst, ap, ◌∙◌, arith}
use Rattle.std.proofs.lemmas.List.{length-map}
use Rattle.std.proofs.lemmas.List.Elements.{All-weaker}
use Rattle.std.proofs.lemmas.Option.{get_or_from_slice_get, same_Some}
use Rattle.tc_term.specs.TreeView.{tree_of}
use Rattle.tc_term.specs.declared.terms.Term.{Term}
use Rattle.tc_model.specs.Reactions.{Rule}
use Rattle.tc_model.specs.declared.limits.TheConstants.{MOST_CLAUSES}
use Rattle.tc_model.specs.declared.scripts.ScriptItem.{ScriptItem}
use Rattle.tc_spec.specs.Written.{IsWrittenAs}
use Rattle.tc_config.specs.Causes.{IsFaulty, IsFaultless, IsFirstFault, rank}
use Rattle.tc_config.specs.Configurations.{Configuration, IsConfig, agent_names, centre_names, configuration, items_in}
use Rattle.tc_config.specs.Drafts.{IsDraft, config_of}
use Rattle.tc_config.specs.Meanings.{AreItems, changed, with_script}
use Rattle.tc_config.specs.Names.{IsUnknown}
use Rattle.tc_names.specs.Names.{place_of}
use Rattle.tc_config.specs.declared.configs.AgentConf.{AgentConf}
use Rattle.tc_config.specs.declared.configs.CentreConf.{CentreConf}
use Rattle.tc_config.specs.declared.draft.Draft.{Draft}
use Rattle.tc_config.specs.declared.faults.ConfigCause.{ConfigCause}
use Rattle.tc_config.specs.declared.faults.ConfigCause.TheVariants as cause
use Rattle.tc_config.specs.declared.forms.Form.TheVariants.{Spec, Script}
use Rattle.tc_model.specs.declared.lines.Line.{Line}
use Rattle.tc_config.specs.declared.limits.TheConstants.{MOST_ITEMS}
use Rattle.tc_config.proofs.Changed.{map-changed}
use Rattle.tc_config.proofs.Growth.{items-scripts}
use Rattle.tc_config.proofs.Items.{centres-within}

-- a centre has changed
pub draft-centres : (d : Draft) (centres : Vec CentreConf Global) (f : CentreConf → CentreConf) (k : ℕ) → IsDraft d
    → ((s : CentreConf) → (f s).name ≡ s.name)
    → IsConfig (configuration (changed k f d.centres.items) d.role_names.items d.roles d.agents.items)
    → centres.items ≡ changed k f d.centres.items → IsDraft (record d { centres = centres })
draft-centres d centres f k h named config grown = record {
  config =
      subst (λ xs. IsConfig (configuration xs d.role_names.items d.roles d.agents.items)) (sym grown) config;
  centres =
      h.centres ∙ sym (map-changed f (λ (x : CentreConf). x.name) d.centres.items k named)
      ∙ ap (map (λ (x : CentreConf). x.name)) (sym grown);
  roles = h.roles;
  agents = h.agents;
  items = h.items;
}

-- an agent has one more script
pub draft-script : (d : Draft) (agents : Vec AgentConf Global) (count vars : ℕ) (items : List ScriptItem) (k : ℕ) → IsDraft d
    → k < length d.agents.items → length items ≡ count
    → IsConfig (configuration d.centres.items d.role_names.items d.roles (changed k (with_script vars items) d.agents.items))
    → agents.items ≡ changed k (with_script vars items) d.agents.items
    → IsDraft (record d { agents = agents; items = d.items + count })
draft-script d agents count vars items k h inside long config grown = record {
  config =
      subst (λ xs. IsConfig (configuration d.centres.items d.role_names.items d.roles xs)) (sym grown) config;
  centres = h.centres;
  roles = h.roles;
  agents =
      h.agents ∙ sym (map-changed (with_script vars items) (λ (x : AgentConf). x.name) d.agents.items k (λ a. refl))
      ∙ ap (map (λ (x : AgentConf). x.name)) (sym grown);
  items =
      let more = items-scripts (config_of d) vars items k inside in
      let same : items_in (configuration d.centres.items d.role_names.items d.roles (changed k (with_script vars items) d.agents.items))
      ≡ items_in (configuration d.centres.items d.role_names.items d.roles agents.items) =
      ap (λ xs. items_in (configuration d.centres.items d.role_names.items d.roles xs)) (sym grown) in
      omega (arith, h.items, long, more, same);
}

-- nothing is wrong with a clause of a centre
pub room_at : (xs : List CentreConf) (k : ℕ) (found : CentreConf) (clauses : List Rule) → clauses ≡ found.clauses
    → found ≡ get_or xs k found → length clauses < MOST_CLAUSES
    → (s : CentreConf) → slice_get xs k ≡ Some s → length s.clauses < MOST_CLAUSES
room_at xs k found clauses are is few s at =
    let same : found ≡ s = is ∙ get_or_from_slice_get xs k s found at in
    omega (arith, few, ap (λ (x : List Rule). length x) are, ap (λ (x : CentreConf). length x.clauses) same)

faultless-spec : (c : Configuration) (n : List ℕ) (t : Term) (r : Rule) (k : ℕ) → place_of (centre_names c) n ≡ Some k
    → IsWrittenAs (tree_of t) r → ((s : CentreConf) → slice_get c.centres k ≡ Some s → length s.clauses < MOST_CLAUSES)
    → (why : ConfigCause) → IsFaulty c (Spec n t) why → ⊥
faultless-spec c n t r k at written room cause.Reaction h = h r written
faultless-spec c n t r k at written room cause.UnknownCentre h = let never : None ≡ Some k = sym h ∙ at in cc
faultless-spec c n t r k at written room cause.Count h =
    let same : h.place ≡ k = same_Some h.place k (sym h.named ∙ at) in
    let less = room h.centre (ap (slice_get c.centres) (sym same) ∙ h.stands) in
    omega (arith, less, h.full)
faultless-spec c n t r k at written room cause.Syntax h = h
faultless-spec c n t r k at written room cause.Size h = h
faultless-spec c n t r k at written room cause.Shape h = h
faultless-spec c n t r k at written room cause.UnknownRole h = h
faultless-spec c n t r k at written room cause.UnknownAgent h = h
faultless-spec c n t r k at written room cause.Twice h = h
faultless-spec c n t r k at written room cause.NotGround h = h
faultless-spec c n t r k at written room cause.Length h = h

pub right-spec : (c : Configuration) (n : List ℕ) (t : Term) (r : Rule) (k : ℕ) → place_of (centre_names c) n ≡ Some k
    → IsWrittenAs (tree_of t) r → ((s : CentreConf) → slice_get c.centres k ≡ Some s → length s.clauses < MOST_CLAUSES)
    → IsFaultless c (Spec n t)
right-spec c n t r k at written room = faultless-spec c n t r k at written room

-- the items that were found are those of the lines
pub found_items : (known names : List (List ℕ)) (ls lines : List Line) (found : Option (Vec ScriptItem Global))
    (items : Vec ScriptItem Global) → found ≡ Some items → IfSome found (λ v. AreItems known ls v.items) → known ≡ names
    → ls ≡ lines → AreItems names lines items.items
found_items known names ls lines found items is told same all =
    let there : AreItems known ls items.items =
    subst (λ (o : Option (Vec ScriptItem Global)). IfSome o (λ v. AreItems known ls v.items)) is told in
    subst (λ ns. AreItems ns lines items.items) same (subst (λ (ms : List Line). AreItems known ms items.items) all there)

-- their centres are there
pub centres-there : (c : Configuration) (ls : List Line) (is : List ScriptItem) → AreItems (centre_names c) ls is
    → All (λ (i : ScriptItem). i.centre < length c.centres) is
centres-there c ls is are =
    All-weaker (λ (i : ScriptItem). i.centre < length (centre_names c)) (λ (i : ScriptItem). i.centre < length c.centres)
    (λ i inside. omega (arith, inside, length-map c.centres (λ (s : CentreConf). s.name))) is
    (centres-within (centre_names c) ls is are)

-- the centres of lines that have items are known
pub all-known : (names : List (List ℕ)) (ls : List Line) (is : List ScriptItem) → AreItems names ls is
    → Any (λ (l : Line). IsUnknown names l.centre) ls → ⊥
all-known names ls is are (k, l, inside, at, unknown) = at_place names ls is are k l inside at unknown
  where
    at_place : (names : List (List ℕ)) (ls : List Line) (is : List ScriptItem) → AreItems names ls is → (k : ℕ) (l : Line)
        → k < length ls → get_or ls k l ≡ l → IsUnknown names l.centre → ⊥
    at_place names [] is are k l inside at unknown = omega (arith, inside)
    at_place names (m ∷ ms) [] are k l inside at unknown = are
    at_place names (m ∷ ms) (i ∷ is) are zero l inside at unknown =
        let never : None ≡ Some i.centre = sym unknown ∙ ap (λ (x : Line). place_of names x.centre) (sym at) ∙ are.0 in
        cc
    at_place names (m ∷ ms) (i ∷ is) are (suc k) l inside at unknown =
        at_place names ms is are.2 k l (omega arith) at unknown

-- what is wrong first with a script
pub first-agent : (c : Configuration) (a : List ℕ) (lines : List Line)
    → (Any (λ (l : Line). IsUnknown (centre_names c) l.centre) lines → ⊥) → IsUnknown (agent_names c) a
    → IsFirstFault c (Script a lines) cause.UnknownAgent
first-agent c a lines known unknown = record { has = unknown; first = before }
  where
    before : (why : ConfigCause) → rank why < 6 → IsFaulty c (Script a lines) why → ⊥
    before cause.UnknownCentre less h = known h
    before cause.UnknownAgent less h = omega (arith, less)
    before cause.Count less h = omega (arith, less)
    before cause.Syntax less h = h
    before cause.Size less h = h
    before cause.Shape less h = h
    before cause.Reaction less h = h
    before cause.UnknownRole less h = h
    before cause.Twice less h = h
    before cause.NotGround less h = h
    before cause.Length less h = h

pub first-count : (c : Configuration) (a : List ℕ) (lines : List Line) (k : ℕ)
    → (Any (λ (l : Line). IsUnknown (centre_names c) l.centre) lines → ⊥) → place_of (agent_names c) a ≡ Some k
    → MOST_ITEMS < items_in c + length lines → IsFirstFault c (Script a lines) cause.Count
first-count c a lines k known at many = record { has = many; first = before }
  where
    before : (why : ConfigCause) → rank why < 9 → IsFaulty c (Script a lines) why → ⊥
    before cause.UnknownCentre less h = known h
    before cause.UnknownAgent less h = let never : None ≡ Some k = sym h ∙ at in cc
    before cause.Count less h = omega (arith, less)
    before cause.Syntax less h = h
    before cause.Size less h = h
    before cause.Shape less h = h
    before cause.Reaction less h = h
    before cause.UnknownRole less h = h
    before cause.Twice less h = h
    before cause.NotGround less h = h
    before cause.Length less h = h

pub right-script : (c : Configuration) (a : List ℕ) (lines : List Line) (k : ℕ)
    → (Any (λ (l : Line). IsUnknown (centre_names c) l.centre) lines → ⊥) → place_of (agent_names c) a ≡ Some k
    → items_in c + length lines ≤ MOST_ITEMS → (why : ConfigCause) → IsFaulty c (Script a lines) why → ⊥
right-script c a lines k known at few cause.UnknownCentre h = known h
right-script c a lines k known at few cause.UnknownAgent h = let never : None ≡ Some k = sym h ∙ at in cc
right-script c a lines k known at few cause.Count h = omega (arith, few, h)
right-script c a lines k known at few cause.Syntax h = h
right-script c a lines k known at few cause.Size h = h
right-script c a lines k known at few cause.Shape h = h
right-script c a lines k known at few cause.Reaction h = h
right-script c a lines k known at few cause.UnknownRole h = h
right-script c a lines k known at few cause.Twice h = h
right-script c a lines k known at few cause.NotGround h = h
right-script c a lines k known at few cause.Length h = h
