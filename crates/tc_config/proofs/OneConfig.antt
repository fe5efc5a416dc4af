-- A text spells one configuration or has one first fault, and not both.
use Rattle.std.proofs.Common.{◌≡◌, ◌<◌, ◌⊎◌, ℕ, List, [], ◌∷◌, ◌++◌, Some, Result, Ok, Err, IfOk, IfErr, length, slice_get, inl, inr, refl, ap, ap₂, sym, subst, ◌∙◌, arith}
use Rattle.std.proofs.lemmas.Option.{same_Some}
use Rattle.tc_term.specs.Tree.{Tree}
use Rattle.tc_term.specs.TreeView.{tree_of}
use Rattle.tc_term.specs.Variables.{var_bound}
use Rattle.tc_read.specs.Clauses.{IsExact}
use Rattle.tc_read.proofs.OneEnd.{end_or_fault, one_first_fault, one_last_state}
use Rattle.tc_model.specs.Reactions.{Rule}
use Rattle.tc_model.specs.declared.asks.Ask.{Ask}
use Rattle.tc_model.specs.declared.scripts.ScriptItem.{ScriptItem}
use Rattle.tc_policy.specs.Places.{grant}
use Rattle.tc_spec.proofs.Decoding.{one_rule}
use Rattle.tc_config.specs.Answers.{IsConfigFault, IsThisRefusal, IsConfigWant}
use Rattle.tc_config.specs.Causes.{HasCause, IsFirstCause, rank}
use Rattle.tc_config.specs.Configurations.{Configuration, centre_names, nothing}
use Rattle.tc_config.specs.Meanings.{AreItems, ClauseMakes, Means, agent, changed, with_clause, with_script, with_tuple}
use Rattle.tc_config.specs.Texts.{HasFault, IsRefused, Spells, config_language}
use Rattle.tc_config.specs.declared.faults.ConfigCause.{ConfigCause}
use Rattle.tc_config.specs.declared.faults.ConfigCause.TheVariants as cause
use Rattle.tc_config.specs.declared.faults.ConfigFault.{ConfigFault}
use Rattle.tc_config.specs.declared.faults.ConfigFault.TheVariants.{Bad, NoMemory}
use Rattle.tc_config.specs.declared.forms.Form.{Form}
use Rattle.tc_config.specs.declared.forms.Form.TheVariants.{Centre, Tuple, Spec, Role, Grant, Agent, Script}
use Rattle.tc_model.specs.declared.lines.Line.{Line}
use Rattle.tc_config.specs.declared.limits.TheConstants.{MOST_BYTES}
use Rattle.tc_config.proofs.FirstCauses.{fault-cause}
use Rattle.tc_config.proofs.OneForm.{one_form}

-- a clause means one thing
abbrev item : ℕ → Ask → ScriptItem
item centre ask = record { centre = centre; ask = ask }

one_items : (names : List (List ℕ)) (ls : List Line) (is js : List ScriptItem) → AreItems names ls is → AreItems names ls js → is ≡ js
one_items names [] is js h k = h ∙ sym k
one_items names (l ∷ ls) [] js h k = absurd h
one_items names (l ∷ ls) (i ∷ is) [] h k = absurd k
one_items names (l ∷ ls) (i ∷ is) (j ∷ js) h k =
    let centre = same_Some i.centre j.centre (sym h.0 ∙ k.0) in
    let ask : i.ask ≡ j.ask = h.1 ∙ sym k.1 in
    ap₂ ◌∷◌ (ap₂ item centre ask) (one_items names ls is js h.2 k.2)

one_making : (c : Configuration) (vars : ℕ) (x : Form) (d e : Configuration) → ClauseMakes c vars x d → ClauseMakes c vars x e → d ≡ e
one_making c vars (Centre n b) d e h k = h ∙ sym k
one_making c vars (Tuple n t) d e h k =
    h.2
    ∙ ap (λ place. record c { centres = changed place (with_tuple (tree_of t)) c.centres }) (same_Some h.0 k.0 (sym h.1 ∙ k.1))
    ∙ sym k.2
one_making c vars (Spec n t) d e h k =
    h.4
    ∙ ap₂ (λ place (r : Rule). record c { centres = changed place (with_clause r) c.centres })
    (same_Some h.0 k.0 (sym h.2 ∙ k.2)) (one_rule (tree_of t) h.1 k.1 h.3 k.3)
    ∙ sym k.4
one_making c vars (Role r) d e h k = h ∙ sym k
one_making c vars (Grant r n p) d e h k =
    h.4
    ∙ ap₂ (λ i j. record c { roles = c.roles ++ grant i j p ∷ [] })
    (same_Some h.0 k.0 (sym h.2 ∙ k.2)) (same_Some h.1 k.1 (sym h.3 ∙ k.3))
    ∙ sym k.4
one_making c vars (Agent a r) d e h k =
    h.2 ∙ ap (λ i. record c { agents = c.agents ++ agent a i ∷ [] }) (same_Some h.0 k.0 (sym h.1 ∙ k.1)) ∙ sym k.2
one_making c vars (Script a lines) d e h k =
    h.4
    ∙ ap₂ (λ place (items : List ScriptItem). record c { agents = changed place (with_script vars items) c.agents })
    (same_Some h.0 k.0 (sym h.2 ∙ k.2)) (one_items (centre_names c) lines h.1 k.1 h.3 k.3)
    ∙ sym k.4

one_meaning : (c : Configuration) (t : Tree) (d e : Configuration) → Means c t d → Means c t e → d ≡ e
one_meaning c t d e h k =
    let same = one_form t h.form k.form h.written k.written in
    one_making c (var_bound t) k.form d e (subst (λ x. ClauseMakes c (var_bound t) x d) same h.makes) k.makes

-- a clause has one first cause, and none where it means something
no_cause : (c : Configuration) (t : Tree) (e : Configuration) (why : ConfigCause) → Means c t e → HasCause c t why → ⊥
no_cause c t e why h has = h.right why (fault-cause c t h.form why h.written has)

abbrev by_rank : List ConfigCause
by_rank =
    cause.Syntax ∷ cause.Size ∷ cause.Shape ∷ cause.Reaction ∷ cause.UnknownCentre ∷ cause.UnknownRole
    ∷ cause.UnknownAgent ∷ cause.Twice ∷ cause.NotGround ∷ cause.Count ∷ cause.Length ∷ []

at_rank : (why : ConfigCause) → slice_get by_rank (rank why) ≡ Some why
at_rank cause.Syntax = refl
at_rank cause.Size = refl
at_rank cause.Shape = refl
at_rank cause.Reaction = refl
at_rank cause.UnknownCentre = refl
at_rank cause.UnknownRole = refl
at_rank cause.UnknownAgent = refl
at_rank cause.Twice = refl
at_rank cause.NotGround = refl
at_rank cause.Count = refl
at_rank cause.Length = refl

one_cause : (c : Configuration) (t : Tree) (a b : ConfigCause) → IsFirstCause c t a → IsFirstCause c t b → a ≡ b
one_cause c t a b h k =
    let not_less : rank a < rank b → ⊥ = λ less. k.first a less h.has in
    let not_more : rank b < rank a → ⊥ = λ less. h.first b less k.has in
    let same : rank a ≡ rank b = omega (arith, not_less, not_more) in
    same_Some a b (sym (at_rank a) ∙ ap (slice_get by_rank) same ∙ at_rank b)

-- a clause sets up one thing or has one first cause, and not both
config_exact : IsExact config_language
config_exact = record {
  one_state = one_meaning;
  one_cause = one_cause;
  not_both = λ c t e why means first. no_cause c t e why means first.has;
}

-- a text is refused for its length or for a clause
abbrev IsTooLong : List ℕ → ℕ → ConfigCause → Type 0
IsTooLong text clause why = (why ≡ cause.Length) × (clause ≡ 0) × (MOST_BYTES < length text)

by_cause : (text : List ℕ) (clause : ℕ) (why : ConfigCause) → IsRefused text clause why
    → IsTooLong text clause why ⊎ HasFault text clause why
by_cause text clause cause.Length h = inl (refl, h.0, h.1)
by_cause text clause cause.Syntax h = inr h
by_cause text clause cause.Size h = inr h
by_cause text clause cause.Shape h = inr h
by_cause text clause cause.Reaction h = inr h
by_cause text clause cause.UnknownCentre h = inr h
by_cause text clause cause.UnknownRole h = inr h
by_cause text clause cause.UnknownAgent h = inr h
by_cause text clause cause.Twice h = inr h
by_cause text clause cause.NotGround h = inr h
by_cause text clause cause.Count h = inr h

pub one_configuration : (text : List ℕ) (c d : Configuration) → Spells text c → Spells text d → c ≡ d
one_configuration text c d x y = one_last_state config_language config_exact text nothing c d x.clauses y.clauses

spelt_or : (text : List ℕ) (c : Configuration) (clause : ℕ) (why : ConfigCause) → Spells text c
    → IsTooLong text clause why ⊎ HasFault text clause why → ⊥
spelt_or text c clause why x (inl long) = omega (arith, x.short, long.2)
spelt_or text c clause why x (inr h) = end_or_fault config_language config_exact text nothing c clause why x.clauses h.faulty

pub spelt_or_refused : (text : List ℕ) (c : Configuration) (clause : ℕ) (why : ConfigCause) → Spells text c
    → IsRefused text clause why → ⊥
spelt_or_refused text c clause why x h = spelt_or text c clause why x (by_cause text clause why h)

one_of : (text : List ℕ) (k n : ℕ) (a b : ConfigCause) → IsTooLong text k a ⊎ HasFault text k a
    → IsTooLong text n b ⊎ HasFault text n b → (k ≡ n) × (a ≡ b)
one_of text k n a b (inl x) (inl y) = (x.1 ∙ sym y.1, x.0 ∙ sym y.0)
one_of text k n a b (inl x) (inr y) = absurd (omega (arith, x.2, y.short))
one_of text k n a b (inr x) (inl y) = absurd (omega (arith, x.short, y.2))
one_of text k n a b (inr x) (inr y) = one_first_fault config_language config_exact text nothing k n a b x.faulty y.faulty

pub one_refusal : (text : List ℕ) (k n : ℕ) (a b : ConfigCause) → IsRefused text k a → IsRefused text n b → (k ≡ n) × (a ≡ b)
one_refusal text k n a b x y = one_of text k n a b (by_cause text k a x) (by_cause text n b y)

-- so each answer comes where it is due
pub whole_by : {X : Type 0} (text : List ℕ) (x : Result X ConfigFault) → IfErr x (IsConfigFault text) → (c : Configuration)
    → Spells text c → IfErr x IsConfigWant
whole_by {X} text (Ok read) told c h = tt
whole_by {X} text (Err (Bad clause why)) told c h = absurd (spelt_or_refused text c clause why h told)
whole_by {X} text (Err NoMemory) told c h = tt

pub same_by : (text : List ℕ) (x : Result Configuration ConfigFault) → IfOk x (Spells text) → (c : Configuration)
    → Spells text c → IfOk x (λ read. read ≡ c)
same_by text (Ok read) spelt c h = one_configuration text read c spelt h
same_by text (Err fault) spelt c h = tt

pub refused_by : (text : List ℕ) (x : Result Configuration ConfigFault) → IfOk x (Spells text) → (clause : ℕ) (why : ConfigCause)
    → IsRefused text clause why → IfOk x (λ (read : Configuration). ⊥)
refused_by text (Ok read) spelt clause why h = spelt_or_refused text read clause why spelt h
refused_by text (Err fault) spelt clause why h = tt

pub first_by : {X : Type 0} (text : List ℕ) (x : Result X ConfigFault) → IfErr x (IsConfigFault text) → (clause : ℕ)
    (why : ConfigCause) → IsRefused text clause why → IfErr x (IsThisRefusal clause why)
first_by {X} text (Ok read) told clause why h = tt
first_by {X} text (Err (Bad other_clause other)) told clause why h = one_refusal text other_clause clause other why told h
first_by {X} text (Err NoMemory) told clause why h = tt
