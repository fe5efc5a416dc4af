-- The verdict on the text behind a configuration that is spelt is one.
use Rattle.std.proofs.Common.{◌≡◌, ◌≢◌, ℕ, Option, Some, None, IsSome, List, [], ◌∷◌, AllPairs, refl, sym, subst, arith}
use Rattle.std.proofs.lemmas.List.{map_push}
use Rattle.tc_term.specs.Tree.{Tree}
use Rattle.tc_term.specs.Variables.{var_bound}
use Rattle.tc_read.specs.Clauses.{LeadsTo}
use Rattle.tc_names.specs.Names.{place_of}
use Rattle.tc_names.proofs.Declared.{differ-push}
use Rattle.tc_config.specs.Causes.{IsFaultless}
use Rattle.tc_config.specs.Configurations.{Configuration, agent_names, nothing}
use Rattle.tc_config.specs.Meanings.{ClauseMakes, Means, agent, with_script}
use Rattle.tc_config.specs.Texts.{Spells, config_language}
use Rattle.tc_config.specs.declared.configs.AgentConf.{AgentConf}
use Rattle.tc_config.specs.declared.faults.ConfigCause.TheVariants as cause
use Rattle.tc_config.specs.declared.forms.Form.{Form}
use Rattle.tc_config.specs.declared.forms.Form.TheVariants.{Centre, Tuple, Spec, Role, Grant, Agent, Script}
use Rattle.tc_config.proofs.Changed.{map-changed}
use Rattle.tc_verify.specs.Verdicts.{IsVerdict}
use Rattle.tc_verify.specs.declared.verdicts.Question.TheVariants.{Run}
use Rattle.tc_verify.specs.declared.verdicts.Verdict.{Verdict}
use Rattle.tc_verify.proofs.OneVerdict.{verdict-one}

abbrev Differ : Configuration → Type 0
Differ c = AllPairs ◌≢◌ (agent_names c)

nowhere : (place : Option ℕ) → (IsSome place → ⊥) → place ≡ None
nowhere None never = refl
nowhere (Some k) never = absurd (never refl)

-- a clause keeps the agents' names apart
clause-differ : (c : Configuration) (vars : ℕ) (x : Form) (e : Configuration) → IsFaultless c x → ClauseMakes c vars x e → Differ c → Differ e
clause-differ c vars (Centre n b) e right makes differ = subst Differ (sym makes) differ
clause-differ c vars (Tuple n t) e right makes differ = subst Differ (sym makes.2) differ
clause-differ c vars (Spec n t) e right makes differ = subst Differ (sym makes.4) differ
clause-differ c vars (Role r) e right makes differ = subst Differ (sym makes) differ
clause-differ c vars (Grant r n p) e right makes differ = subst Differ (sym makes.4) differ
clause-differ c vars (Agent a r) e right makes differ =
    subst Differ (sym makes.2)
    (subst (AllPairs ◌≢◌) (sym (map_push (λ (x : AgentConf). x.name) c.agents (agent a makes.0)))
    (differ-push (agent_names c) a differ (nowhere (place_of (agent_names c) a) (right cause.Twice))))
clause-differ c vars (Script a lines) e right makes differ =
    subst Differ (sym makes.4)
    (subst (AllPairs ◌≢◌) (sym (map-changed (with_script vars makes.1) (λ (x : AgentConf). x.name) c.agents makes.0 (λ a. refl))) differ)

clauses-differ : (text : List ℕ) (from : ℕ) (c : Configuration) (ts : List Tree) (end : ℕ) (e : Configuration)
    → LeadsTo config_language text from c ts end e → Differ c → Differ e
clauses-differ text from c [] end e leads differ = subst Differ (sym leads.1) differ
clauses-differ text from c (t ∷ ts) end e leads differ =
    let means : Means c t leads.1 = leads.3 in
    clauses-differ text leads.0 leads.1 ts end e leads.4 (clause-differ c (var_bound t) means.form leads.1 means.right means.makes differ)

none-differ : Differ nothing
none-differ i j d less within = absurd (omega (arith, less, within))

-- the agents of a configuration that is spelt have names that differ
spelt-differ : (spelt : List ℕ) (c : Configuration) → Spells spelt c → Differ c
spelt-differ spelt c spells =
    clauses-differ spelt 0 nothing spells.clauses.terms spells.clauses.end c spells.clauses.clauses none-differ

pub one_verdict : (spelt : List ℕ) (c : Configuration) (text : List ℕ) (v w : Verdict) → Spells spelt c
    → IsVerdict c text v → IsVerdict c text w → v ≡ w
one_verdict spelt c text v w spells is other = verdict-one Run c text (spelt-differ spelt c spells) v w is other
