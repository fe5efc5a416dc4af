-- What a clause makes of a configuration.
use Rattle.std.specs.Prelude.{◌≡◌, ◌++◌, ◌∷◌, [], ℕ, zero, suc, List, Option, Some, unwrap_or}
use Rattle.tc_term.specs.Tree.{Tree}
use Rattle.tc_term.specs.TreeView.{tree_of}
use Rattle.tc_term.specs.Variables.{var_bound}
use Rattle.tc_model.specs.Reactions.{Rule}
use Rattle.tc_model.specs.declared.scripts.ScriptItem.{ScriptItem}
use Rattle.tc_policy.specs.Places.{grant}
use Rattle.tc_spec.specs.Written.{IsWrittenAs}
use Rattle.tc_config.specs.Causes.{IsFaultless}
use Rattle.tc_config.specs.Configurations.{Configuration, agent_names, centre_names}
use Rattle.tc_config.specs.Forms.{IsFormOf}
use Rattle.tc_names.specs.Names.{place_of}
use Rattle.tc_config.specs.declared.configs.AgentConf.{AgentConf}
use Rattle.tc_config.specs.declared.configs.CentreConf.{CentreConf}
use Rattle.tc_config.specs.declared.forms.Form.{Form}
use Rattle.tc_config.specs.declared.forms.Form.TheVariants.{Centre, Tuple, Spec, Role, Grant, Agent}
use Rattle.tc_config.specs.declared.forms.Form.TheVariants.{Script}
use Rattle.tc_model.specs.declared.lines.Line.{Line}
use Rattle.tc_config.specs.declared.limits.TheConstants.{USUAL_BUDGET}

-- the list with the element at this place changed
abbrev pub changed : {X : Type 0} → ℕ → (X → X) → List X → List X
changed place f [] = []
changed zero f (x ∷ xs) = f x ∷ xs
changed (suc place) f (x ∷ xs) = x ∷ changed place f xs

-- a centre as it is declared, and an agent
abbrev pub centre : List ℕ → Option ℕ → CentreConf
centre name budget =
    record { name = name; budget = unwrap_or budget USUAL_BUDGET; clauses = []; tuples = [] }

abbrev pub agent : List ℕ → ℕ → AgentConf
agent name role = record { name = name; role = role; scripts = [] }

-- with one more tuple, clause or script
abbrev pub with_tuple : Tree → CentreConf → CentreConf
with_tuple t s = record s { tuples = s.tuples ++ t ∷ [] }

abbrev pub with_clause : Rule → CentreConf → CentreConf
with_clause r s = record s { clauses = s.clauses ++ r ∷ [] }

abbrev pub with_script : ℕ → List ScriptItem → AgentConf → AgentConf
with_script vars items a =
    record a { scripts = a.scripts ++ (record { vars = vars; items = items }) ∷ [] }

-- the items of a script, with their centres' places for the names
abbrev pub AreItems : List (List ℕ) → List Line → List ScriptItem → Type 0
AreItems names [] items = items ≡ []
AreItems names (l ∷ ls) [] = ⊥
AreItems names (l ∷ ls) (i ∷ is) =
    (place_of names l.centre ≡ Some i.centre) × (i.ask ≡ l.ask) × AreItems names ls is

-- the table of meanings: what a clause of this form, with so many variables,
-- makes of a configuration
abbrev pub ClauseMakes : Configuration → ℕ → Form → Configuration → Type 0
ClauseMakes c vars (Centre n b) e = e ≡ record c { centres = c.centres ++ centre n b ∷ [] }
ClauseMakes c vars (Tuple n t) e =
    (k : ℕ) × (place_of (centre_names c) n ≡ Some k)
    × (e ≡ record c { centres = changed k (with_tuple (tree_of t)) c.centres })
ClauseMakes c vars (Spec n t) e =
    (k : ℕ) × (r : Rule) × (place_of (centre_names c) n ≡ Some k) × IsWrittenAs (tree_of t) r
    × (e ≡ record c { centres = changed k (with_clause r) c.centres })
ClauseMakes c vars (Role r) e = e ≡ record c { role_names = c.role_names ++ r ∷ [] }
ClauseMakes c vars (Grant r n p) e =
    (i : ℕ) × (j : ℕ) × (place_of c.role_names r ≡ Some i)
    × (place_of (centre_names c) n ≡ Some j)
    × (e ≡ record c { roles = c.roles ++ grant i j p ∷ [] })
ClauseMakes c vars (Agent a r) e =
    (i : ℕ) × (place_of c.role_names r ≡ Some i)
    × (e ≡ record c { agents = c.agents ++ agent a i ∷ [] })
ClauseMakes c vars (Script a lines) e =
    (k : ℕ) × (items : List ScriptItem) × (place_of (agent_names c) a ≡ Some k)
    × AreItems (centre_names c) lines items
    × (e ≡ record c { agents = changed k (with_script vars items) c.agents })

-- the clause of this term is right, and makes this of the configuration
pub record Means (c : Configuration) (t : Tree) (e : Configuration) : Type 0 where
  pub form : Form
  pub written : IsFormOf form t
  pub right : IsFaultless c form
  pub makes : ClauseMakes c (var_bound t) form e
