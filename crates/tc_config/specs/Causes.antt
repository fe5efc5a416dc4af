-- What is wrong with a clause, and in which order it is told.
use Rattle.std.specs.Prelude.{◌≡◌, ◌<◌, ◌≤◌, ◌+◌, ℕ, false, Any, Contains, List, Some, length}
use Rattle.std.specs.Prelude.{slice_get}
use Rattle.tc_term.specs.Tree.{Tree, is_ground}
use Rattle.tc_term.specs.TreeView.{tree_of}
use Rattle.tc_model.specs.Reactions.{Rule}
use Rattle.tc_model.specs.declared.asks.Primitive.{Primitive}
use Rattle.tc_model.specs.declared.limits.TheConstants.{MOST_CLAUSES}
use Rattle.tc_policy.specs.Places.{grant}
use Rattle.tc_spec.specs.Written.{IsWrittenAs}
use Rattle.tc_config.specs.Configurations.{Configuration, agent_names, centre_names, items_in}
use Rattle.tc_config.specs.Forms.{IsFormOf}
use Rattle.tc_config.specs.Names.{IsDeclared, IsUnknown}
use Rattle.tc_names.specs.Names.{place_of}
use Rattle.tc_config.specs.declared.configs.CentreConf.{CentreConf}
use Rattle.tc_config.specs.declared.faults.ConfigCause.{ConfigCause}
use Rattle.tc_config.specs.declared.faults.ConfigCause.TheVariants as cause
use Rattle.tc_config.specs.declared.forms.Form.{Form}
use Rattle.tc_config.specs.declared.forms.Form.TheVariants.{Centre, Tuple, Spec, Role, Grant, Agent}
use Rattle.tc_config.specs.declared.forms.Form.TheVariants.{Script}
use Rattle.tc_model.specs.declared.lines.Line.{Line}
use Rattle.tc_config.specs.declared.limits.TheConstants.{MOST_CENTRES, MOST_ROLES, MOST_AGENTS}
use Rattle.tc_config.specs.declared.limits.TheConstants.{MOST_ITEMS}

-- the same grant stands already
pub record IsGranted (c : Configuration) (role centre : List ℕ) (primitive : Primitive)
    : Type 0 where
  pub i : ℕ
  pub j : ℕ
  pub role_at : place_of c.role_names role ≡ Some i
  pub centre_at : place_of (centre_names c) centre ≡ Some j
  pub stands : Contains c.roles (grant i j primitive)

-- the centre has as many clauses as one may have
pub record IsProgrammed (c : Configuration) (name : List ℕ) : Type 0 where
  pub place : ℕ
  pub centre : CentreConf
  pub named : place_of (centre_names c) name ≡ Some place
  pub stands : slice_get c.centres place ≡ Some centre
  pub full : MOST_CLAUSES ≤ length centre.clauses

-- no reaction is written so, or it can't be read back
abbrev pub IsNoReaction : Tree → Type 0
IsNoReaction t = (r : Rule) → IsWrittenAs t r → ⊥

-- the table of causes: what is wrong with a clause of each form
abbrev pub IsFaulty : Configuration → Form → ConfigCause → Type 0
IsFaulty c (Centre n b) cause.Twice = IsDeclared (centre_names c) n
IsFaulty c (Centre n b) cause.Count = MOST_CENTRES ≤ length c.centres
IsFaulty c (Tuple n t) cause.UnknownCentre = IsUnknown (centre_names c) n
IsFaulty c (Tuple n t) cause.NotGround = is_ground (tree_of t) ≡ false
IsFaulty c (Spec n t) cause.Reaction = IsNoReaction (tree_of t)
IsFaulty c (Spec n t) cause.UnknownCentre = IsUnknown (centre_names c) n
IsFaulty c (Spec n t) cause.Count = IsProgrammed c n
IsFaulty c (Role r) cause.Twice = IsDeclared c.role_names r
IsFaulty c (Role r) cause.Count = MOST_ROLES ≤ length c.role_names
IsFaulty c (Grant r n p) cause.UnknownCentre = IsUnknown (centre_names c) n
IsFaulty c (Grant r n p) cause.UnknownRole = IsUnknown c.role_names r
IsFaulty c (Grant r n p) cause.Twice = IsGranted c r n p
IsFaulty c (Agent a r) cause.UnknownRole = IsUnknown c.role_names r
IsFaulty c (Agent a r) cause.Twice = IsDeclared (agent_names c) a
IsFaulty c (Agent a r) cause.Count = MOST_AGENTS ≤ length c.agents
IsFaulty c (Script a lines) cause.UnknownCentre =
    Any (λ (l : Line). IsUnknown (centre_names c) l.centre) lines
IsFaulty c (Script a lines) cause.UnknownAgent = IsUnknown (agent_names c) a
IsFaulty c (Script a lines) cause.Count = MOST_ITEMS < items_in c + length lines
IsFaulty c x _ = ⊥

-- the order in which causes are told
abbrev pub rank : ConfigCause → ℕ
rank cause.Syntax = 0
rank cause.Size = 1
rank cause.Shape = 2
rank cause.Reaction = 3
rank cause.UnknownCentre = 4
rank cause.UnknownRole = 5
rank cause.UnknownAgent = 6
rank cause.Twice = 7
rank cause.NotGround = 8
rank cause.Count = 9
rank cause.Length = 10

-- the first thing that is wrong with a clause of this form
pub record IsFirstFault (c : Configuration) (x : Form) (why : ConfigCause) : Type 0 where
  pub has : IsFaulty c x why
  pub first : (other : ConfigCause) → rank other < rank why → IsFaulty c x other → ⊥

-- nothing is wrong with it
abbrev pub IsFaultless : Configuration → Form → Type 0
IsFaultless c x = (why : ConfigCause) → IsFaulty c x why → ⊥

-- a cause for which the clause of this term is refused: it has no form, or
-- something is wrong with it
abbrev pub HasCause : Configuration → Tree → ConfigCause → Type 0
HasCause c t cause.Shape = (x : Form) → IsFormOf x t → ⊥
HasCause c t why = (x : Form) × IsFormOf x t × IsFaulty c x why

-- the first of them
pub record IsFirstCause (c : Configuration) (t : Tree) (why : ConfigCause) : Type 0 where
  pub has : HasCause c t why
  pub first : (other : ConfigCause) → rank other < rank why → HasCause c t other → ⊥
