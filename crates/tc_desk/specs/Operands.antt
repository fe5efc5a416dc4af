-- Which operation an ask is, or what is wrong with its operand.
use Rattle.std.specs.Prelude.{◌≡◌, false, IsTrue, List, ℕ}
use Rattle.tc_term.specs.Tree.{Tree, Variable, Atomic, Number, Compound, Fits, is_ground}
use Rattle.tc_term.specs.TreeView.{tree_of}
use Rattle.tc_term.specs.Variables.{IsTemplate, renumbered}
use Rattle.tc_model.specs.Reactions.{Rule}
use Rattle.tc_model.specs.declared.asks.Ask.{Ask}
use Rattle.tc_model.specs.declared.asks.Ask.TheVariants.{Out, In, Rd, Inp, Rdp, No, Nop}
use Rattle.tc_model.specs.declared.asks.Ask.TheVariants.{SetSpec, GetSpec}
use Rattle.tc_model.specs.declared.calls.Op.{Op}
use Rattle.tc_model.specs.declared.calls.Op.TheVariants as op
use Rattle.tc_model.specs.declared.faults.BadSpec.{BadSpec}
use Rattle.tc_model.specs.declared.faults.SpecCause.TheVariants as cause
use Rattle.tc_spec.specs.Texts.{IsSpelt, HasBadSpec}

-- an operation, or what is wrong with the operand
pub data Operand : Type 0 where
  Sound : Op → Operand
  TooBig : Operand
  NotGround : Operand
  Faulty : BadSpec → Operand

-- what is wrong with an atom that is to be the text of clauses, or with a term that is no atom
abbrev pub IsBadText : Tree → BadSpec → Type 0
IsBadText (Atomic text) bad = HasBadSpec text bad
IsBadText (Variable n) bad = ⊥
IsBadText (Number n) bad = bad ≡ record { clause = 0; cause = cause.Shape }
IsBadText (Compound name args) bad = bad ≡ record { clause = 0; cause = cause.Shape }

-- the operation replaces the clauses by those whose text the atom is
pub record IsReplacing (t : Tree) (o : Op) : Type 0 where
  pub text : List ℕ
  pub atom : t ≡ Atomic text
  pub clauses : List Rule
  pub spelt : IsSpelt text clauses
  pub is : o ≡ op.SetSpec clauses

-- a template makes the operation, with its variables numbered by first appearance
abbrev pub TemplateOf : (Tree → Op) → Tree → Operand → Type 0
TemplateOf make t (Sound o) = IsTemplate t × (o ≡ make (renumbered t))
TemplateOf make t TooBig = IsTemplate t → ⊥
TemplateOf make t NotGround = ⊥
TemplateOf make t (Faulty bad) = ⊥

-- a tuple makes the operation, as it is
abbrev pub TupleOf : Tree → Operand → Type 0
TupleOf t (Sound o) = Fits t × IsTrue (is_ground t) × (o ≡ op.Out t)
TupleOf t TooBig = Fits t → ⊥
TupleOf t NotGround = Fits t × (is_ground t ≡ false)
TupleOf t (Faulty bad) = ⊥

-- the text of clauses makes the operation
abbrev pub TextOf : Tree → Operand → Type 0
TextOf t (Sound o) = Fits t × IsReplacing t o
TextOf t TooBig = Fits t → ⊥
TextOf t NotGround = Fits t × (is_ground t ≡ false)
TextOf t (Faulty bad) = Fits t × IsTrue (is_ground t) × IsBadText t bad

-- the operation that the ask is, or the first thing that is wrong with its operand, in the order of
-- size, variables, text
abbrev pub OpOf : Ask → Operand → Type 0
OpOf (Out t) o = TupleOf (tree_of t) o
OpOf (In t) o = TemplateOf op.In (tree_of t) o
OpOf (Rd t) o = TemplateOf op.Rd (tree_of t) o
OpOf (Inp t) o = TemplateOf op.Inp (tree_of t) o
OpOf (Rdp t) o = TemplateOf op.Rdp (tree_of t) o
OpOf (No t) o = TemplateOf op.No (tree_of t) o
OpOf (Nop t) o = TemplateOf op.Nop (tree_of t) o
OpOf (SetSpec t) o = TextOf (tree_of t) o
OpOf GetSpec o = o ≡ Sound op.GetSpec
