-- What is told of an operand that no operation takes.
use Rattle.std.specs.Prelude.{◌≡◌, false, IsTrue, List, ℕ}
use Rattle.tc_term.specs.Tree.{Tree, Atomic, Fits, is_ground}
use Rattle.tc_term.specs.TreeView.{tree_of}
use Rattle.tc_term.specs.Variables.{IsTemplate, renumbered}
use Rattle.tc_model.specs.declared.asks.Ask.{Ask}
use Rattle.tc_model.specs.declared.asks.Ask.TheVariants.{Out, In, Rd, Inp, Rdp, No, Nop}
use Rattle.tc_model.specs.declared.asks.Ask.TheVariants.{SetSpec, GetSpec}
use Rattle.tc_desk.specs.Operands.{Operand, Faulty, IsBadText, OpOf}
use Rattle.tc_desk.specs.Operands as operand
use Rattle.tc_desk.specs.declared.rows.Refusal.{Refusal}
use Rattle.tc_desk.specs.declared.rows.Refusal.TheVariants as refusal
use Rattle.tc_asks.specs.declared.operands.OperandFault.{OperandFault}
use Rattle.tc_asks.specs.declared.operands.OperandFault.TheVariants.{TooBig, NotGround, BadSpec}
use Rattle.tc_asks.specs.declared.operands.OperandFault.TheVariants.{NoMemory}

-- the term is an atom within the limits
pub record IsAtom (t : Tree) : Type 0 where
  pub text : List ℕ
  pub atom : t ≡ Atomic text
  pub fits : Fits t

-- the term is a template whose variables aren't numbered by first appearance yet
abbrev pub IsUnnumbered : Tree → Type 0
IsUnnumbered t = IsTemplate t × (renumbered t ≡ t → ⊥)

-- the ask has an atom that is to be the text of clauses, or a template of which a copy is made
abbrev pub TakesMemory : Ask → Type 0
TakesMemory (Out t) = ⊥
TakesMemory (In t) = IsUnnumbered (tree_of t)
TakesMemory (Rd t) = IsUnnumbered (tree_of t)
TakesMemory (Inp t) = IsUnnumbered (tree_of t)
TakesMemory (Rdp t) = IsUnnumbered (tree_of t)
TakesMemory (No t) = IsUnnumbered (tree_of t)
TakesMemory (Nop t) = IsUnnumbered (tree_of t)
TakesMemory (SetSpec t) = IsAtom (tree_of t)
TakesMemory GetSpec = ⊥

-- the fault is that of the ask's operand; or memory has run out, while a text was read or a
-- template numbered
abbrev pub IsFaultOf : Ask → OperandFault → Type 0
IsFaultOf ask TooBig = OpOf ask operand.TooBig
IsFaultOf ask NotGround = OpOf ask operand.NotGround
IsFaultOf ask (BadSpec bad) = OpOf ask (Faulty bad)
IsFaultOf ask NoMemory = TakesMemory ask

-- the fault says this of the operand, or memory has run out
abbrev pub IsOperandFault : Operand → OperandFault → Type 0
IsOperandFault o TooBig = o ≡ operand.TooBig
IsOperandFault o NotGround = o ≡ operand.NotGround
IsOperandFault o (BadSpec bad) = o ≡ Faulty bad
IsOperandFault o NoMemory = Unit {0}

-- why an ask is refused whose operand has this fault
abbrev pub refusal_of : OperandFault → Refusal
refusal_of TooBig = refusal.TooBig
refusal_of NotGround = refusal.NotGround
refusal_of (BadSpec bad) = refusal.BadSpec bad
refusal_of NoMemory = refusal.NoMemory

-- why the term is no tuple
abbrev pub IsTupleFault : Tree → OperandFault → Type 0
IsTupleFault t TooBig = Fits t → ⊥
IsTupleFault t NotGround = Fits t × (is_ground t ≡ false)
IsTupleFault t (BadSpec bad) = ⊥
IsTupleFault t NoMemory = ⊥

-- why the term is no template, or not made one
abbrev pub IsTemplateFault : Tree → OperandFault → Type 0
IsTemplateFault t TooBig = IsTemplate t → ⊥
IsTemplateFault t NotGround = ⊥
IsTemplateFault t (BadSpec bad) = ⊥
IsTemplateFault t NoMemory = IsUnnumbered t

-- why the term is no text of clauses
abbrev pub IsTextFault : Tree → OperandFault → Type 0
IsTextFault t TooBig = Fits t → ⊥
IsTextFault t NotGround = Fits t × (is_ground t ≡ false)
IsTextFault t (BadSpec bad) = Fits t × IsTrue (is_ground t) × IsBadText t bad
IsTextFault t NoMemory = IsAtom t
