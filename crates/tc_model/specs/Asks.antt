-- What is asked, and what it takes.
use Rattle.std.specs.Prelude.{ℕ, List, codes, Option, Some, None}
use Rattle.tc_term.specs.Tree.{Tree}
use Rattle.tc_term.specs.TreeView.{tree_of}
use Rattle.tc_model.specs.declared.asks.Ask.{Ask}
use Rattle.tc_model.specs.declared.asks.Ask.TheVariants.{Out, In, Rd, Inp, Rdp, No, Nop}
use Rattle.tc_model.specs.declared.asks.Ask.TheVariants.{SetSpec, GetSpec}
use Rattle.tc_model.specs.declared.asks.Primitive.{Primitive}
use Rattle.tc_model.specs.declared.asks.Primitive.TheVariants as primitive

-- the table of names: how a primitive is written, wherever it is
abbrev pub primitive_name : Primitive → List ℕ
primitive_name primitive.Out = codes "out"
primitive_name primitive.In = codes "in"
primitive_name primitive.Rd = codes "rd"
primitive_name primitive.Inp = codes "inp"
primitive_name primitive.Rdp = codes "rdp"
primitive_name primitive.No = codes "no"
primitive_name primitive.Nop = codes "nop"
primitive_name primitive.SetSpec = codes "set_spec"
primitive_name primitive.GetSpec = codes "get_spec"

-- what has to be permitted for an ask
abbrev pub primitive_of : Ask → Primitive
primitive_of (Out t) = primitive.Out
primitive_of (In t) = primitive.In
primitive_of (Rd t) = primitive.Rd
primitive_of (Inp t) = primitive.Inp
primitive_of (Rdp t) = primitive.Rdp
primitive_of (No t) = primitive.No
primitive_of (Nop t) = primitive.Nop
primitive_of (SetSpec t) = primitive.SetSpec
primitive_of GetSpec = primitive.GetSpec

-- what stands behind the primitive, if anything does
abbrev pub operand_of : Ask → Option Tree
operand_of (Out t) = Some (tree_of t)
operand_of (In t) = Some (tree_of t)
operand_of (Rd t) = Some (tree_of t)
operand_of (Inp t) = Some (tree_of t)
operand_of (Rdp t) = Some (tree_of t)
operand_of (No t) = Some (tree_of t)
operand_of (Nop t) = Some (tree_of t)
operand_of (SetSpec t) = Some (tree_of t)
operand_of GetSpec = None
