-- What the program's types promise of the parts of a log.
use Rattle.std.specs.Prelude.{IfSome, FitsSigned}
use mir.Syntax.{w64}
use Rattle.tc_term.specs.Tree.{Tree, Variable, Atomic, Number, Compound, Trees, Last, More}
use Rattle.tc_term.specs.TreeView.{tree_of}
use Rattle.tc_model.specs.Typed.{Is32, Is64, AreBytes, IsTypedReply}
use Rattle.tc_model.specs.declared.asks.Ask.{Ask}
use Rattle.tc_model.specs.declared.asks.Ask.TheVariants.{Out, In, Rd, Inp, Rdp, No, Nop}
use Rattle.tc_model.specs.declared.asks.Ask.TheVariants.{SetSpec, GetSpec}
use Rattle.tc_desk.specs.declared.rows.LogRow.{LogRow}
use Rattle.tc_desk.specs.declared.rows.LogResult.{LogResult}
use Rattle.tc_desk.specs.declared.rows.LogResult.TheVariants.{Replied, Pending, Refused, Polled}
use Rattle.tc_desk.specs.declared.rows.Refusal.{Refusal}
use Rattle.tc_desk.specs.declared.rows.Refusal.TheVariants as refusal

-- of any term: a variable's number has 32 bits, a name is bytes, and a whole number has 64 bits
abbrev mutual
  pub IsTypedTree : Tree → Type 0
  IsTypedTree (Variable n) = Is32 n
  IsTypedTree (Atomic name) = AreBytes name
  IsTypedTree (Number z) = FitsSigned w64 z
  IsTypedTree (Compound name args) = AreBytes name × AreTypedTrees args

  pub AreTypedTrees : Trees → Type 0
  AreTypedTrees (Last t) = IsTypedTree t
  AreTypedTrees (More t ts) = IsTypedTree t × AreTypedTrees ts

-- the ask's operand, if it has one, is such a term
abbrev pub IsTypedAsk : Ask → Type 0
IsTypedAsk (Out t) = IsTypedTree (tree_of t)
IsTypedAsk (In t) = IsTypedTree (tree_of t)
IsTypedAsk (Rd t) = IsTypedTree (tree_of t)
IsTypedAsk (Inp t) = IsTypedTree (tree_of t)
IsTypedAsk (Rdp t) = IsTypedTree (tree_of t)
IsTypedAsk (No t) = IsTypedTree (tree_of t)
IsTypedAsk (Nop t) = IsTypedTree (tree_of t)
IsTypedAsk (SetSpec t) = IsTypedTree (tree_of t)
IsTypedAsk GetSpec = Unit {0}

-- a clause's number has 32 bits; a centre's weight and the count of its pending requests have 64
abbrev pub IsTypedRefusal : Refusal → Type 0
IsTypedRefusal refusal.UnknownCentre = Unit {0}
IsTypedRefusal refusal.Waiting = Unit {0}
IsTypedRefusal refusal.Denied = Unit {0}
IsTypedRefusal refusal.TooBig = Unit {0}
IsTypedRefusal refusal.NotGround = Unit {0}
IsTypedRefusal (refusal.BadSpec bad) = Is32 bad.clause
IsTypedRefusal refusal.TurnsSpent = Unit {0}
IsTypedRefusal (refusal.Full weight pending) = Is64 weight × Is64 pending
IsTypedRefusal refusal.NoMemory = Unit {0}

-- the reply or the refusal that the result tells, if it tells one, is typed
abbrev pub IsTypedResult : LogResult → Type 0
IsTypedResult (Replied reply) = IsTypedReply reply
IsTypedResult Pending = Unit {0}
IsTypedResult (Refused why) = IsTypedRefusal why
IsTypedResult (Polled told) = IfSome told IsTypedReply

-- each part of the row is what the program's types promise
pub record IsTypedRow (row : LogRow) : Type 0 where
  pub number : Is64 row.number
  pub centre : AreBytes row.centre
  pub ask : IfSome row.ask IsTypedAsk
  pub result : IsTypedResult row.result
