-- Scripts of agents.
use Rattle.std.specs.Prelude.{ℕ, List, All, IfSome}
use Rattle.tc_model.specs.Asks.{operand_of}
use Rattle.tc_model.specs.Within.{HasVarsBelow}
use Rattle.tc_model.specs.declared.scripts.ScriptItem.{ScriptItem}

-- the items of one script, over so many variables of its own
pub record Lines : Type 0 where
  pub vars : ℕ
  pub items : List ScriptItem

-- each operand is within the limits of a term, and has its variables below their number
abbrev pub IsScript : Lines → Type 0
IsScript lines = All (λ item. IfSome (operand_of item.ask) (HasVarsBelow lines.vars)) lines.items
