-- Places of items in scripts.
use Rattle.std.specs.Prelude.{◌≡◌, ◌≤◌, ℕ, ◌+◌, IfSome, List, [], length}
use Rattle.std.specs.Prelude.{slice_get, take, Some}
use Rattle.std.proofs.Common.{get_or}
use Rattle.tc_model.specs.Asks.{operand_of}
use Rattle.tc_model.specs.Scripts.{Lines}
use Rattle.tc_model.specs.Within.{HasVarsBelow}
use Rattle.tc_model.specs.declared.scripts.ScriptItem.{ScriptItem}
use Rattle.tc_desk.specs.Asks.{steps_of}

-- the script at a place; behind the last one, a script without items
abbrev pub script_at : List Lines → ℕ → Lines
script_at scripts place = get_or scripts place (record { vars = 0; items = [] })

-- so many items of the scripts stand before this place
pub record IsPlaced (scripts : List Lines) (script item count : ℕ) : Type 0 where
  pub before : count ≡ length (steps_of (take script scripts)) + item
  pub inside : item ≤ length (script_at scripts script).items

-- no item of the script stands at this place or behind it
abbrev pub IsBehindItems : List Lines → ℕ → ℕ → Type 0
IsBehindItems scripts script item = length (script_at scripts script).items ≤ item

-- the item stands at this place, and its variables are the script's
pub record IsItemAt (scripts : List Lines) (script item : ℕ) (i : ScriptItem) : Type 0 where
  pub stands : slice_get (script_at scripts script).items item ≡ Some i
  pub bounds : IfSome (operand_of i.ask) (HasVarsBelow (script_at scripts script).vars)
