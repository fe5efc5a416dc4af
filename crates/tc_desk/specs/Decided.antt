-- Which rows are refused for their operand, and which for want of a grant.
use Rattle.std.specs.Prelude.{◌≡◌, ℕ, List, Some, slice_get}
use Rattle.tc_model.specs.Asks.{primitive_of}
use Rattle.tc_model.specs.declared.asks.Ask.{Ask}
use Rattle.tc_model.specs.declared.asks.Primitive.{Primitive}
use Rattle.tc_model.specs.declared.calls.Op.{Op}
use Rattle.tc_desk.specs.Operands.{OpOf, Sound, TooBig, NotGround, Faulty}
use Rattle.tc_desk.specs.declared.rows.LogRow.{LogRow}
use Rattle.tc_desk.specs.declared.rows.LogResult.{LogResult}
use Rattle.tc_desk.specs.declared.rows.LogResult.TheVariants.{Replied, Pending, Refused, Polled}
use Rattle.tc_desk.specs.declared.rows.Refusal.{Refusal}
use Rattle.tc_desk.specs.declared.rows.Refusal.TheVariants as refusal

-- the ask's operand is as the refusal says, or it is an operation; a refusal that comes before the
-- operand is looked at says nothing of it
abbrev pub RefusesOperand : Ask → Refusal → Type 0
RefusesOperand ask refusal.UnknownCentre = Unit {0}
RefusesOperand ask refusal.Waiting = Unit {0}
RefusesOperand ask refusal.Denied = Unit {0}
RefusesOperand ask refusal.TooBig = OpOf ask TooBig
RefusesOperand ask refusal.NotGround = OpOf ask NotGround
RefusesOperand ask (refusal.BadSpec bad) = OpOf ask (Faulty bad)
RefusesOperand ask refusal.TurnsSpent = (o : Op) × OpOf ask (Sound o)
RefusesOperand ask (refusal.Full weight pending) = (o : Op) × OpOf ask (Sound o)
RefusesOperand ask refusal.NoMemory = ⊥

-- the ask is refused for its operand exactly where this is faulty
abbrev pub IsReadAs : Ask → LogResult → Type 0
IsReadAs ask (Replied reply) = (o : Op) × OpOf ask (Sound o)
IsReadAs ask Pending = (o : Op) × OpOf ask (Sound o)
IsReadAs ask (Refused why) = RefusesOperand ask why
IsReadAs ask (Polled told) = ⊥

-- each row that has an ask is refused for its operand exactly where this is faulty
abbrev pub IsRead : List LogRow → Type 0
IsRead log =
    (k : ℕ) (row : LogRow) (ask : Ask) → slice_get log k ≡ Some row → row.ask ≡ Some ask
    → IsReadAs ask row.result

-- the ask is denied exactly where nothing permits it, if it came so far
abbrev pub IsDecidedAs : Type 0 → LogResult → Type 0
IsDecidedAs permits (Refused refusal.UnknownCentre) = Unit {0}
IsDecidedAs permits (Refused refusal.Waiting) = Unit {0}
IsDecidedAs permits (Refused refusal.Denied) = permits → ⊥
IsDecidedAs permits result = permits

-- each row that has an ask is denied exactly where an agent of the role may not use its primitive
-- on its centre, and refused for its operand exactly where this is faulty
pub record IsDecided
    (permits : ℕ → Primitive → Type 0) (names : List (List ℕ)) (log : List LogRow)
    : Type 0 where
  pub read : IsRead log
  pub decided : (k : ℕ) (row : LogRow) (ask : Ask) (place : ℕ) → slice_get log k ≡ Some row
      → row.ask ≡ Some ask → slice_get names place ≡ Some row.centre
      → IsDecidedAs (permits place (primitive_of ask)) row.result
