-- Where several steps of the parser lead.
use Rattle.std.specs.Prelude.{◌≡◌, ℕ, List}
use Rattle.tc_term.specs.Grammar as grammar
use Rattle.tc_read.specs.Frames.{items_of, opened, tokens_left, top}
use Rattle.tc_read.specs.Kept.{Kept, kept}
use Rattle.tc_read.specs.Machine as machine
use Rattle.tc_read.specs.declared.frames.Stack.{Stack}
use Rattle.tc_read.specs.declared.parse.Settled.{Settled}
use Rattle.tc_read.specs.declared.parse.Settled.TheVariants.{Refused, Awaits, Ends}

-- Steps s now ts s' now' ts': the machine gets from the first three to the others by steps, or they
-- are the same.
pub data Steps (s : List (machine.Frame Kept)) (now : machine.Standing Kept)
    (ts : List grammar.Token)
    : List (machine.Frame Kept) → machine.Standing Kept → List grammar.Token → Type 0 where
  none : Steps s now ts s now ts
  further : {a b : List (machine.Frame Kept)} {x y : machine.Standing Kept}
      {us vs : List grammar.Token} → Steps s now ts a x us
      → machine.step kept a x us ≡ machine.Goes_to b y vs → Steps s now ts b y vs

-- where steps lead from here: to a term that nothing may follow, to one that is awaited, or to the
-- end
abbrev pub IsSettled : List (machine.Frame Kept) → machine.Standing Kept → List grammar.Token
    → Stack → Settled → Type 0
IsSettled s now ts stack Refused =
    (a : List (machine.Frame Kept)) × (k : Kept) × (priority : ℕ) × (us : List grammar.Token)
    × Steps s now ts a (machine.Holds k priority) us
    × (machine.step kept a (machine.Holds k priority) us ≡ machine.Refused)
IsSettled s now ts stack (Awaits step) =
    Steps s now ts (opened stack) machine.Awaits (tokens_left step)
IsSettled s now ts stack Ends =
    (a : List (machine.Frame Kept)) × (us : List grammar.Token)
    × Steps s now ts a (machine.Ends (top (items_of stack))) us
