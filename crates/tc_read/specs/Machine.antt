use Rattle.std.specs.Prelude.{ℕ, true, false, if◌then◌else◌, ◌&&◌, nat_le, List, []}
use Rattle.std.specs.Prelude.{◌∷◌, Option, Some, None}
use Rattle.tc_term.specs.Tokens.{Sign, Minus, sign_bytes}
use Rattle.tc_term.specs.Grammar.{Token, Variable, Integer, Name, Symbol, Open, Close}
use Rattle.tc_term.specs.Grammar.{OpenList, CloseList, Comma, Bar, Operator, infix_of}
use Rattle.tc_term.specs.Grammar.{Meaning, nil, cell, negated, between}
use Rattle.tc_term.specs.Grammar.{argument_priority, minus_priority, whole_priority}

-- What stands open, innermost first: an operator behind its left side; a minus; a group; a
-- compound's name and the arguments before this one; a list's items before this one; all its items,
-- before the tail. The last one comes first.
pub data Frame (A : Type 0) : Type 0 where
  Between : Operator → A → Frame A
  Negated : Frame A
  Group : Frame A
  Args : List ℕ → List A → Frame A
  Elements : List A → Frame A
  Tail : List A → Frame A

-- the highest priority of a term in the innermost open place
abbrev pub limit : {A : Type 0} → List (Frame A) → ℕ
limit [] = whole_priority
limit (Between op a ∷ s) = op.right
limit (Negated ∷ s) = minus_priority
limit (Group ∷ s) = whole_priority
limit (Args name done ∷ s) = argument_priority
limit (Elements done ∷ s) = argument_priority
limit (Tail done ∷ s) = argument_priority

-- a term is awaited; the term a of this priority has been read; the whole has been read
pub data Standing (A : Type 0) : Type 0 where
  Awaits : Standing A
  Holds : A → ℕ → Standing A
  Ends : A → Standing A

-- one step: the tokens are no term, or what stands open then, where the reader stands, and the
-- tokens that are left
pub data MachineStep (A : Type 0) : Type 0 where
  Refused : MachineStep A
  Goes_to : List (Frame A) → Standing A → List Token → MachineStep A

-- the first list, turned round, before the second
abbrev pub turned : {A : Type 0} → List A → List A → List A
turned [] xs = xs
turned (d ∷ done) xs = turned done (d ∷ xs)

module _ {A : Type 0} (m : Meaning A) where
  abbrev pub applied : List ℕ → List A → A
  applied name [] = m.atom name
  applied name (a ∷ more) = m.compound name a more

  -- the items, the last one first, before a tail
  abbrev pub cells : List A → A → A
  cells [] tail = tail
  cells (d ∷ done) tail = cells done (cell m d tail)

  -- behind a name that stands in the place of an operand
  abbrev pub named : List (Frame A) → List ℕ → List Token → MachineStep A
  named s name (Open true ∷ ts) = Goes_to (Args name [] ∷ s) Awaits ts
  named s name ts = Goes_to s (Holds (m.atom name) 0) ts

  -- behind a minus that no bracket follows
  abbrev pub minus : List (Frame A) → List Token → MachineStep A
  minus s (Integer true n place ∷ ts) = Goes_to s (Holds (m.number true n place) 0) ts
  minus s ts = Goes_to (Negated ∷ s) Awaits ts

  -- behind a symbol in the place of an operand
  abbrev pub unbracketed : List (Frame A) → Sign → List Token → MachineStep A
  unbracketed s Minus ts = minus s ts
  unbracketed s _ ts = Refused

  abbrev pub signed : List (Frame A) → Sign → List Token → MachineStep A
  signed s sign (Open true ∷ ts) = Goes_to (Args (sign_bytes sign) [] ∷ s) Awaits ts
  signed s sign ts = unbracketed s sign ts

  abbrev pub listed : List (Frame A) → List Token → MachineStep A
  listed s (CloseList ∷ ts) = Goes_to s (Holds (nil m) 0) ts
  listed s ts = Goes_to (Elements [] ∷ s) Awaits ts

  -- a term is awaited, and this token and these stand there
  abbrev pub begin : List (Frame A) → Token → List Token → MachineStep A
  begin s (Variable n) ts = Goes_to s (Holds (m.variable n) 0) ts
  begin s (Integer glued n place) ts = Goes_to s (Holds (m.number false n place) 0) ts
  begin s (Name plain name) ts = named s name ts
  begin s (Symbol sign) ts = signed s sign ts
  begin s (Open glued) ts = Goes_to (Group ∷ s) Awaits ts
  begin s OpenList ts = listed s ts
  begin s _ ts = Refused

  abbrev pub close_group : List (Frame A) → A → List Token → MachineStep A
  close_group s a (Close ∷ ts) = Goes_to s (Holds a 0) ts
  close_group s a _ = Refused

  abbrev pub close_argument :
      List (Frame A) → List ℕ → List A → A → List Token → MachineStep A
  close_argument s name done a (Close ∷ ts) = Goes_to s
      (Holds (applied name (turned done (a ∷ []))) 0) ts
  close_argument s name done a (Comma ∷ ts) = Goes_to (Args name (a ∷ done) ∷ s) Awaits ts
  close_argument s name done a _ = Refused

  abbrev pub close_element : List (Frame A) → List A → A → List Token → MachineStep A
  close_element s done a (CloseList ∷ ts) = Goes_to s (Holds (cells done (cell m a (nil m))) 0) ts
  close_element s done a (Bar ∷ ts) = Goes_to (Tail (a ∷ done) ∷ s) Awaits ts
  close_element s done a (Comma ∷ ts) = Goes_to (Elements (a ∷ done) ∷ s) Awaits ts
  close_element s done a _ = Refused

  abbrev pub close_tail : List (Frame A) → List A → A → List Token → MachineStep A
  close_tail s done a (CloseList ∷ ts) = Goes_to s (Holds (cells done a) 0) ts
  close_tail s done a _ = Refused

  abbrev pub close_all : A → List Token → MachineStep A
  close_all a [] = Goes_to [] (Ends a) []
  close_all a _ = Refused

  -- the term a is whole in the innermost open place
  abbrev pub close : List (Frame A) → A → List Token → MachineStep A
  close [] a ts = close_all a ts
  close (Between op left ∷ s) a ts = Goes_to s (Holds (between m op left a) op.priority) ts
  close (Negated ∷ s) a ts = Goes_to s (Holds (negated m a) minus_priority) ts
  close (Group ∷ s) a ts = close_group s a ts
  close (Args name done ∷ s) a ts = close_argument s name done a ts
  close (Elements done ∷ s) a ts = close_element s done a ts
  close (Tail done ∷ s) a ts = close_tail s done a ts

-- the operator at the front that a term of this priority may stand left of, in a place of this
-- limit
abbrev pub fitting_operator : ℕ → ℕ → Option Operator → Option Operator
fitting_operator p pa None = None
fitting_operator p pa (Some op) = if nat_le pa op.left && nat_le op.priority p then Some op
    else None

abbrev pub fitting : ℕ → ℕ → List Token → Option Operator
fitting p pa [] = None
fitting p pa (token ∷ ts) = fitting_operator p pa (infix_of token)

abbrev pub rest_of : List Token → List Token
rest_of [] = []
rest_of (token ∷ ts) = ts

module _ {A : Type 0} (m : Meaning A) where
  abbrev pub go_on_by : Option Operator → List (Frame A) → A → List Token → MachineStep A
  go_on_by (Some op) s a ts = Goes_to (Between op a ∷ s) Awaits (rest_of ts)
  go_on_by None s a ts = close m s a ts

  -- the term a of this priority has been read, and these tokens are left
  abbrev pub go_on : List (Frame A) → A → ℕ → List Token → MachineStep A
  go_on s a pa ts = go_on_by (fitting (limit s) pa ts) s a ts

  abbrev pub start : List (Frame A) → List Token → MachineStep A
  start s [] = Refused
  start s (token ∷ ts) = begin m s token ts

  abbrev pub step : List (Frame A) → Standing A → List Token → MachineStep A
  step s Awaits ts = start s ts
  step s (Holds a pa) ts = go_on s a pa ts
  step s (Ends a) ts = Refused
