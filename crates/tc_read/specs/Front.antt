-- The canonical text of a term at the front of bytes, as the reader finds it: greedily, within the
-- room, and with no way back.
use Rattle.std.specs.Prelude.{ℕ, ℤ, zero, suc, Bool, true, false, if◌then◌else◌}
use Rattle.std.specs.Prelude.{◌&&◌, ◌||◌, ◌==◌, nat_lt, min, List, [], ◌∷◌}
use Rattle.std.specs.Prelude.{length}
use Rattle.std.specs.Prelude.{take, drop, Some, None, codes, is_some}
use Rattle.tc_term.specs.Bytes.{is_word, is_name_start}
use Rattle.std.specs.declared.option.Option.{Option}
use Rattle.std.specs.List.{prefix_len}
use Rattle.tc_lists.specs.AtFront.{Front, made}
use Rattle.tc_lists.specs.Decimals.{number_at, integer_at}
use Rattle.tc_term.specs.Limits.{most_depth, most_name_bytes}
use Rattle.tc_term.specs.Text.{Place, Alone, Behind, is_name, is_nil, is_dot}
use Rattle.tc_term.specs.Tokens.{escape}
use Rattle.tc_term.specs.Tree.{Tree, Variable, Atomic, Number, Compound, Trees, Last, More}
use Rattle.tc_read.specs.Budget.{paid, numbered, then_in, whole}
use Rattle.tc_read.specs.Views.{meant}
use Rattle.tc_read.specs.declared.budget.Budget.{Budget}

-- what is read, the room that is left, and the bytes behind it
abbrev pub Read : Type 0 → Type 0
Read X = Option (X × Budget × List ℕ)

-- a term without arguments, where there is room for it
abbrev pub leaf : Option Budget → Tree → List ℕ → Read Tree
leaf None t rest = None
leaf (Some left) t rest = Some (t, left, rest)

abbrev pub variable : Budget → Front ℕ → Read Tree
variable budget None = None
variable budget (Some (n, rest)) = leaf (then_in (numbered n budget) (paid 0)) (Variable n) rest

abbrev pub number : Budget → Front ℤ → Read Tree
number budget None = None
number budget (Some (z, rest)) = leaf (paid 0 budget) (Number z) rest

abbrev pub with_byte : ℕ → Front (List ℕ) → Front (List ℕ)
with_byte b read = made (λ bytes. b ∷ bytes) read

-- the bytes that are written at the front up to a closing quote, and what stands behind it
abbrev mutual
  pub quoted_at : List ℕ → Front (List ℕ)
  quoted_at [] = None
  quoted_at (b ∷ s) = if b == 39 then Some ([], s)
      else (if b == 92 then escaped_at s
      else (if b == 10 || b == 9 then None else with_byte b (quoted_at s)))

  pub escaped_at : List ℕ → Front (List ℕ)
  escaped_at [] = None
  escaped_at (b ∷ s) = if is_some (escape b) then with_byte (meant b) (quoted_at s) else None

-- the word bytes at the front, no more than the limit, and what stands behind them
abbrev pub word_at : ℕ → List ℕ → List ℕ × List ℕ
word_at limit bytes = (
  take (min limit (prefix_len is_word bytes)) bytes,
  drop (min limit (prefix_len is_word bytes)) bytes,
)

-- a quoted name, where it can't be written plainly
abbrev pub unplain : Front (List ℕ) → Front (List ℕ)
unplain None = None
unplain (Some (name, rest)) = if is_name name then None else Some (name, rest)

-- the name at the front, and what stands behind it
abbrev pub name_at : ℕ → List ℕ → Front (List ℕ)
name_at limit [] = None
name_at limit (b ∷ s) = if b == 39 then unplain (quoted_at s)
    else (if is_name_start b && nat_lt 0 limit then Some (word_at limit (b ∷ s)) else None)

-- whether a compound of this name and these arguments is a list cell
abbrev pub is_cell : List ℕ → Trees → Bool
is_cell name (More t (Last u)) = is_dot name
is_cell name _ = false

-- whether the term is no list, so that as a tail it stands behind a bar
abbrev pub is_barred : Tree → Bool
is_barred (Variable n) = true
is_barred (Atomic name) = if is_nil name then false else true
is_barred (Number z) = true
is_barred (Compound name args) = if is_cell name args then false else true

-- the empty list
abbrev pub nil : Budget → List ℕ → Read Tree
nil budget rest = leaf (paid 2 budget) (Atomic (codes "[]")) rest

-- an atom that isn't the empty list
abbrev pub atom : List ℕ → Budget → List ℕ → Read Tree
atom name budget rest = if is_nil name then None
    else leaf (paid (length name) budget) (Atomic name) rest

-- a compound that isn't a list cell
abbrev pub compound : List ℕ → Read Trees → Read Tree
compound name None = None
compound name (Some (args, left, rest)) = if is_cell name args then None
    else Some (Compound name args, left, rest)

abbrev pub before : Tree → Read Trees → Read Trees
before t None = None
before t (Some (ts, left, rest)) = Some (More t ts, left, rest)

-- behind an argument: the closing bracket, or a comma and further arguments
abbrev pub argument : (Budget → List ℕ → Read Trees) → Read Tree → Read Trees
argument more None = None
argument more (Some (t, budget, [])) = None
argument more (Some (t, budget, b ∷ s)) = if b == 41 then Some (Last t, budget, s)
    else (if b == 44 then before t (more budget s) else None)

-- at most so many arguments
abbrev pub arguments :
    (Budget → List ℕ → Read Tree) → ℕ → Budget → List ℕ → Read Trees
arguments read zero budget bytes = None
arguments read (suc n) budget bytes = argument (arguments read n) (read budget bytes)

-- a list cell of this head
abbrev pub cell_of : Tree → Read Tree → Read Tree
cell_of t None = None
cell_of t (Some (u, left, rest)) = Some (Compound (codes ".") (More t (Last u)), left, rest)

-- behind a first element
abbrev pub cell : (Budget → List ℕ → Read Tree) → Read Tree → Read Tree
cell more None = None
cell more (Some (t, budget, rest)) = cell_of t (more budget rest)

-- the closing bracket of a list behind a tail that is no list
abbrev pub barred : Read Tree → Read Tree
barred None = None
barred (Some (t, left, [])) = None
barred (Some (t, left, b ∷ s)) = if b == 93 && is_barred t then Some (t, left, s) else None

-- terms one level deeper, in each place
module _ (below : Place → Budget → List ℕ → Read Tree) where
  -- a compound behind its name and the opening bracket
  abbrev pub called : List ℕ → Budget → List ℕ → Read Tree
  called name budget bytes = compound name (then_in (paid (length name) budget)
      (λ left. arguments (below Alone) left.room.nodes left bytes))

  -- behind a name
  abbrev pub named : Budget → List ℕ → List ℕ → Read Tree
  named budget name [] = atom name budget []
  named budget name (b ∷ s) = if b == 40 then called name budget s else atom name budget (b ∷ s)

  abbrev pub named_or_number : Budget → List ℕ → Front (List ℕ) → Read Tree
  named_or_number budget bytes None = number budget (integer_at bytes)
  named_or_number budget bytes (Some (name, rest)) = named budget name rest

  -- a list cell, from its head on
  abbrev pub element : Budget → List ℕ → Read Tree
  element budget bytes =
      then_in (paid 1 budget) (λ left. cell (below Behind) (below Alone left bytes))

  -- a list behind its opening bracket
  abbrev pub list : Budget → List ℕ → Read Tree
  list budget [] = None
  list budget (b ∷ s) = if b == 93 then nil budget s else element budget (b ∷ s)

  -- a term by itself
  abbrev pub node : Budget → List ℕ → Read Tree
  node budget [] = None
  node budget (b ∷ s) = if b == 95 then variable budget (number_at 255 s)
      else (if b == 91 then list budget s
      else named_or_number budget (b ∷ s) (name_at budget.room.name_bytes (b ∷ s)))

  -- a term behind an element of a list, with the closing bracket
  abbrev pub tail : Budget → List ℕ → Read Tree
  tail budget [] = None
  tail budget (b ∷ s) = if b == 93 then nil budget s
      else (if b == 44 then element budget s
      else (if b == 124 then barred (node budget s) else None))

-- a term of at most this depth, in its place
abbrev pub reads : ℕ → Place → Budget → List ℕ → Read Tree
reads zero place budget bytes = None
reads (suc d) Alone budget bytes = node (reads d) budget bytes
reads (suc d) Behind budget bytes = tail (reads d) budget bytes

-- the name at the front as an atom
abbrev pub head : Front (List ℕ) → Read Tree
head None = None
head (Some (name, rest)) = atom name whole rest

abbrev pub or_head : List ℕ → Read Tree → Read Tree
or_head bytes None = head (name_at most_name_bytes bytes)
or_head bytes (Some r) = Some r

-- a template: the whole term at the front, or its name alone
abbrev pub canonical_at : List ℕ → Read Tree
canonical_at bytes = or_head bytes (reads most_depth Alone whole bytes)

-- what was read, whatever room is left
abbrev pub without_room : Read Tree → Front Tree
without_room None = None
without_room (Some (t, left, rest)) = Some (t, rest)
