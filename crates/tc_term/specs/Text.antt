-- The canonical text of terms, as bytes.
use Rattle.std.specs.Prelude.{ℕ, ◌==◌, ◌&&◌, Bool, false, if◌then◌else◌, List, [], ◌∷◌, ◌++◌, codes}
use Rattle.std.specs.Fmt.{decimal, signed_decimal}
use Rattle.std.specs.List.{flat_map, list_all}
use Rattle.std.specs.Str.{bytes_eq}
use Rattle.tc_term.specs.Bytes.{is_word, is_name_start}
use Rattle.tc_term.specs.Tree.{Tree, Variable, Atomic, Number, Compound, Trees, Last, More}
use Rattle.tc_term.specs.Variables.{renumbered}

-- whether the bytes have the form of a name token: a lower-case letter, then letters, digits and _
abbrev pub is_name : List ℕ → Bool
is_name [] = false
is_name (b ∷ bs) = is_name_start b && list_all is_word bs

-- whether the name is that of the empty list
abbrev pub is_nil : List ℕ → Bool
is_nil name = bytes_eq name (codes "[]")

-- whether the name is that of a list cell
abbrev pub is_dot : List ℕ → Bool
is_dot name = bytes_eq name (codes ".")

-- how a byte is written between quotes
abbrev pub quoted_byte : ℕ → List ℕ
quoted_byte b =
    if b == 39 then codes "\\'"
    else if b == 92 then codes "\\\\"
    else if b == 10 then codes "\\n"
    else if b == 9 then codes "\\t"
    else b ∷ []

-- the bytes between quotes
abbrev pub quoted : List ℕ → List ℕ
quoted bytes = codes "'" ++ flat_map quoted_byte bytes ++ codes "'"

-- a name: plain where it has the form of a name token, else quoted
abbrev pub name_text : List ℕ → List ℕ
name_text name = if is_name name then name else quoted name

-- the name of an atom: that of the empty list is plain too
abbrev pub atom_text : List ℕ → List ℕ
atom_text name = if is_nil name then codes "[]" else name_text name

-- where a term stands: by itself, or behind an element of a list
pub data Place : Type 0 where
  Alone : Place
  Behind : Place

-- a text that is no list, in its place: behind an element it stands between a bar and the bracket
abbrev pub placed : Place → List ℕ → List ℕ
placed Alone text = text
placed Behind text = codes "|" ++ text ++ codes "]"

-- what stands before an element of a list
abbrev pub before_element : Place → List ℕ
before_element Alone = codes "["
before_element Behind = codes ","

-- the empty list, which behind an element only closes the list
abbrev pub empty_list : Place → List ℕ
empty_list Alone = codes "[]"
empty_list Behind = codes "]"

-- a name and its arguments in brackets
abbrev pub applied : List ℕ → List ℕ → List ℕ
applied name arguments = name_text name ++ codes "(" ++ arguments ++ codes ")"

-- the text of a term in its place: a cell of two arguments is written as a list
unfoldable mutual
  pub text_in : Place → Tree → List ℕ
  text_in place (Variable n) = placed place (codes "_" ++ decimal n)
  text_in place (Atomic name) =
      if is_nil name then empty_list place else placed place (name_text name)
  text_in place (Number n) = placed place (signed_decimal n)
  text_in place (Compound name (More t (Last u))) =
      if is_dot name
      then before_element place ++ text_in Alone t ++ text_in Behind u
      else placed place (applied name (text_in Alone t ++ codes "," ++ text_in Alone u))
  text_in place (Compound name args) = placed place (applied name (texts_of args))

  pub texts_of : Trees → List ℕ
  texts_of (Last t) = text_in Alone t
  texts_of (More t ts) = text_in Alone t ++ codes "," ++ texts_of ts

-- the text of a term, its variables numbered as they are
abbrev pub text_of : Tree → List ℕ
text_of t = text_in Alone t

-- the canonical text of a term: its variables are numbered anew, by first appearance
abbrev pub canonical : Tree → List ℕ
canonical t = text_of (renumbered t)
