-- Terms, names and quoted texts at the front of bytes, as texts of histories have them.
use Rattle.std.specs.Prelude.{ℕ, if◌then◌else◌, List, length, codes, Some, None}
use Rattle.tc_lists.specs.AtFront.{Front, behind, or_else, word_for}
use Rattle.tc_lists.specs.Texts.{after}
use Rattle.tc_term.specs.Text.{is_nil}
use Rattle.tc_term.specs.Tree.{Tree, is_ground}
use Rattle.tc_read.specs.Front.{canonical_at, name_at, quoted_at, without_room}

-- a template
abbrev pub template_at : List ℕ → Front Tree
template_at bytes = without_room (canonical_at bytes)

-- the term, where it has no variables
abbrev pub if_ground : Front Tree → Front Tree
if_ground None = None
if_ground (Some (t, rest)) = if is_ground t then Some (t, rest) else None

-- a tuple
abbrev pub tuple_at : List ℕ → Front Tree
tuple_at bytes = if_ground (template_at bytes)

-- a text in quotes
abbrev pub quote_at : List ℕ → Front (List ℕ)
quote_at bytes = behind (after (codes "'") bytes) quoted_at

-- a name that isn't that of the empty list
abbrev pub unless_nil : Front (List ℕ) → Front (List ℕ)
unless_nil None = None
unless_nil (Some (name, rest)) = if is_nil name then None else Some (name, rest)

-- a name of any length, written as an atom
abbrev pub atom_at : List ℕ → Front (List ℕ)
atom_at bytes =
    or_else (word_for (codes "[]") (codes "[]") bytes) (unless_nil (name_at (length bytes) bytes))
