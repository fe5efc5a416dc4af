-- The text of a part of a term, while variables are numbered by first appearance.
use Rattle.std.specs.Prelude.{◌≡◌, List, ℕ, codes}
use Rattle.tc_term.specs.Text.{Place, text_in, texts_of}
use Rattle.tc_term.specs.Tree.{Tree, Trees, Variable, Atomic}
use Rattle.tc_term.specs.Variables.{instance, instances, place_in, variables_after, variables_after_all}

-- a variable whose number is the place of the old one among these
abbrev pub renamed : List ℕ → ℕ → Tree
renamed seen n = Variable (place_in seen n)

-- the text of a term in its place, its variables numbered behind those that were seen before
abbrev pub text_after : List ℕ → Place → Tree → List ℕ
text_after seen place t = text_in place (instance (renamed (variables_after seen t)) t)

-- the same of arguments, with commas between
abbrev pub texts_after : List ℕ → Trees → List ℕ
texts_after seen ts = texts_of (instances (renamed (variables_after_all seen ts)) ts)

-- the term is the empty list
abbrev pub IsEmptyList : Tree → Type 0
IsEmptyList t = t ≡ Atomic (codes "[]")
