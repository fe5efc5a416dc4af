-- What is asked of a name, as a term and as clients write it.
use Rattle.std.specs.Prelude.{◌≡◌, ℕ, List, ◌∷◌, ◌++◌, codes}
use Rattle.tc_term.specs.Text.{canonical}
use Rattle.tc_term.specs.Tree.{Tree, Atomic, Compound, Last, More}

-- a name and a term, with a question mark between them
abbrev pub asked_of : List ℕ → Tree → Tree
asked_of name t = Compound (codes "?") (More (Atomic name) (Last t))

-- a plain name and the canonical text of a term, with the mark between blanks
abbrev pub asked_text : List ℕ → Tree → List ℕ
asked_text name t = name ++ codes " ? " ++ canonical t

-- no byte is a quote
abbrev pub HasNoQuote : List ℕ → Type 0
HasNoQuote text = (before behind : List ℕ) → text ≡ before ++ 39 ∷ behind → ⊥
