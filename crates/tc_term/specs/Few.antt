-- Arguments that are moved, each by itself where they are one or two.
use Rattle.std.specs.Prelude.{◌<◌, List, [], ◌∷◌, length}
use Rattle.tc_term.specs.declared.terms.Few.{Few}
use Rattle.tc_term.specs.declared.terms.Few.TheVariants.{One, Two, Many}
use Rattle.tc_term.specs.declared.terms.Term.{Term}

-- the arguments, in order
abbrev pub few_terms : Few → List Term
few_terms (One x) = x ∷ []
few_terms (Two x y) = x ∷ y ∷ []
few_terms (Many ts) = ts.items

-- those in a list are three or more
abbrev pub AreMany : Few → Type 0
AreMany (One x) = Unit {0}
AreMany (Two x y) = Unit {0}
AreMany (Many ts) = 2 < length ts.items
