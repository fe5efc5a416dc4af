-- Where the arguments of a compound lie. No public clause cites this module.
use Rattle.std.specs.Prelude.{List}
use Rattle.tc_term.specs.declared.terms.Block.{Block}
use Rattle.tc_term.specs.declared.terms.Block.TheVariants.{One, Two, Many}
use Rattle.tc_term.specs.declared.terms.Term.{Term}

-- the arguments, in order
abbrev pub terms_of : Block → List Term
terms_of (One ts) = ts
terms_of (Two ts) = ts
terms_of (Many ts) = ts.items
