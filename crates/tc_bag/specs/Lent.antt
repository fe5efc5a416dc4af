-- Keys and terms that are lent.
use Rattle.std.specs.Borrow.{Bor}
use Rattle.std.specs.Option.{option_map}
use Rattle.std.specs.Prelude.{Option}
use Rattle.tc_term.specs.declared.terms.Term.{Term}
use Rattle.tc_term.specs.Tree.{Tree}
use Rattle.tc_term.specs.TreeView.{tree_of}
use Rattle.tc_bag.specs.declared.key.Key.{Key}
use Rattle.tc_bag.specs.declared.key.Lent.{Lent}

-- the key that is lent
abbrev pub lent_key : Lent → Key
lent_key Lent.Any = Key.Any
lent_key Lent.Int = Key.Int
lent_key (Lent.Atom name) = Key.Atom name.now
lent_key (Lent.Comp name count) = Key.Comp name.now count

-- the tree of the term that is lent, if one is
abbrev pub lent_tree : Option (Bor Term) → Option Tree
lent_tree term = option_map (λ t. tree_of t.now) term
