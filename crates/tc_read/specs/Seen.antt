-- What the reader of canonical text answers, as the code has it.
use Rattle.std.specs.Prelude.{List, [], ◌∷◌, Some, None}
use Rattle.std.specs.declared.option.Option.{Option}
use Rattle.tc_term.specs.declared.terms.Term.{Term}
use Rattle.tc_term.specs.Tree.{Tree, Trees}
use Rattle.tc_term.specs.TreeView.{tree_of}
use Rattle.tc_read.specs.Front.{Read, before}
use Rattle.tc_read.specs.declared.rest.Rest.{Rest}

-- this was read, and this is left
abbrev pub read_to : {X : Type 0} → X → Rest → Read X
read_to x rest = Some (x, rest.budget, rest.bytes.now)

-- what was read, if anything was, and what is left
abbrev pub term_seen : Option (Term × Rest) → Read Tree
term_seen None = None
term_seen (Some (t, rest)) = read_to (tree_of t) rest

-- arguments that were read, before what is read behind them
abbrev pub prepended : List Term → Read Trees → Read Trees
prepended [] read = read
prepended (t ∷ ts) read = before (tree_of t) (prepended ts read)
