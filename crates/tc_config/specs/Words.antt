-- The words that clauses begin with, and what stands behind them.
use Rattle.std.specs.Prelude.{◌≡◌, ℕ, List, codes}
use Rattle.tc_term.specs.Tree.{Tree, Trees, Atomic, Compound, Last, More}
use Rattle.tc_term.specs.TreeView.{tree_of}
use Rattle.tc_config.specs.Forms.{lines_term}
use Rattle.tc_config.specs.declared.words.Word.{Word}
use Rattle.tc_config.specs.declared.words.Word.TheVariants as word
use Rattle.tc_config.specs.declared.words.Arguments.{Arguments}
use Rattle.tc_config.specs.declared.words.Arguments.TheVariants.{One, Two, Three, Many}
use Rattle.tc_config.specs.declared.lines.Cells.{Cells}
use Rattle.tc_config.specs.declared.lines.Cells.TheVariants as cells
use Rattle.tc_model.specs.declared.lines.Line.{Line}

-- the bytes of a word
abbrev pub word_name : Word → List ℕ
word_name word.Centre = codes "centre"
word_name word.Tuple = codes "tuple"
word_name word.Spec = codes "spec"
word_name word.Role = codes "role"
word_name word.Grant = codes "grant"
word_name word.Agent = codes "agent"
word_name word.Script = codes "script"

-- the arguments are these; many are more than three
abbrev pub AreArguments : Trees → Arguments → Type 0
AreArguments ts (One a) = ts ≡ Last (tree_of a)
AreArguments ts (Two a b) = ts ≡ More (tree_of a) (Last (tree_of b))
AreArguments ts (Three a b c) = ts ≡ More (tree_of a) (More (tree_of b) (Last (tree_of c)))
AreArguments ts Many =
    (a : Tree) × (b : Tree) × (c : Tree) × (rest : Trees)
    × (ts ≡ More a (More b (More c rest)))

-- a term as a list's cell, its end, or neither
abbrev pub AreCells : Tree → Cells → Type 0
AreCells t cells.End = t ≡ Atomic (codes "[]")
AreCells t (cells.Cell head tail) =
    t ≡ Compound (codes ".") (More (tree_of head) (Last (tree_of tail)))
AreCells t cells.Neither = (ls : List Line) → t ≡ lines_term ls → ⊥
