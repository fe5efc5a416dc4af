-- Lines that ask at a centre, as clients write them.
use Rattle.std.specs.Prelude.{◌≡◌, ℕ, IsTrue, List, ◌++◌, codes}
use Rattle.tc_term.specs.Text.{canonical, is_name}
use Rattle.tc_term.specs.Tree.{Tree}
use Rattle.tc_term.specs.Variables.{IsPattern}

-- the line is a plain name, a question mark between blanks, and this text
pub record IsAskedAt (line name text : List ℕ) : Type 0 where
  pub named : IsTrue (is_name name)
  pub split : line ≡ name ++ codes " ? " ++ text

-- the bytes are the canonical text of this template
pub record IsTextOf (bytes : List ℕ) (t : Tree) : Type 0 where
  pub pattern : IsPattern t
  pub text : bytes ≡ canonical t
