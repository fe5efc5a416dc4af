-- What is known of a term that was read, before it is judged.
use Rattle.std.specs.Prelude.{◌≡◌, ◌≤◌, ℕ, None}
use Rattle.std.specs.List.{range_with_len}
use Rattle.tc_term.specs.Faults.{Reading}
use Rattle.tc_term.specs.Limits.{most_variables}
use Rattle.tc_term.specs.Tree.{HasIntegers}
use Rattle.tc_term.specs.Variables.{variables}
use Rattle.tc_read.specs.Kept.{Kept, kept_of}

-- it is kept of a reading whose variables, if they are few, are numbered by first appearance, and
-- whose numbers have 64 bits where none is too wide
pub record IsRead (k : Kept) (count : ℕ) : Type 0 where
  pub reading : Reading
  pub kept : kept_of reading ≡ k
  pub numbered : count ≤ most_variables → variables reading.term ≡ range_with_len 0 count
  pub integers : reading.wide ≡ None → HasIntegers reading.term
