-- The count of brackets, as the code has it.
use Rattle.std.specs.Prelude.{◌≡◌, ℕ, false, nat_lt}
use Rattle.tc_term.specs.Limits.{most_brackets}
use Rattle.tc_read.specs.declared.brackets.Brackets.{Brackets}

-- so many are open now and were open at most, or that was too many
pub record CountsTo (b : Brackets) (n most : ℕ) : Type 0 where
  pub beyond : b.too_many ≡ nat_lt most_brackets most
  pub same : b.too_many ≡ false → b.count ≡ n
