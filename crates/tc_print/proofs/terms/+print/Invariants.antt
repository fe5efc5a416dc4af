use Rattle.std.proofs.Common.{◌≡◌, ◌++◌, drop}
use mathlib.Core.List.{IsPrefix}
use Rattle.tc_print.proofs.Parts.{separated}
use Rattle.tc_term.proofs.Variables.{variables_in}
use Rattle.tc_term.specs.Text.{name_text}
use Rattle.tc_print.proofs.terms.+print.Given as goal

-- with the arguments that are left, the text and the variables are those of the whole
abbrev pub invariant-write_compound-loop-arg : goal.invariant-write_compound-loop-arg
invariant-write_compound-loop-arg l = record {
  text : l.into.items ++ separated l.seen l.separator (drop l.arg-index l.arg-items)
      ≡ l.fn.into.items ++ name_text l.fn.name ++ separated l.fn.seen 40 l.arg-items;
  seen : variables_in l.seen (drop l.arg-index l.arg-items) ≡ variables_in l.fn.seen l.arg-items;
  kept : IsPrefix l.fn.into.items l.into.items;
}
