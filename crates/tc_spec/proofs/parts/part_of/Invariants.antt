use Rattle.std.proofs.Common.{◌≡◌, ◌+◌, ℕ, List, map}
use Rattle.tc_model.specs.Reactions.{Rule}
use Rattle.tc_spec.proofs.Parted.{InPart}
use Rattle.tc_spec.proofs.Sifting.{HasClause, IsKept}
use Rattle.tc_spec.specs.Codes.{rule_part}
use Rattle.tc_spec.proofs.parts.part_of.Given as goal

-- of the clauses so far those in the part are kept
abbrev pub invariant-loop-i : goal.invariant-loop-i
invariant-loop-i l =
    (clauses : List Rule) (count : ℕ) → l.places ≡ map (rule_part count) clauses
    → IsKept (λ k. k + 1) (HasClause clauses (InPart count l.part)) l.i l.numbers.items
