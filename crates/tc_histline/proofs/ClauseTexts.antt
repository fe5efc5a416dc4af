-- The text of clauses is that of one list of clauses.
use Rattle.std.proofs.Common.{◌≡◌, ℕ, List, subst}
use Rattle.tc_model.specs.Reactions.{AreClauses, Rule, clauses_text}
use Rattle.tc_spec.specs.Texts.{IsSpelt}
use Rattle.tc_spec.proofs.OneText.{one_text}
use Rattle.tc_spec.proofs.PrintedTexts.{printed-spelt}

-- a text that is that of clauses spells them
pub clauses_text-spelt : (cs : List Rule) (text : List ℕ) → AreClauses cs → clauses_text cs ≡ text → IsSpelt text cs
clauses_text-spelt cs text are same = subst (λ t. IsSpelt t cs) same (printed-spelt cs are)

pub clauses_text-one : (cs ds : List Rule) → AreClauses cs → AreClauses ds → clauses_text cs ≡ clauses_text ds → cs ≡ ds
clauses_text-one cs ds ours theirs same =
    one_text (clauses_text ds) cs ds (clauses_text-spelt cs (clauses_text ds) ours same) (printed-spelt ds theirs)
