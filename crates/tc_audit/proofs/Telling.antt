-- Replies that are told are the same where their tuples are.
use Rattle.std.proofs.Common.{◌≡◌, Bool, IsTrue, sym, ap, ◌∙◌}
use Rattle.tc_term.specs.Same.{same_tree, same_tree-Decides}
use Rattle.tc_term.specs.Tree.{Tree}
use Rattle.tc_model.specs.declared.outcomes.Reply.{Reply}

pub equal-tuples : (F : Tree → Reply) → ((t u : Tree) → F t ≡ F u → t ≡ u) → (answer : Bool) (a b : Reply) (t u x y : Tree)
    → a ≡ F t → b ≡ F u → x ≡ t → y ≡ u → answer ≡ same_tree x y → (IsTrue answer → a ≡ b) × (a ≡ b → IsTrue answer)
equal-tuples F parts answer a b t u x y is other reads read test =
    let decides = same_tree-Decides x y in (
      λ same. is ∙ (ap F (sym reads ∙ (decides.0 (sym test ∙ same) ∙ read)) ∙ sym other),
      λ same. test ∙ decides.1 (reads ∙ (parts t u (sym is ∙ (same ∙ other)) ∙ sym read)),
    )
