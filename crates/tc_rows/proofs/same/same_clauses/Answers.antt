use Rattle.std.proofs.Common.{◌≡◌, ◌++◌, List, ℕ, sym, subst, ap, ◌∙◌}
use Rattle.std.proofs.lemmas.Slice.Eq.{bytes_eq-Decides}
use Rattle.tc_model.specs.Reactions.{clauses_text}
use Rattle.tc_spec.specs.Texts.{IsSpelt}
use Rattle.tc_spec.proofs.OneText.{one_text}
use Rattle.tc_spec.proofs.PrintedTexts.{printed-spelt}
use Rattle.tc_rows.proofs.same.same_clauses.Goals as goal

pub returns : goal.returns
returns c =
    let cs = c.args.cs.now in
    let ds = c.args.ds.now in
    let first : c.print_spec.new.into.items ≡ clauses_text cs =
    c.in_ok-print_spec.ensures.printed ∙ ap (λ (xs : List ℕ). xs ++ clauses_text cs) c.new-text.ensures.items in
    let second : c.print_spec-2.new.into.items ≡ clauses_text ds =
    c.in_ok-print_spec-2.ensures.printed ∙ ap (λ (xs : List ℕ). xs ++ clauses_text ds) c.new-other.ensures.items in
    let same = bytes_eq-Decides c.print_spec.new.into.items c.print_spec-2.new.into.items in (
      λ yes.
          one_text (clauses_text cs) cs ds (printed-spelt cs c.items-cs.ensures.clauses)
          (subst (λ text. IsSpelt text ds) (sym second ∙ (sym (same.0 (sym c.eq.ensures ∙ yes)) ∙ first))
          (printed-spelt ds c.items-ds.ensures.clauses)),
      λ is. c.eq.ensures ∙ same.1 (first ∙ (ap clauses_text is ∙ sym second)),
    )
