use Rattle.std.proofs.Common.{List, ℕ, Some, refl, sym, ap, ◌∙◌}
use Rattle.tc_model.specs.declared.calls.Op.TheVariants.{GetSpec}
use Rattle.tc_model.specs.declared.outcomes.Outcome.TheVariants.{Spec}
use Rattle.tc_model.specs.declared.outcomes.Reply.TheVariants as reply
use Rattle.tc_centre.specs.declared.answers.Answer.TheVariants.{Replied}
use Rattle.tc_centre.proofs.Specified.{served-still}
use Rattle.tc_centre.proofs.serving.get_spec.Goals as goal

pub returns-clause-served : goal.returns-clause-served
returns-clause-served c =
    let told : List ℕ = c.in_ok-text_of.field-0 in
    let text : List ℕ = c.in_ok-text_of-2.field-0 in
    served-still c.args.held.now _ c.args.id GetSpec (Spec text) c.empty.result c.requires.may.next c.requires.may.rest
    c.requires.may.room refl refl refl c.in_ok-push.ensures.items (Replied (reply.Spec told))
    (c.in_ok-text_of-2.ensures, c.empty.ensures) refl (c.typed_id.ensures, tt, c.typed.ensures)
    (ap (λ t. Some (reply.Spec t)) (c.in_ok-text_of-2.ensures ∙ sym c.in_ok-text_of.ensures))
