use Rattle.std.proofs.Common.{sym, ◌∙◌}
use Rattle.std.proofs.lemmas.Bool.{false≢true}
use Rattle.tc_config.specs.Good.{Permits}
use Rattle.tc_lists.proofs.Sets.{slice_get_inside}
use Rattle.tc_rows.proofs.Permitted.{permitted-call}
use Rattle.tc_rows.proofs.agreeing.is_waiting.Goals as goal

pub has_no_reply-requires-clause-called : goal.has_no_reply-requires-clause-called
has_no_reply-requires-clause-called c =
    let a = slice_get_inside c.args.config.now.agents c.args.agent c.requires.inside in
    permitted-call (Permits c.args.config.now a.0.role c.args.centre) c.args.id c.args.history.now
    ((c.is_permitted_call.ensures a.0 a.1).0 c.if-is_permitted_call.true)

pub returns-then-is_permitted_call : goal.returns-then-is_permitted_call
returns-then-is_permitted_call c = λ a at.
    let call = (c.is_permitted_call.ensures a at).0 c.if-is_permitted_call.true in
    (λ yes. (call, c.has_no_reply.ensures.0 yes), λ both. c.has_no_reply.ensures.1 both.1)

pub returns-else-is_permitted_call : goal.returns-else-is_permitted_call
returns-else-is_permitted_call c = λ a at. (
  λ yes. absurd (false≢true (sym c.if-is_permitted_call.false ∙ yes)),
  λ both. absurd (false≢true (sym c.if-is_permitted_call.false ∙ (c.is_permitted_call.ensures a at).1 both.0)),
)
