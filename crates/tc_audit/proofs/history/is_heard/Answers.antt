use Rattle.tc_audit.proofs.history.is_heard.Goals as goal

pub returns : goal.returns
returns c = (
  λ always. (c.is_quiet.ensures.0 c.if-not-is_quiet.false, c.is_next.ensures.0 always),
  λ heard. c.is_next.ensures.1 heard.1,
)
