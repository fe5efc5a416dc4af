use Rattle.tc_term.specs.Layouts.{block}
use Rattle.std.proofs.lemmas.Option.{IfSome_then}
use Rattle.tc_read.proofs.layout.behind_slash.Goals as goal

pub returns-then-second-eq42-clause-some : goal.returns-then-second-eq42-clause-some
returns-then-second-eq42-clause-some c = IfSome_then c.behind_comment.result c.behind_comment.ensures.some (λ r t. rw (c.in_ok-second.ensures, c.if-second-eq42.true) (block t))
