use Rattle.std.proofs.Common.{IsTrue, ℕ}
use Rattle.tc_lists.proofs.Options.{IfSome-at}
use Rattle.tc_term.specs.NameBytes.{has_read_names}
use Rattle.tc_term.specs.Tree.{Tree}
use Rattle.tc_spec.proofs.texts.clause_at.Goals as goal

pub reaction_from-requires-clause-names : goal.reaction_from-requires-clause-names
reaction_from-requires-clause-names c =
    IfSome-at (λ (x : Tree × ℕ). IsTrue (has_read_names x.0)) c.in-Ok-Some.field-0 (c.in-Ok-Some.clause, c.in-Ok-Some.behind)
    c.in-Ok-Some.field-0-is c.in-Ok-Some.ensures.names

pub returns-in-Err-clause-fault : goal.returns-in-Err-clause-fault
returns-in-Err-clause-fault c = c.no_clause.ensures c.args.text.now c.args.from c.in-Err.ensures.unread
