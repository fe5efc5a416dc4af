use Rattle.std.proofs.Common.{Ok, Some, None, Option, IfSome, IsTrue, List, ℕ, true, drop, length}
use Rattle.tc_term.specs.NameBytes.{has_read_names}
use Rattle.tc_term.specs.Tree.{Tree}
use Rattle.tc_read.specs.Clauses.{AnswersAt}
use Rattle.tc_read.specs.ReadAnswers.{IsClauseAnswer}
use Rattle.tc_read.proofs.ReadNames.{names_found}
use Rattle.tc_read.proofs.clauses.next_clause.Goals as goal

names_by : (text : List ℕ) (from : ℕ) (found : Option (Tree × ℕ)) → IsClauseAnswer (AnswersAt text from) (Ok found)
    → IfSome found (λ x. IsTrue (has_read_names x.0))
names_by text from None told = tt
names_by text from (Some x) told = names_found true (length text) (drop from text) x.0 x.1 told

pub returns-in-Ok-clause-names : goal.returns-in-Ok-clause-names
returns-in-Ok-clause-names c = names_by c.args.text.now c.args.from c.in-Ok.found c.in-Ok.ensures.read

pub returns-in-Err-clause-unread : goal.returns-in-Err-clause-unread
returns-in-Err-clause-unread c = c.why_unread.ensures.why c.args.text.now c.args.from c.in-Err.ensures.read
