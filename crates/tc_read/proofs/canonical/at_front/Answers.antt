use Rattle.std.proofs.Common.{◌≡◌, ◌∙◌, rules, sym, ap, subst, IfOk}
use Rattle.tc_read.specs.Front.{or_head, reads}
use Rattle.tc_term.specs.Text.{Alone}
use Rattle.tc_read.specs.Seen.{term_seen}
use Rattle.tc_read.proofs.canonical.at_front.Goals as goal

pub returns-in-Ok : goal.returns-in-Ok
returns-in-Ok c =
    sym (ap (or_head c.args.bytes.now) (ap (λ b. reads 1000 Alone b c.args.bytes.now) (sym c.whole.ensures) ∙ c.in-Ok.ensures.term))

pub returns-in-Err-NoTerm : goal.returns-in-Err-NoTerm
returns-in-Err-NoTerm c =
    subst (λ x. IfOk c.head.result (λ r. term_seen r ≡ x))
    (sym (ap (or_head c.args.bytes.now) (ap (λ b. reads 1000 Alone b c.args.bytes.now) (sym c.whole.ensures) ∙ c.in-Err-NoTerm.ensures.none (search rules))))
    c.head.ensures
