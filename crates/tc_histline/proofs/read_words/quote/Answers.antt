use Rattle.std.proofs.Common.{◌≡◌, ◌++◌, ℕ, List, Some, IfNone, sym, ap, subst, ◌∙◌}
use Rattle.tc_lists.proofs.Options.{IfSome-at, none_from_never}
use Rattle.tc_term.specs.Text.{quoted}
use Rattle.tc_read.specs.Written.{IsQuotedAt}
use Rattle.tc_histline.proofs.ReadWords.{quote_at-found, quote_at-none}
use Rattle.tc_histline.proofs.read_words.quote.Goals as goal

pub returns-in_default : goal.returns-in_default
returns-in_default c =
    sym (quote_at-none c.args.bytes.now
    (subst (λ o. IfNone o ((bytes rest : List ℕ) → c.args.bytes.now ≡ quoted bytes ++ rest → ⊥))
    (none_from_never c.in_ok-text.field-0 c.in_default.not-Some) c.in_ok-text.ensures.none))

pub returns : goal.returns
returns c =
    let at = IfSome-at (λ q. IsQuotedAt c.args.bytes.now 0 q.0.items q.1) c.in_ok-text.field-0 (c.in-Some.text, c.in-Some.place)
    c.in-Some.is c.in_ok-text.ensures.found in
    ap (λ t. Some (t, c.rest_from.result.now)) c.new.ensures
    ∙ (ap (λ r. Some (c.in-Some.text.items, r)) c.rest_from.ensures
    ∙ sym (quote_at-found c.args.bytes.now c.in-Some.text.items c.in-Some.place at))
