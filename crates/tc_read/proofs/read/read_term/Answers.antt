use Rattle.std.proofs.Common.{◌≡◌, sym, ◌∙◌, refl, length, false}
use Rattle.tc_term.specs.Layouts.{TextEnd}
use Rattle.tc_term.specs.Faults.{Ended, ReadsAs, first_wide}
use Rattle.tc_read.proofs.Answering.{answer_of, to_read, no_end}
use Rattle.tc_read.proofs.read.read_term.Goals as goal
use Rattle.tc_lists.proofs.Options.{none_from_never}

pub returns-in-ClauseEnd : goal.returns-in-ClauseEnd
returns-in-ClauseEnd c =
    let s = c.in_ok-gathered.ensures in
    absurd (no_end (length c.args.text.now) c.args.text.now s.0 c.in-ClauseEnd.place (rw c.in-ClauseEnd.is at s.1))

pub returns : goal.returns
returns c =
    let s = c.in_ok-gathered.ensures in
    let narrow : first_wide s.0 ≡ _ = sym s.2.wide ∙ none_from_never c.in_ok-gathered.field-0.gathered.wide c.in_default.not-Some in
    answer_of (Ended (length c.args.text.now) s.0 TextEnd) (ReadsAs false (length c.args.text.now) c.args.text.now)
    (λ a h. to_read false (length c.args.text.now) c.args.text.now s.0 TextEnd (rw c.in-TextEnd.is at s.1) narrow a h)
    (length c.args.text.now) c.read_tokens.result
    (c.read_tokens.ensures (length c.args.text.now) (length c.args.text.now) s.0 TextEnd s.2 narrow refl refl)

pub read_tokens-requires : goal.read_tokens-requires
read_tokens-requires c =
    let s = c.in_ok-gathered.ensures in
    (s.0, s.2, sym s.2.wide ∙ none_from_never c.in_ok-gathered.field-0.gathered.wide c.in_default.not-Some)
