use Rattle.std.proofs.Common.{◌≡◌, ◌+◌, sym, ◌∙◌, refl, length, true, drop, arith}
use Rattle.std.proofs.lemmas.List.{length-drop}
use Rattle.tc_term.specs.Layouts.{ClauseEnd}
use Rattle.tc_term.specs.Faults.{Ended, ReadsAs, Found, first_wide}
use Rattle.tc_read.proofs.Answering.{fault_of, to_read, end_within, end_beyond}
use Rattle.tc_read.proofs.read.read_clause.Goals as goal
use Rattle.tc_lists.proofs.Options.{none_from_never}

pub overflow_add-result : goal.overflow_add-result
overflow_add-result c =
    let s = rw c.rest_from.ensures at c.in_ok-gathered.ensures in
    let within = end_within (rw c.in-ClauseEnd.is at s.1) (omega (arith, length-drop c.args.from c.args.text.now)) in
    omega (arith, within)

pub returns-in-Ok-clause-read : goal.returns-in-Ok-clause-read
returns-in-Ok-clause-read c =
    let s = rw c.rest_from.ensures at c.in_ok-gathered.ensures in
    let narrow : first_wide s.0 ≡ _ = sym s.2.wide ∙ none_from_never c.in_ok-gathered.field-0.gathered.wide c.in_default.not-Some in
    to_read true (length c.args.text.now) (drop c.args.from c.args.text.now) s.0 (ClauseEnd c.in-ClauseEnd.place) (rw c.in-ClauseEnd.is at s.1) narrow (Found c.in-Ok.clause (c.in-ClauseEnd.place + 1))
    (c.in-Ok.ensures (length c.args.text.now) (c.in-ClauseEnd.place + 1) s.0 (ClauseEnd c.in-ClauseEnd.place) s.2 narrow refl refl)

pub returns-in-ClauseEnd-clause-read : goal.returns-in-ClauseEnd-clause-read
returns-in-ClauseEnd-clause-read c =
    let s = rw c.rest_from.ensures at c.in_ok-gathered.ensures in
    let narrow : first_wide s.0 ≡ _ = sym s.2.wide ∙ none_from_never c.in_ok-gathered.field-0.gathered.wide c.in_default.not-Some in
    fault_of (Ended (length c.args.text.now) s.0 (ClauseEnd c.in-ClauseEnd.place)) (ReadsAs true (length c.args.text.now) (drop c.args.from c.args.text.now))
    (λ a h. to_read true (length c.args.text.now) (drop c.args.from c.args.text.now) s.0 (ClauseEnd c.in-ClauseEnd.place) (rw c.in-ClauseEnd.is at s.1) narrow a h)
    c.in-Err.fault
    (c.in-Err.ensures (length c.args.text.now) (c.in-ClauseEnd.place + 1) s.0 (ClauseEnd c.in-ClauseEnd.place) s.2 narrow refl refl)

pub returns-in-Ok-clause-behind : goal.returns-in-Ok-clause-behind
returns-in-Ok-clause-behind c =
    let s = rw c.rest_from.ensures at c.in_ok-gathered.ensures in
    let scanned = rw c.in-ClauseEnd.is at s.1 in
    let within = end_within scanned (omega (arith, length-drop c.args.from c.args.text.now)) in
    let beyond = end_beyond scanned (omega (arith, length-drop c.args.from c.args.text.now)) in
    (omega (arith, beyond, length-drop c.args.from c.args.text.now), within)

pub read_tokens-requires : goal.read_tokens-requires
read_tokens-requires c =
    let s = rw c.rest_from.ensures at c.in_ok-gathered.ensures in
    (s.0, s.2, sym s.2.wide ∙ none_from_never c.in_ok-gathered.field-0.gathered.wide c.in_default.not-Some)
