use Rattle.std.proofs.Common.{◌∙◌, Some, sym, ap, subst, arith}
use Rattle.tc_lists.proofs.Options.{none_from_never}
use Rattle.tc_read.proofs.AtFront.{HasCount, IsStanding, canonical_at-counts, canonical_at-stands}
use Rattle.tc_read.specs.Front.{without_room}
use Rattle.tc_read.specs.Seen.{term_seen}
use Rattle.tc_read.proofs.canonical.read_template.Goals as goal

pub returns-in_default : goal.returns-in_default
returns-in_default c =
    ap without_room (ap term_seen (sym (none_from_never c.in_ok-term.field-0 c.in_default.not-Some)) ∙ c.in_ok-term.ensures)

pub known-requires-clause-pattern : goal.known-requires-clause-pattern
known-requires-clause-pattern c =
    let stands = subst (IsStanding c.args.bytes.now) (sym c.in_ok-term.ensures ∙ ap term_seen c.in-Some.is) (canonical_at-stands c.args.bytes.now) in
    stands.pattern

pub known-requires-clause-count : goal.known-requires-clause-count
known-requires-clause-count c =
    subst HasCount (sym c.in_ok-term.ensures ∙ ap term_seen c.in-Some.is) (canonical_at-counts c.args.bytes.now)

pub overflow_cast-rest : goal.overflow_cast-rest
overflow_cast-rest c =
    let same = sym c.in_ok-term.ensures ∙ ap term_seen c.in-Some.is in
    let stands = subst (IsStanding c.args.bytes.now) same (canonical_at-stands c.args.bytes.now) in
    let count = subst HasCount same (canonical_at-counts c.args.bytes.now) in
    omega (arith, stands.pattern.template.few, count)

pub returns : goal.returns
returns c =
    ap (λ t. Some (t, c.in-Some.rest.bytes.now)) c.known.ensures
    ∙ ap without_room (ap term_seen (sym c.in-Some.is) ∙ c.in_ok-term.ensures)
