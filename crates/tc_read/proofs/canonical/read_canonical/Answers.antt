use Rattle.std.proofs.Common.{◌∙◌, ◌-◌, length, refl, sym, ap}
use Rattle.tc_term.proofs.Causes.{HasExcess-pattern}
use Rattle.tc_read.proofs.AtFront.{front-longest, front-none, front-rest, front-stands}
use Rattle.tc_lists.proofs.Options.{none_from_never}
use Rattle.tc_read.specs.Front.{canonical_at}
use Rattle.tc_read.specs.Seen.{term_seen}
use Rattle.tc_term.specs.TreeView.{tree_of}
use Rattle.tc_read.proofs.canonical.read_canonical.Goals as goal

pub returns-in_default-clause-none : goal.returns-in_default-clause-none
returns-in_default-clause-none c =
    front-none c.args.text.now c.args.from
    (ap canonical_at (sym c.rest_from.ensures) ∙ sym c.in_ok-term.ensures ∙ ap term_seen (none_from_never c.in_ok-term.field-0 c.in_default.not-Some))

pub returns-in-Err-TooBig-clause-none : goal.returns-in-Err-TooBig-clause-none
returns-in-Err-TooBig-clause-none c =
    let stands =
    front-stands c.args.text.now c.args.from (tree_of c.in-Some.term) c.in-Some.rest.budget c.in-Some.rest.bytes.now c.requires
    (ap canonical_at (sym c.rest_from.ensures) ∙ sym c.in_ok-term.ensures ∙ ap term_seen c.in-Some.is) in
    absurd (HasExcess-pattern c.in-Some.term c.in-Err-TooBig.field-0 stands.pattern c.in-Err-TooBig.ensures.err)

pub returns-in-Err-TooMany-clause-none : goal.returns-in-Err-TooMany-clause-none
returns-in-Err-TooMany-clause-none c =
    let stands =
    front-stands c.args.text.now c.args.from (tree_of c.in-Some.term) c.in-Some.rest.budget c.in-Some.rest.bytes.now c.requires
    (ap canonical_at (sym c.rest_from.ensures) ∙ sym c.in_ok-term.ensures ∙ ap term_seen c.in-Some.is) in
    absurd (HasExcess-pattern c.in-Some.term c.in-Err-TooMany.field-0 stands.pattern c.in-Err-TooMany.ensures.err)

pub overflow_sub-result : goal.overflow_sub-result
overflow_sub-result c =
    front-rest c.args.text.now c.args.from (tree_of c.in-Some.term) c.in-Some.rest.budget c.in-Some.rest.bytes.now c.requires
    (ap canonical_at (sym c.rest_from.ensures) ∙ sym c.in_ok-term.ensures ∙ ap term_seen c.in-Some.is)

pub returns-clause-found : goal.returns-clause-found
returns-clause-found c =
    front-longest c.args.text.now c.args.from (tree_of c.in-Some.term) c.in-Some.rest.budget c.in-Some.rest.bytes.now c.requires
    (ap canonical_at (sym c.rest_from.ensures) ∙ sym c.in_ok-term.ensures ∙ ap term_seen c.in-Some.is)
    c.in-Ok.pattern (length c.args.text.now - length c.in-Some.rest.bytes.now) c.in-Ok.ensures.ok.0 refl
