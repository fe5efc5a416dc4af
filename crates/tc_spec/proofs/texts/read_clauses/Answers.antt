use Rattle.std.proofs.Common.{◌<◌, ◌≤◌, length, ap, arith}
use Rattle.tc_lists.proofs.Options.{IfSome-at}
use Rattle.tc_model.specs.declared.limits.TheConstants.{MOST_CLAUSES}
use Rattle.tc_spec.proofs.GoingOn.{read_more}
use Rattle.tc_spec.specs.TextAnswers.{IsClauseAt}
use Rattle.tc_spec.proofs.texts.read_clauses.Goals as goal

pub loop-clauses-preserved : goal.loop-clauses-preserved
loop-clauses-preserved c =
    let found = IfSome-at (λ x. IsClauseAt c.args.text.now c.loop-clauses.from x.0 x.1)
    c.in_ok-reaction.field-0 (c.in-Some.reaction, c.in-Some.behind) c.in-Some.is c.in_ok-reaction.ensures.found in
    let room : length c.items.result.now < MOST_CLAUSES =
    IfSome-at (λ x. length c.items.result.now < MOST_CLAUSES)
    c.in_ok-reaction.field-0 (c.in-Some.reaction, c.in-Some.behind) c.in-Some.is c.in_ok-reaction.ensures.few in
    let inside = IfSome-at (λ x. (c.loop-clauses.from < x.1) × (x.1 ≤ length c.args.text.now))
    c.in_ok-reaction.field-0 (c.in-Some.reaction, c.in-Some.behind) c.in-Some.is c.in_ok-reaction.ensures.behind in
    read_more c.args.text.now c.loop-clauses.from c.in-Some.behind c.loop-clauses.clauses c.push.new.self c.in-Some.reaction
    c.loop-clauses.invariant found (omega (arith, room, ap length c.items.ensures.items)) inside.0 inside.1 c.in_ok-push.ensures.ok
