use Rattle.std.proofs.Common.{ℕ, sym, ap, subst, ◌∙◌}
use Rattle.std.specs.Cmp.{booleans_Decides}
use Rattle.std.proofs.lemmas.Bool.{true≢false}
use Rattle.tc_lists.proofs.Options.{IfNone-at, IfSome-at, none_from_never}
use Rattle.tc_rows.specs.Rows.{AreQuietRuns}
use Rattle.tc_verify.specs.Verdicts.{AreAllSound, IsFirstAgent, IsFirstBad, any_waits}
use Rattle.tc_verify.proofs.OneVerdict.{verdict-agent, verdict-end, verdict-entry, verdict-yes}
use Rattle.tc_verify.proofs.verdicts.verdict_on.Goals as goal

pub returns-in-Some-clause-same : goal.returns-in-Some-clause-same
returns-in-Some-clause-same c =
    let bad = IfSome-at (λ (at : ℕ × ℕ). IsFirstBad c.args.config.now c.items.result.now at.0 at.1) c.in_ok-centre.field-0 (c.in-Some.centre, c.in-Some.number) c.in-Some.is c.in_ok-centre.ensures.bad in
    verdict-entry c.args.question c.args.config.now c.args.text.now c.in-Ok.told c.in-Ok.ensures.same c.in-Ok.ensures.refused c.in-Some.centre c.in-Some.number
    (subst (λ hs. IsFirstBad c.args.config.now hs c.in-Some.centre c.in-Some.number) c.items.ensures bad)

pub returns-in-Some-2-clause-same : goal.returns-in-Some-2-clause-same
returns-in-Some-2-clause-same c =
    let none = none_from_never c.in_ok-centre.field-0 c.in_default.not-Some in
    let quiet = subst (AreQuietRuns c.args.config.now) c.items.ensures (IfNone-at (AreQuietRuns c.args.config.now c.items.result.now) c.in_ok-centre.field-0 none c.in_ok-centre.ensures.none) in
    let faulty = IfSome-at (λ (at : ℕ × ℕ). IsFirstAgent c.args.question c.args.config.now c.in-Ok.told at.0 at.1) c.in_ok-agent.field-0 (c.in-Some-2.agent, c.in-Some-2.number) c.in-Some-2.is c.in_ok-agent.ensures.faulty in
    verdict-agent c.args.question c.args.config.now c.args.text.now c.in-Ok.told c.in-Ok.ensures.same c.in-Ok.ensures.refused quiet c.in-Some-2.agent c.in-Some-2.number faulty

pub returns-then-told-any_waits-clause-same : goal.returns-then-told-any_waits-clause-same
returns-then-told-any_waits-clause-same c =
    let none = none_from_never c.in_ok-centre.field-0 c.in_default.not-Some in
    let quiet = subst (AreQuietRuns c.args.config.now) c.items.ensures (IfNone-at (AreQuietRuns c.args.config.now c.items.result.now) c.in_ok-centre.field-0 none c.in_ok-centre.ensures.none) in
    let sound = IfNone-at (AreAllSound c.args.question c.args.config.now c.in-Ok.told) c.in_ok-agent.field-0 (none_from_never c.in_ok-agent.field-0 c.in_default-2.not-Some) c.in_ok-agent.ensures.sound in
    verdict-yes c.args.question c.args.config.now c.args.text.now c.in-Ok.told c.in-Ok.ensures.same c.in-Ok.ensures.refused quiet sound
    ((booleans_Decides c.in-Ok.told.blocked c.any_waits.result).0 c.if-told-any_waits.true ∙ (c.any_waits.ensures ∙ ap any_waits c.items-2.ensures))

pub returns-clause-same : goal.returns-clause-same
returns-clause-same c =
    let none = none_from_never c.in_ok-centre.field-0 c.in_default.not-Some in
    let quiet = subst (AreQuietRuns c.args.config.now) c.items.ensures (IfNone-at (AreQuietRuns c.args.config.now c.items.result.now) c.in_ok-centre.field-0 none c.in_ok-centre.ensures.none) in
    let sound = IfNone-at (AreAllSound c.args.question c.args.config.now c.in-Ok.told) c.in_ok-agent.field-0 (none_from_never c.in_ok-agent.field-0 c.in_default-2.not-Some) c.in_ok-agent.ensures.sound in
    verdict-end c.args.question c.args.config.now c.args.text.now c.in-Ok.told c.in-Ok.ensures.same c.in-Ok.ensures.refused quiet sound
    (λ ends. true≢false (sym ((booleans_Decides c.in-Ok.told.blocked c.any_waits.result).1 (ends ∙ sym (c.any_waits.ensures ∙ ap any_waits c.items-2.ensures))) ∙ c.if-told-any_waits.false))
