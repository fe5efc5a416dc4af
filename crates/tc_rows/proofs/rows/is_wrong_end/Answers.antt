use Rattle.std.proofs.Common.{◌≡◌, ◌≤◌, Some, IfNone, IfSome, length, slice_get, refl, sym, subst, ap, ◌∙◌, arith}
use Rattle.std.proofs.lemmas.Bool.{false≢true}
use Rattle.std.proofs.lemmas.Option.{same_Some, slice_get_read}
use Rattle.tc_asks.specs.Nexts.{IsNextAsk}
use Rattle.tc_asks.specs.Progress.{HasTakenIn}
use Rattle.tc_config.specs.declared.configs.AgentConf.{AgentConf}
use Rattle.tc_desk.specs.Asks.{steps_of}
use Rattle.tc_rows.proofs.Sounding.{index-made}
use Rattle.tc_rows.proofs.Strays.{wrong-end}
use Rattle.tc_rows.proofs.rows.is_wrong_end.Goals as goal

pub has_stray-requires : goal.has_stray-requires
has_stray-requires c =
    index-made c.args.config.now c.args.histories.now c.args.index.now c.requires.quiet c.requires.index

pub next_ask-requires-clause-taken : goal.next_ask-requires-clause-taken
next_ask-requires-clause-taken c =
    let config = c.args.config.now in
    let conf = c.index-agents-agent.result in
    let here : slice_get config.agents c.args.agent ≡ Some conf =
    subst (λ all. slice_get all c.args.agent ≡ Some conf) c.agents.ensures.agents
    (slice_get_read c.agents.result.now (length c.agents.result.now) c.args.agent conf refl
    (omega (arith, c.requires.inside, ap length c.agents.ensures.agents)) c.index-agents-agent.is) in
    let scripts_is : c.items-scripts.result.now ≡ conf.scripts =
    c.items-scripts.ensures ∙ ap (λ (x : AgentConf). x.scripts) (sym c.index-agents-agent.is) in
    subst (λ s. HasTakenIn s c.args.log.now c.args.asker.now) (sym scripts_is) (c.requires.taken conf here)

pub returns : goal.returns
returns c = λ a rows at is.
    let config = c.args.config.now in
    let conf = c.index-agents-agent.result in
    let here : slice_get config.agents c.args.agent ≡ Some conf =
    subst (λ all. slice_get all c.args.agent ≡ Some conf) c.agents.ensures.agents
    (slice_get_read c.agents.result.now (length c.agents.result.now) c.args.agent conf refl
    (omega (arith, c.requires.inside, ap length c.agents.ensures.agents)) c.index-agents-agent.is) in
    let scripts_is : c.items-scripts.result.now ≡ conf.scripts =
    c.items-scripts.ensures ∙ ap (λ (x : AgentConf). x.scripts) (sym c.index-agents-agent.is) in
    let conf_is : conf ≡ a = same_Some conf a (sym here ∙ at) in
    let same = scripts_is ∙ ap (λ (x : AgentConf). x.scripts) conf_is in
    let next = c.in_ok-next_ask.field-0 in
    wrong-end c.args.histories.now c.args.agent a rows c.args.log.now next c.is_some.result (cc) is
    (c.requires.items a at) (sym c.has_pending.ensures ∙ c.if-has_pending.false)
    (λ stray. false≢true (sym c.if-has_stray.false ∙ c.has_stray.ensures.1 stray))
    (subst (λ s. IfSome next (IsNextAsk s c.args.log.now)) same c.in_ok-next_ask.ensures.some)
    (subst (λ s. IfNone next (length (steps_of s) ≤ length c.args.log.now)) same c.in_ok-next_ask.ensures.none)
