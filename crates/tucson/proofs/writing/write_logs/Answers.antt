use Rattle.std.proofs.Common.{◌≡◌, ◌∙◌, ◌<◌, ◌≤◌, Err, Ok, Some, length, get_or, sym, ap, rules, arith, refl}
use Rattle.std.specs.Prelude.{slice_get}
use Rattle.std.proofs.lemmas.Option.{slice_get_read}
use Rattle.tc_config.specs.declared.configs.AgentConf.{AgentConf}
use Rattle.tc_histtext.specs.Text.{log_text}
use Rattle.tc_histline.specs.declared.versions.Version.TheVariants.{Two}
use Rattle.tucson.proofs.Zipped.{log_of, logs-zipped, part-amid, part-handed, parts-handed, text_is}
use Rattle.tucson.proofs.writing.write_logs.Goals as goal

pub returns-in_err-write_log : goal.returns-in_err-write_log
returns-in_err-write_log g c =
    let agents = c.args.plan.now.agents in
    let logs = c.args.logs.now in
    let i = c.loop-place.place in
    let a = c.index-agents-place.result in
    let log = c.index-logs-place.result in
    let within : i < length agents = omega (arith, ap length c.agents-agents.ensures.agents, c.loop-place-test.true) in
    let is : a ≡ get_or agents i a = c.index-agents-place.is ∙ ap (λ l. get_or l i a) c.agents-agents.ensures.agents in
    let there : slice_get logs i ≡ Some log = slice_get_read logs (length logs) i log refl (omega (arith, within, c.requires.logs)) c.index-logs-place.is in
    let told : c.from_residual.result ≡ Err c.in_err-write_log.field-0.0 = search rules in
    text_is _ _ _ _ c.from_residual.result (sym (logs-zipped Two agents logs))
    (part-amid (log_of Two) agents logs i a log _ _ _ c.write_log.result c.from_residual.result c.in_err-write_log.field-0.0
    within is there c.in_err-write_log.was told c.loop-place.invariant
    (text_is _ _ _ _ c.write_log.result (ap (λ (x : AgentConf). log_text Two x.name c.deref.result.now) (sym c.index-agents-place.is) ∙ ap (log_text Two a.name) c.deref.ensures.value) c.write_log.ensures))

pub loop-place-preserved : goal.loop-place-preserved
loop-place-preserved g c =
    let agents = c.args.plan.now.agents in
    let logs = c.args.logs.now in
    let i = c.loop-place.place in
    let a = c.index-agents-place.result in
    let log = c.index-logs-place.result in
    let within : i < length agents = omega (arith, ap length c.agents-agents.ensures.agents, c.loop-place-test.true) in
    let is : a ≡ get_or agents i a = c.index-agents-place.is ∙ ap (λ l. get_or l i a) c.agents-agents.ensures.agents in
    let there : slice_get logs i ≡ Some log = slice_get_read logs (length logs) i log refl (omega (arith, within, c.requires.logs)) c.index-logs-place.is in
    part-handed (log_of Two) agents logs i a log _ _ _ c.write_log.result
    within is there c.in_ok-write_log.was c.loop-place.invariant
    (text_is _ _ _ _ c.write_log.result (ap (λ (x : AgentConf). log_text Two x.name c.deref.result.now) (sym c.index-agents-place.is) ∙ ap (log_text Two a.name) c.deref.ensures.value) c.write_log.ensures)

pub returns : goal.returns
returns g c =
    let agents = c.args.plan.now.agents in
    let logs = c.args.logs.now in
    let end : length agents ≤ c.loop-place.place = omega (arith, ap length c.agents-agents.ensures.agents, c.loop-place-test.false) in
    text_is _ _ _ _ (Ok tt) (sym (logs-zipped Two agents logs))
    (parts-handed (log_of Two) agents logs c.loop-place.place _ _ end c.loop-place.invariant)
