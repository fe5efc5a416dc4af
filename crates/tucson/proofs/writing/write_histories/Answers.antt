use Rattle.std.proofs.Common.{◌≡◌, ◌∙◌, ◌<◌, ◌≤◌, Err, Ok, length, get_or, sym, ap, rules, arith}
use Rattle.tc_config.specs.Configurations.{agent_names, centre_names}
use Rattle.tc_histtext.specs.Text.{history_text}
use Rattle.tc_runner.specs.Cores.{histories}
use Rattle.tucson.proofs.Zipped.{histories-zipped, part-amid, part-handed, parts-handed, text_is}
use Rattle.tucson.proofs.writing.write_histories.Goals as goal

pub returns-in_err-write_history : goal.returns-in_err-write_history
returns-in_err-write_history g c =
    let plan = c.args.plan.now in
    let names = centre_names plan in
    let all = histories plan c.args.cores.now in
    let i = c.loop-place.place in
    let name = c.index-centres-place.result in
    let within : i < length names = omega (arith, ap length c.centres-centres.ensures.names, c.loop-place-test.true) in
    let is : name ≡ get_or names i name = c.index-centres-place.is ∙ ap (λ l. get_or l i name) c.centres-centres.ensures.names in
    let told : c.from_residual.result ≡ Err c.in_err-write_history.field-0.0 = search rules in
    text_is _ _ _ _ c.from_residual.result (sym (histories-zipped (agent_names plan) names all))
    (part-amid (history_text (agent_names plan)) names all i name c.history_at.result.1.now _ _ _ c.write_history.result c.from_residual.result c.in_err-write_history.field-0.0
    within is c.history_at.ensures.history c.in_err-write_history.was told c.loop-place.invariant
    (text_is _ _ _ _ c.write_history.result (ap (λ agents. history_text agents name c.history_at.result.1.now) c.history_at.ensures.agents) c.write_history.ensures))

pub loop-place-preserved : goal.loop-place-preserved
loop-place-preserved g c =
    let plan = c.args.plan.now in
    let names = centre_names plan in
    let all = histories plan c.args.cores.now in
    let i = c.loop-place.place in
    let name = c.index-centres-place.result in
    let within : i < length names = omega (arith, ap length c.centres-centres.ensures.names, c.loop-place-test.true) in
    let is : name ≡ get_or names i name = c.index-centres-place.is ∙ ap (λ l. get_or l i name) c.centres-centres.ensures.names in
    part-handed (history_text (agent_names plan)) names all i name c.history_at.result.1.now _ _ _ c.write_history.result
    within is c.history_at.ensures.history c.in_ok-write_history.was c.loop-place.invariant
    (text_is _ _ _ _ c.write_history.result (ap (λ agents. history_text agents name c.history_at.result.1.now) c.history_at.ensures.agents) c.write_history.ensures)

pub returns : goal.returns
returns g c =
    let plan = c.args.plan.now in
    let names = centre_names plan in
    let all = histories plan c.args.cores.now in
    let end : length names ≤ c.loop-place.place = omega (arith, ap length c.centres-centres.ensures.names, c.loop-place-test.false) in
    text_is _ _ _ _ (Ok tt) (sym (histories-zipped (agent_names plan) names all))
    (parts-handed (history_text (agent_names plan)) names all c.loop-place.place _ _ end c.loop-place.invariant)
