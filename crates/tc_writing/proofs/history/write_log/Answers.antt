use Rattle.std.proofs.Common.{◌≡◌, Err, rules}
use Rattle.std.specs.List.{flat_map}
use Rattle.tc_histline.specs.Text.{agent_heading, row_text}
use Rattle.tc_histline.specs.declared.versions.Version.TheVariants.{Two}
use Rattle.tc_histtext.specs.Text.{log_text}
use Rattle.tc_io.specs.declared.sinks.SinkFault.TheVariants.{NoMemory}
use Rattle.tc_io.proofs.Flows.{amid}
use Rattle.tc_writing.proofs.Begun.{headed}
use Rattle.tc_writing.proofs.LineByLine.{printed, unprinted_as}
use Rattle.tc_writing.proofs.history.write_log.Goals as goal

pub returns-in_err-print_heading : goal.returns-in_err-print_heading
returns-in_err-print_heading g c =
    let told : c.from_residual.result ≡ Err NoMemory = search rules in
    unprinted_as (log_text Two c.args.agent.now c.args.log.now) _ _ _ _ told c.in_err-print_heading.ensures.same

pub returns-in_err-spill : goal.returns-in_err-spill
returns-in_err-spill g c =
    let told : c.from_residual-in_err-spill.result ≡ Err c.in_err-spill.field-0.0 = search rules in
    amid (agent_heading c.args.agent.now) (flat_map (row_text Two) c.args.log.now) _ _ c.spill.result c.from_residual-in_err-spill.result c.in_err-spill.field-0.0
    c.in_err-spill.was told
    (printed (agent_heading c.args.agent.now) _ _ _ _ c.spill.result c.in_ok-print_heading.ensures.appended c.spill.ensures)

pub returns : goal.returns
returns g c =
    let heading = agent_heading c.args.agent.now in
    headed heading (row_text Two) c.args.log.now _ _ _ c.spill.result c.write_by.result c.in_ok-spill.was
    (printed heading _ _ _ _ c.spill.result c.in_ok-print_heading.ensures.appended c.spill.ensures) c.write_by.ensures
