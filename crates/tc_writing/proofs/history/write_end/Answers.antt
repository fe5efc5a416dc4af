use Rattle.std.proofs.Common.{◌≡◌, Err, rules}
use Rattle.tc_histline.specs.Text.{end_text}
use Rattle.tc_io.specs.declared.sinks.SinkFault.TheVariants.{NoMemory}
use Rattle.tc_writing.proofs.LineByLine.{unprinted_as}
use Rattle.tc_writing.proofs.history.write_end.Goals as goal

pub returns-in_err-print_end-clause-hands : goal.returns-in_err-print_end-clause-hands
returns-in_err-print_end-clause-hands g c =
    let told : c.from_residual.result ≡ Err NoMemory = search rules in
    unprinted_as (end_text c.args.blocked) _ _ _ _ told c.in_err-print_end.ensures.same
