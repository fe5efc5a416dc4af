use Rattle.std.proofs.Common.{◌≡◌, Err, rules}
use Rattle.tc_histline.specs.Text.{version_text}
use Rattle.tc_histline.specs.declared.versions.Version.TheVariants.{Two}
use Rattle.tc_io.specs.declared.sinks.SinkFault.TheVariants.{NoMemory}
use Rattle.tc_writing.proofs.LineByLine.{unprinted_as}
use Rattle.tc_writing.proofs.history.write_version.Goals as goal

pub returns-in_err-print_version : goal.returns-in_err-print_version
returns-in_err-print_version g c =
    let told : c.from_residual.result ≡ Err NoMemory = search rules in
    unprinted_as (version_text Two) _ _ _ _ told c.in_err-print_version.ensures.same
