use Rattle.std.proofs.Common.{◌≡◌, ◌<◌, ℕ, List, [], Err, get_or, length, refl, rules}
use Rattle.tc_io.specs.declared.sinks.SinkFault.TheVariants.{NoMemory}
use Rattle.tc_writing.specs.Lines.{texts}
use Rattle.tc_writing.proofs.LineByLine.{line-amid, line-handed, printed, same-read, unprinted}
use Rattle.tc_writing.proofs.shares.write_lines.Goals as goal

pub returns-in_err-print : goal.returns-in_err-print
returns-in_err-print g c =
    let ts = texts c.args.lines in
    let line = get_or ts c.loop-place.place [] in
    let within : c.loop-place.place < length ts = search rules in
    let is = same-read ts c.loop-place.place [] line within in
    let told : c.from_residual.result ≡ Err NoMemory = search rules in
    line-amid [] (λ (t : List ℕ). t) ts c.loop-place.place line _ _ _ (Err NoMemory) c.from_residual.result NoMemory
    within is refl told c.loop-place.invariant
    (unprinted line _ _ _ c.in_err-print.ensures.same)

pub returns-in_err-spill : goal.returns-in_err-spill
returns-in_err-spill g c =
    let ts = texts c.args.lines in
    let line = get_or ts c.loop-place.place [] in
    let within : c.loop-place.place < length ts = search rules in
    let is = same-read ts c.loop-place.place [] line within in
    let told : c.from_residual-in_err-spill.result ≡ Err c.in_err-spill.field-0.0 = search rules in
    line-amid [] (λ (t : List ℕ). t) ts c.loop-place.place line _ _ _ c.spill.result c.from_residual-in_err-spill.result c.in_err-spill.field-0.0
    within is c.in_err-spill.was told c.loop-place.invariant
    (printed line _ _ _ _ c.spill.result c.in_ok-print.ensures.appended c.spill.ensures)

pub loop-place-preserved : goal.loop-place-preserved
loop-place-preserved g c =
    let ts = texts c.args.lines in
    let line = get_or ts c.loop-place.place [] in
    let within : c.loop-place.place < length ts = search rules in
    let is = same-read ts c.loop-place.place [] line within in
    line-handed [] (λ (t : List ℕ). t) ts c.loop-place.place line _ _ _ c.spill.result
    within is c.in_ok-spill.was c.loop-place.invariant
    (printed line _ _ _ _ c.spill.result c.in_ok-print.ensures.appended c.spill.ensures)
