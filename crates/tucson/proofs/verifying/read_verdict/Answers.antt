use Rattle.std.proofs.Common.{ℕ, List, subst, sym}
use Rattle.tc_io.specs.Sources.{ReadsAll, source_of}
use Rattle.tc_verify.specs.Judgements.{IsRefusedWith}
use Rattle.tucson.specs.Reading.{StopsReading, stop_of_input}
use Rattle.tucson.specs.declared.limits.TheConstants.{MOST_INPUT}
use Rattle.tucson.proofs.Stops.{all_some, failed_stops, residual_stops, text_stops}
use Rattle.tucson.proofs.verifying.read_verdict.Goals as goal

pub returns-in_err-input-clause-stopped : goal.returns-in_err-input-clause-stopped
returns-in_err-input-clause-stopped g c =
    let source = source_of g.S.Source.left g.S.Source.read_faults g.S.Source.sure c.args.source.now in
    let after = source_of g.S.Source.left g.S.Source.read_faults g.S.Source.sure c.read_all.new.source in
    let fault = c.in_err-input.field-0.0 in
    residual_stops (StopsReading MOST_INPUT IsRefusedWith source after) (stop_of_input fault) c.from_residual.result c.from_residual.ensures.1
    (failed_stops MOST_INPUT IsRefusedWith source after c.read_all.result fault c.in_err-input.was c.read_all.ensures.too_long c.read_all.ensures.sure)

pub returns-clause-stopped : goal.returns-clause-stopped
returns-clause-stopped g c =
    text_stops MOST_INPUT IsRefusedWith (source_of g.S.Source.left g.S.Source.read_faults g.S.Source.sure c.args.source.now)
    (source_of g.S.Source.left g.S.Source.read_faults g.S.Source.sure c.read_all.new.source) c.deref.result.now c.told_of.result
    (subst (λ (text : List ℕ). ReadsAll (g.S.Source.left c.args.source.now) (g.S.Source.left c.read_all.new.source) MOST_INPUT text)
    (sym c.deref.ensures.value) c.in_ok-input.ensures.all)
    c.told_of.ensures.stopped

pub returns-clause-rest : goal.returns-clause-rest
returns-clause-rest g c =
    all_some (g.S.Source.left c.args.source.now) (g.S.Source.left c.read_all.new.source) MOST_INPUT c.in_ok-input.input.items c.in_ok-input.ensures.all
