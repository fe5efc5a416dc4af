use Rattle.std.proofs.Common.{ℕ, List, subst, sym}
use Rattle.tc_config.specs.Texts.{IsRefused}
use Rattle.tc_config.specs.declared.limits.TheConstants.{MOST_BYTES}
use Rattle.tc_io.specs.Sources.{ReadsAll, source_of}
use Rattle.tucson.specs.Reading.{StopsReading, stop_of_input}
use Rattle.tucson.proofs.Stops.{all_some, failed_stops, residual_stops, text_stops}
use Rattle.tucson.proofs.reading.read_source_by.Goals as goal

pub returns-in_err-text-clause-stopped : goal.returns-in_err-text-clause-stopped
returns-in_err-text-clause-stopped g c =
    let source = source_of g.S.Source.left g.S.Source.read_faults g.S.Source.sure c.args.source.now in
    let after = source_of g.S.Source.left g.S.Source.read_faults g.S.Source.sure c.read_all.new.source in
    let fault = c.in_err-text.field-0.0 in
    residual_stops (StopsReading MOST_BYTES IsRefused source after) (stop_of_input fault) c.from_residual.result c.from_residual.ensures.1
    (failed_stops MOST_BYTES IsRefused source after c.read_all.result fault c.in_err-text.was c.read_all.ensures.too_long c.read_all.ensures.sure)

pub returns-clause-stopped : goal.returns-clause-stopped
returns-clause-stopped g c =
    text_stops MOST_BYTES IsRefused (source_of g.S.Source.left g.S.Source.read_faults g.S.Source.sure c.args.source.now)
    (source_of g.S.Source.left g.S.Source.read_faults g.S.Source.sure c.read_all.new.source) c.deref.result.now c.read_text_by.result
    (subst (λ (spelt : List ℕ). ReadsAll (g.S.Source.left c.args.source.now) (g.S.Source.left c.read_all.new.source) MOST_BYTES spelt)
    (sym c.deref.ensures.value) c.in_ok-text.ensures.all)
    c.read_text_by.ensures.stopped

pub returns-clause-rest : goal.returns-clause-rest
returns-clause-rest g c =
    all_some (g.S.Source.left c.args.source.now) (g.S.Source.left c.read_all.new.source) MOST_BYTES c.in_ok-text.text.items c.in_ok-text.ensures.all
