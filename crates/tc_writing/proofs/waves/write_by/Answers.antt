use Rattle.std.proofs.Common.{◌≡◌, Err, rules}
use Rattle.tc_writing.specs.Lines.{texts}
use Rattle.tc_writing.proofs.Begun.{begun-amid, begun-last, begun-more, begun-none, parted}
use Rattle.tc_writing.proofs.waves.write_by.Goals as goal

pub loop-rest-init : goal.loop-rest-init
loop-rest-init g c = (c.requires.named, begun-none (texts c.args.lines) _)

pub returns-in_err-write_wave : goal.returns-in_err-write_wave
returns-in_err-write_wave g c =
    let rest = texts c.loop-rest.rest in
    let wave = texts c.split_at.result.0 in
    let behind = texts c.split_at.result.1 in
    let told : c.from_residual.result ≡ Err c.in_err-write_wave.field-0.0 = search rules in
    begun-amid (texts c.args.lines) rest wave behind _ _ _ c.write_wave.result c.loop-rest.invariant.1
    (parted rest wave behind _ c.split_at.ensures.first c.split_at.ensures.rest) c.write_wave.ensures
    c.from_residual.result c.in_err-write_wave.field-0.0 c.in_err-write_wave.was told

pub loop-rest-preserved : goal.loop-rest-preserved
loop-rest-preserved g c =
    let rest = texts c.loop-rest.rest in
    let wave = texts c.split_at.result.0 in
    let behind = texts c.split_at.result.1 in (
      c.split_at.ensures.rest_named,
      begun-more (texts c.args.lines) rest wave behind _ _ _ c.write_wave.result c.loop-rest.invariant.1
          (parted rest wave behind _ c.split_at.ensures.first c.split_at.ensures.rest) c.write_wave.ensures c.in_ok-write_wave.was,
    )

pub returns : goal.returns
returns g c = begun-last (texts c.args.lines) (texts c.loop-rest.rest) _ _ _ c.write_lines.result c.loop-rest.invariant.1 c.write_lines.ensures
