use Rattle.std.proofs.Common.{sym, ◌∙◌}
use Rattle.std.proofs.lemmas.Slice.Eq.{bytes_eq-Decides}
use Rattle.tc_verify.specs.Inputs.{mark}
use Rattle.tc_verify.proofs.inputs.is_mark.Goals as goal

pub returns : goal.returns
returns c = (
  λ yes. (bytes_eq-Decides c.args.line.now mark).0 (sym c.eq.ensures ∙ yes),
  λ is. c.eq.ensures ∙ (bytes_eq-Decides c.args.line.now mark).1 is,
)
