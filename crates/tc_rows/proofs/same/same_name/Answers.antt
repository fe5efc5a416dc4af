use Rattle.std.proofs.Common.{sym, ◌∙◌}
use Rattle.std.proofs.lemmas.Slice.Eq.{bytes_eq-Decides}
use Rattle.tc_rows.proofs.same.same_name.Goals as goal

pub returns : goal.returns
returns c =
    let same = bytes_eq-Decides c.args.a.now c.args.b.now in
    (λ yes. same.0 (sym c.eq.ensures ∙ yes), λ is. c.eq.ensures ∙ same.1 is)
