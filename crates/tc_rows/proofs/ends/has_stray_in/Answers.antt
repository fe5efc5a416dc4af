use Rattle.std.proofs.Common.{sym, subst}
use Rattle.tc_rows.specs.Made.{AreMade}
use Rattle.tc_rows.proofs.Strays.{stray-in}
use Rattle.tc_rows.proofs.ends.has_stray_in.Goals as goal

pub returns : goal.returns
returns c =
    let are = subst (AreMade c.args.agent c.args.history.now) (sym c.made_by.ensures) (c.requires c.args.agent) in
    let stray = stray-in c.args.history.now c.args.agent c.args.rows c.made_by.result.now are in
    let has = c.has_stray_made.ensures in
    (λ yes. stray.0 (has.0 yes), λ is. has.1 (stray.1 is))
