use Rattle.std.proofs.Common.{◌+◌, ap, ◌∙◌}
use Rattle.tc_rows.proofs.Loads.{load-more}
use Rattle.tc_rows.proofs.fulls.load_after.Goals as goal

pub returns : goal.returns
returns c = λ origin history legal of.
    load-more origin history c.args.entry.now c.args.load (record { weight = c.in_ok-weight.weight; pending = c.in_ok-pending.pending })
    legal of (c.in_ok-weight.ensures ∙ ap (λ n. c.args.load.weight + n) c.entry_weight.ensures) c.in_ok-pending.ensures
