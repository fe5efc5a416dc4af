use Rattle.std.proofs.Common.{◌≡◌}
use Rattle.tc_lists.proofs.Options.{IfNone-at}
use Rattle.tc_term.specs.TreeView.{tree_of}
use Rattle.tc_model.specs.Lines.{line_term}
use Rattle.tc_model.specs.declared.lines.Line.{Line}
use Rattle.tc_lines.proofs.Asking.{asks_nothing}
use Rattle.tc_lines.proofs.requests.request_of.Goals as goal

pub returns-in-None-clause-none : goal.returns-in-None-clause-none
returns-in-None-clause-none c =
    let t = tree_of c.args.t in
    asks_nothing t c.in_default.ensures.none
    (IfNone-at ((line : Line) → t ≡ line_term line → ⊥) c.in_ok-found.found c.in-None.is c.in_ok-found.ensures.none)
