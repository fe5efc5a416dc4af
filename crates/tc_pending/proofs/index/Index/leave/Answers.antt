use Rattle.std.proofs.Common.{not, get_or, ap, ◌∙◌}
use Rattle.tc_lists.proofs.Options.{IfNone-at, none_from_is_some}
use Rattle.tc_pending.proofs.index.Index.leave.Goals as goal

pub returns-then-is_none : goal.returns-then-is_none
returns-then-is_none c = λ d k inside has.
    let never = IfNone-at _ c.place_of.result (none_from_is_some c.place_of.result (c.is_none.ensures ∙ ap not c.if-is_none.true)) c.place_of.ensures.none in
    let number = get_or c.args.serials.now k 0 in (
      c.leave.ensures.kept d number (λ same. never k (inside, same)) has.0,
      has.1,
    )
