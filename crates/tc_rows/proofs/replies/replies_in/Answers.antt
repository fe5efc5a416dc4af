use Rattle.std.proofs.Common.{sym, subst, take_all, arith}
use Rattle.tc_calls.specs.Places.{ArePlaces, lists_of}
use Rattle.tc_rows.specs.Made.{IsRunOf}
use Rattle.tc_rows.proofs.replies.replies_in.Goals as goal

pub note_reply-requires-clause-run : goal.note_reply-requires-clause-run
note_reply-requires-clause-run c =
    subst (λ n. IsRunOf n c.args.history.now) (sym c.loop-place.invariant.agents) c.requires

pub returns : goal.returns
returns c =
    subst (ArePlaces (lists_of c.loop-place.places.items))
    (take_all c.loop-place.place c.args.history.now (omega arith)) c.loop-place.invariant.places
