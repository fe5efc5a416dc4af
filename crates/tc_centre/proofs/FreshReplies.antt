-- The reply to a call that is new in a history is the one that the new entries give.
use Rattle.std.proofs.Common.{◌≡◌, ◌<◌, ◌++◌, Bool, false, cond, List, [], ◌∷◌, All, refl, ap, ◌∙◌}
use Rattle.tc_model.specs.Calls.{id_of, same_id, is_call_of, calls_of}
use Rattle.tc_model.specs.Replies.{or_given, outcome_given, outcome_in}
use Rattle.tc_model.specs.declared.calls.CallId.{CallId}
use Rattle.tc_model.specs.declared.entries.Entry.{Entry}
use Rattle.tc_model.specs.declared.entries.Entry.TheVariants.{Called, Gave, Looked}
use Rattle.tc_model.proofs.Histories.{same_id-below}
use Rattle.tc_lists.proofs.Filters.{All-filter_head, All-filter_tail}

pub outcome_in-fresh : (history more : List Entry) (id : CallId)
    → All (λ e. (id_of e).number < id.number) (calls_of id.agent history)
    → outcome_in (history ++ more) id ≡ outcome_in more id
outcome_in-fresh [] more id above = refl
outcome_in-fresh (Called i o r is ∷ es) more id above =
    let P : Entry → Type 0 = λ e. (id_of e).number < id.number in
    let mine : Entry → Bool = is_call_of id.agent in
    let other : same_id i id ≡ false = same_id-below i id (All-filter_head mine P (Called i o r is) es above) in
    ap (λ b. cond b (or_given r (outcome_given (es ++ more) id)) (outcome_in (es ++ more) id)) other
    ∙ outcome_in-fresh es more id (All-filter_tail mine P (Called i o r is) es above)
outcome_in-fresh (Gave i r is ∷ es) more id above = outcome_in-fresh es more id above
outcome_in-fresh (Looked i asked r ∷ es) more id above =
    let P : Entry → Type 0 = λ e. (id_of e).number < id.number in
    outcome_in-fresh es more id (All-filter_tail (is_call_of id.agent) P (Looked i asked r) es above)
