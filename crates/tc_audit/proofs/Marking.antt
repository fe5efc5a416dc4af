-- What is noted of an entry that is legal where it stands.
use Rattle.std.proofs.Common.{◌≡◌, ℕ, ◌+◌, ◌<◌, List, [], Option, Some, cond, eqb, length, slice_get, get_or, take, refl, sym, ap, subst, ◌∙◌, arith}
use Rattle.std.proofs.lemmas.Option.{slice_get-get_or}
use Rattle.tc_model.specs.Run.{IsRun}
use Rattle.tc_model.specs.State.{Origin}
use Rattle.tc_model.specs.declared.calls.CallId.{CallId}
use Rattle.tc_model.specs.declared.calls.Op.{Op}
use Rattle.tc_model.specs.declared.items.Item.{Item}
use Rattle.tc_model.specs.declared.outcomes.Outcome.{Outcome}
use Rattle.tc_model.specs.declared.outcomes.Reply.{Reply}
use Rattle.tc_model.specs.declared.entries.Entry.{Entry}
use Rattle.tc_model.specs.declared.entries.Entry.TheVariants.{Called, Gave, Looked}
use Rattle.tc_calls.specs.Numbers.{AreLast, number_in}
use Rattle.tc_calls.specs.Places.{ArePlaces, place_in}
use Rattle.tc_calls.proofs.Indexed.{index-looked}
use Rattle.tc_calls.proofs.Noting.{grown, legal}
use Rattle.tc_calls.proofs.Numbered.{gave-numbers, look-numbers, turn-numbers}

-- what was read at a place stands there
pub read-at : (history : List Entry) (place : ℕ) (read e : Entry) → place < length history → read ≡ get_or history place read
    → read ≡ e → slice_get history place ≡ Some e
read-at history place read e inside at is =
    slice_get-get_or history place read inside ∙ (ap Some (sym at) ∙ ap Some is)

module _ (origin : Origin) (history : List Entry) (place : ℕ) (run : IsRun origin (take (place + 1) history)) where
  pub called-agent : (id : CallId) (op : Op) (result : Outcome) (items : List Item)
      → slice_get history place ≡ Some (Called id op result items) → id.agent < length origin.agents
  called-agent id op result items at = (legal history place (origin, run) (Called id op result items) at (Called id op result items) refl).1.agent

  pub looked-agent : (id : CallId) (asked : ℕ) (reply : Option Reply)
      → slice_get history place ≡ Some (Looked id asked reply) → id.agent < length origin.agents
  looked-agent id asked reply at = (legal history place (origin, run) (Looked id asked reply) at (Looked id asked reply) refl).1.agent

  module _ (numbers : List (Option ℕ)) (last : AreLast numbers (take place history)) where
    pub called-last : (id : CallId) (op : Op) (result : Outcome) (items : List Item) (noted : List (Option ℕ))
        → slice_get history place ≡ Some (Called id op result items)
        → ((agent : ℕ) → number_in noted agent ≡ cond (eqb id.agent agent) (Some id.number) (number_in numbers agent))
        → AreLast noted (take (place + 1) history)
    called-last id op result items noted at notes =
        let e : Entry = Called id op result items in
        subst (AreLast noted) (grown history place (origin, run) e at e refl)
        (turn-numbers (take place history) id numbers noted (legal history place (origin, run) e at e refl).1.number notes last
        op result items [] (λ k d inside. absurd (omega (arith, inside))))

    pub looked-last : (id : CallId) (asked : ℕ) (reply : Option Reply) (noted : List (Option ℕ))
        → slice_get history place ≡ Some (Looked id asked reply)
        → ((agent : ℕ) → number_in noted agent ≡ cond (eqb id.agent agent) (Some id.number) (number_in numbers agent))
        → AreLast noted (take (place + 1) history)
    looked-last id asked reply noted at notes =
        let e : Entry = Looked id asked reply in
        subst (AreLast noted) (grown history place (origin, run) e at e refl)
        (look-numbers (take place history) id numbers noted (legal history place (origin, run) e at e refl).1.number notes last
        asked reply)

    pub gave-last : (id : CallId) (result : Outcome) (items : List Item) → slice_get history place ≡ Some (Gave id result items)
        → AreLast numbers (take (place + 1) history)
    gave-last id result items at =
        let e : Entry = Gave id result items in
        subst (AreLast numbers) (grown history place (origin, run) e at e refl)
        (gave-numbers (take place history) id result items numbers last)

  -- a look leaves the places
  pub looked-places : (lists : List (List (ℕ × ℕ))) (id : CallId) (asked : ℕ) (reply : Option Reply)
      → slice_get history place ≡ Some (Looked id asked reply) → ArePlaces lists (take place history)
      → ArePlaces lists (take (place + 1) history)
  looked-places lists id asked reply at places =
      let e : Entry = Looked id asked reply in
      subst (ArePlaces lists) (grown history place (origin, run) e at e refl) (record {
        index = index-looked (take place history) id asked reply (place_in lists)
            (legal history place (origin, run) e at e refl).1.number places.index;
        rise = places.rise;
      })
