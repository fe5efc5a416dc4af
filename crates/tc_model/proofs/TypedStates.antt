-- A typed history leads from a typed origin to a typed state.
use Rattle.std.proofs.Common.{true, false, if◌then◌else◌, List, [], ◌∷◌, ◌++◌, All}
use Rattle.std.proofs.lemmas.List.Elements.{All-nil, All-cons, All-head, All-tail, All-push}
use Rattle.tc_term.specs.Tree.{Tree, IsTuple}
use Rattle.tc_term.specs.Same.{same_tree}
use Rattle.tc_model.specs.Calls.{same_id}
use Rattle.tc_model.specs.Tuples.{without_first, after_effect, after_effects, after_item, after_items}
use Rattle.tc_model.specs.Typed.{IsTypedId, IsTypedOp, IsTypedRequest, IsTypedEffect, IsTypedItem, IsTyped}
use Rattle.tc_model.specs.State.{State, Origin, IsOrigin, IsTypedState, opening, without_request, wants_of}
use Rattle.tc_model.specs.State.{after_taking, after_search, unless_over, reached_by, after_answer, after_entry, after_history}
use Rattle.tc_model.specs.declared.calls.CallId.{CallId}
use Rattle.tc_model.specs.declared.calls.Op.{Op}
use Rattle.tc_model.specs.declared.calls.Op.TheVariants.{Out, In, Rd, Inp, Rdp, No, Nop, SetSpec, GetSpec}
use Rattle.tc_model.specs.declared.calls.Request.{Request}
use Rattle.tc_model.specs.declared.calls.Wants.{Wants}
use Rattle.tc_model.specs.declared.calls.Wants.TheVariants.{Take, Look, Absence}
use Rattle.tc_model.specs.declared.items.Effect.{Effect}
use Rattle.tc_model.specs.declared.items.Effect.TheVariants.{Put, Took, Read}
use Rattle.tc_model.specs.declared.items.Item.{Item}
use Rattle.tc_model.specs.declared.items.Item.TheVariants.{Fired, Failed}
use Rattle.tc_model.specs.declared.outcomes.Outcome.{Outcome}
use Rattle.tc_model.specs.declared.outcomes.Outcome.TheVariants as outcome
use Rattle.tc_model.specs.declared.entries.Entry.{Entry}
use Rattle.tc_model.specs.declared.entries.Entry.TheVariants.{Called, Gave, Looked}

pub All-without_first : (P : Tree → Type 0) (tuple : Tree) (tuples : List Tree) → All P tuples → All P (without_first tuple tuples)
All-without_first P tuple [] all = all
All-without_first P tuple (t ∷ ts) all =
    let rest : All P ts = All-tail P t ts all in
    elim (same_tree t tuple) as (λ b. All P (if b then ts else t ∷ without_first tuple ts)) [
      | true ↦ rest
      | false ↦ All-cons P t (without_first tuple ts) (All-head P t ts all) (All-without_first P tuple ts rest)
    ]

after_effect-typed : (e : Effect) (tuples : List Tree) → IsTypedEffect e → All IsTuple tuples → All IsTuple (after_effect e tuples)
after_effect-typed (Put tuple) tuples typed all = All-push IsTuple tuples tuple all typed
after_effect-typed (Took tuple) tuples typed all = All-without_first IsTuple tuple tuples all
after_effect-typed (Read tuple) tuples typed all = all

pub after_effects-typed : (es : List Effect) (tuples : List Tree)
    → All IsTypedEffect es → All IsTuple tuples → All IsTuple (after_effects es tuples)
after_effects-typed [] tuples typed all = all
after_effects-typed (e ∷ es) tuples typed all =
    after_effects-typed es (after_effect e tuples) (All-tail IsTypedEffect e es typed)
    (after_effect-typed e tuples (All-head IsTypedEffect e es typed) all)

pub after_item-typed : (item : Item) (tuples : List Tree)
    → IsTypedItem item → All IsTuple tuples → All IsTuple (after_item item tuples)
after_item-typed (Fired pick clause effects) tuples typed all = after_effects-typed effects tuples typed.2 all
after_item-typed (Failed pick clause goal effects) tuples typed all = all

pub after_items-typed : (items : List Item) (tuples : List Tree)
    → All IsTypedItem items → All IsTuple tuples → All IsTuple (after_items items tuples)
after_items-typed [] tuples typed all = all
after_items-typed (i ∷ items) tuples typed all =
    after_items-typed items (after_item i tuples) (All-tail IsTypedItem i items typed)
    (after_item-typed i tuples (All-head IsTypedItem i items typed) all)

pub after_taking-typed : (wants : Wants) (tuple : Tree) (tuples : List Tree)
    → All IsTuple tuples → All IsTuple (after_taking wants tuple tuples)
after_taking-typed Take tuple tuples all = All-without_first IsTuple tuple tuples all
after_taking-typed Look tuple tuples all = all
after_taking-typed Absence tuple tuples all = all

after_search-typed : (wants : Wants) (result : Outcome) (tuples : List Tree)
    → All IsTuple tuples → All IsTuple (after_search wants result tuples)
after_search-typed wants outcome.Done tuples all = all
after_search-typed wants (outcome.Took u) tuples all = after_taking-typed wants u tuples all
after_search-typed wants outcome.NoTuple tuples all = all
after_search-typed wants outcome.Absent tuples all = all
after_search-typed wants (outcome.Found u) tuples all = all
after_search-typed wants outcome.Pending tuples all = all
after_search-typed wants (outcome.Spec text) tuples all = all
after_search-typed wants (outcome.Over phase tuple) tuples all = all

unless_over-typed : (result : Outcome) (before reached : State)
    → IsTypedState before → IsTypedState reached → IsTypedState (unless_over result before reached)
unless_over-typed outcome.Done before reached old new = new
unless_over-typed (outcome.Took u) before reached old new = new
unless_over-typed outcome.NoTuple before reached old new = new
unless_over-typed outcome.Absent before reached old new = new
unless_over-typed (outcome.Found u) before reached old new = new
unless_over-typed outcome.Pending before reached old new = new
unless_over-typed (outcome.Spec text) before reached old new = new
unless_over-typed (outcome.Over phase tuple) before reached old new = old

All-without_request : (id : CallId) (requests : List Request)
    → All IsTypedRequest requests → All IsTypedRequest (without_request id requests)
All-without_request id [] all = all
All-without_request id (r ∷ rs) all =
    let rest : All IsTypedRequest rs = All-tail IsTypedRequest r rs all in
    elim (same_id r.id id) as (λ b. All IsTypedRequest (if b then rs else r ∷ without_request id rs)) [
      | true ↦ rest
      | false ↦ All-cons IsTypedRequest r (without_request id rs) (All-head IsTypedRequest r rs all)
          (All-without_request id rs rest)
    ]

module _ (s : State) (typed : IsTypedState s) where
  with_tuples-typed : (tuples : List Tree) → All IsTuple tuples → IsTypedState (record s { tuples = tuples })
  with_tuples-typed tuples all = record { tuples = all; clauses = typed.clauses; pending = typed.pending }

  waits-typed : (id : CallId) (wants : Wants) (template : Tree) (items : List Item)
      → All IsTypedItem items → IsTypedRequest (record { id = id; wants = wants; template = template })
      → IsTypedState (record s {
        tuples = after_items items s.tuples;
        pending = s.pending ++ record { id = id; wants = wants; template = template } ∷ [];
      })
  waits-typed id wants template items all request = record {
    tuples = after_items-typed items s.tuples all typed.tuples;
    clauses = typed.clauses;
    pending = All-push IsTypedRequest s.pending (record { id = id; wants = wants; template = template }) typed.pending request;
  }

  reached_by-typed : (id : CallId) (op : Op) (result : Outcome) (items : List Item)
      → IsTypedId id → IsTypedOp op → All IsTypedItem items → IsTypedState (reached_by id op result items s)
  reached_by-typed id (Out t) result items call asked all =
      with_tuples-typed (after_items items (s.tuples ++ t ∷ []))
      (after_items-typed items (s.tuples ++ t ∷ []) all (All-push IsTuple s.tuples t typed.tuples asked))
  reached_by-typed id (In t) result items call asked all =
      waits-typed id Take t items all (record { id = call; template = asked })
  reached_by-typed id (Rd t) result items call asked all =
      waits-typed id Look t items all (record { id = call; template = asked })
  reached_by-typed id (Inp t) result items call asked all =
      with_tuples-typed (after_items items (after_search Take result s.tuples))
      (after_items-typed items (after_search Take result s.tuples) all (after_search-typed Take result s.tuples typed.tuples))
  reached_by-typed id (Rdp t) result items call asked all =
      with_tuples-typed (after_items items (after_search Look result s.tuples))
      (after_items-typed items (after_search Look result s.tuples) all (after_search-typed Look result s.tuples typed.tuples))
  reached_by-typed id (No t) result items call asked all =
      waits-typed id Absence t items all (record { id = call; template = asked })
  reached_by-typed id (Nop t) result items call asked all =
      with_tuples-typed (after_items items s.tuples) (after_items-typed items s.tuples all typed.tuples)
  reached_by-typed id (SetSpec clauses) result items call asked all =
      record { tuples = typed.tuples; clauses = asked; pending = typed.pending }
  reached_by-typed id GetSpec result items call asked all = typed

  answered-typed : (id : CallId) (result : Outcome) (items : List Item)
      → All IsTypedItem items → IsTypedState (after_answer id result items s)
  answered-typed id result items all =
      let wants : Wants = wants_of id s.pending in
      let left : List Tree = after_search wants result s.tuples in
      let reached : State = record s { tuples = after_items items left } in
      let ended : IsTypedState (unless_over result s reached) =
      unless_over-typed result s reached typed
      (with_tuples-typed (after_items items left)
      (after_items-typed items left all (after_search-typed wants result s.tuples typed.tuples))) in
      record {
        tuples = ended.tuples;
        clauses = ended.clauses;
        pending = All-without_request id (unless_over result s reached).pending ended.pending;
      }

  pub after_entry-typed : (e : Entry) → IsTyped e → IsTypedState (after_entry e s)
  after_entry-typed (Called id op result items) h =
      unless_over-typed result s (reached_by id op result items s) typed
      (reached_by-typed id op result items h.0 h.1 h.3)
  after_entry-typed (Gave id result items) h = answered-typed id result items h.2
  after_entry-typed (Looked id asked told) h = typed

pub opening-typed : (origin : Origin) → IsOrigin origin → IsTypedState (opening origin)
opening-typed origin may = record { tuples = may.tuples; clauses = may.clauses; pending = All-nil IsTypedRequest }

pub after_history-typed : (s : State) (history : List Entry)
    → IsTypedState s → All IsTyped history → IsTypedState (after_history s history)
after_history-typed s [] typed all = typed
after_history-typed s (e ∷ history) typed all =
    after_history-typed (after_entry e s) history (after_entry-typed s typed e (All-head IsTyped e history all))
    (All-tail IsTyped e history all)
