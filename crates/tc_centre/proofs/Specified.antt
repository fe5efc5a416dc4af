-- A call that changes neither tuples nor requests was served.
use Rattle.std.proofs.Common.{◌≡◌, ◌++◌, List, [], ◌∷◌, sym, ap, subst, ◌∙◌, arith}
use Rattle.std.proofs.lemmas.List.Elements.{All-nil}
use Rattle.tc_bag.specs.Stock.{Stock}
use Rattle.tc_pending.specs.Waiting.{Waiting}
use Rattle.tc_model.specs.Choices.{TheFirst}
use Rattle.tc_model.specs.Replies.{reply_of, reply_in}
use Rattle.tc_model.specs.Run.{IsNext}
use Rattle.tc_model.specs.State.{after_call}
use Rattle.tc_model.specs.Tables.{IsServed}
use Rattle.tc_model.specs.Typed.{IsTypedCall}
use Rattle.tc_model.specs.declared.calls.CallId.{CallId}
use Rattle.tc_model.specs.declared.calls.Op.{Op}
use Rattle.tc_model.specs.declared.items.Item.{Item}
use Rattle.tc_model.specs.declared.outcomes.Outcome.{Outcome}
use Rattle.tc_model.specs.declared.entries.Entry.TheVariants.{Called}
use Rattle.tc_model.proofs.NextEntry.{reply_in-called}
use Rattle.tc_centre.specs.Held.{origin_of, held, state_held, IsSettled, IsAtRest, HasRoom}
use Rattle.tc_centre.specs.Operations.{HasServed}
use Rattle.tc_calls.specs.Places.{IsGave}
use Rattle.tc_centre.specs.Turns.{IsAnswer}
use Rattle.tc_centre.specs.declared.answers.Answer.{Answer}
use Rattle.tc_centre.specs.declared.holdings.Holdings.{Holdings}
use Rattle.tc_centre.proofs.Called.{called}
use Rattle.tc_centre.proofs.Typed.{typed-push}

module _ (old new : Holdings) (id : CallId) (op : Op) (result : Outcome) (items : List Item)
    (next : IsNext (origin_of old.founding) old.history.items id) (rest : IsAtRest old) (room : HasRoom old)
    (founding : new.founding ≡ old.founding) (bag : new.bag ≡ old.bag) (pending : new.pending ≡ old.pending)
    (grown : new.history.items ≡ old.history.items ++ Called id op result items ∷ []) where
  settled : IsServed TheFirst (origin_of old.founding) (state_held old) id op result items
      → held new.spec old.bag.now old.pending.now ≡ after_call id op result items (state_held old) → IsAtRest new
  settled served leads =
      let at : IsSettled (origin_of old.founding) new.history.items new.spec old.bag.now old.bag.next old.pending.now =
      record {
        holds = called (origin_of old.founding) old.history.items new.history.items old.spec old.bag.now old.bag.next
            old.pending.now id rest next room new.spec old.bag.now old.bag.next old.pending.now op result items
            served leads (omega arith) (omega arith) grown;
        quiescent = rest.quiescent;
      } in
      subst (λ f. IsSettled (origin_of f) new.history.items new.spec new.bag.now new.bag.next new.pending.now) (sym founding)
      (subst (λ (b : Stock). IsSettled (origin_of old.founding) new.history.items new.spec b.now b.next new.pending.now) (sym bag)
      (subst (λ (w : Waiting). IsSettled (origin_of old.founding) new.history.items new.spec old.bag.now old.bag.next w.now)
      (sym pending) at))

  pub served-still : (told : Answer) → IsServed TheFirst (origin_of old.founding) (state_held old) id op result items
      → held new.spec old.bag.now old.pending.now ≡ after_call id op result items (state_held old)
      → IsTypedCall (Called id op result items) → IsAnswer (reply_of result) told → HasServed id op old new told
  served-still told served leads typed answer = record {
    rest = settled served leads;
    grown = record { result = result; items = items; gaves = []; answers = All-nil IsGave; history = grown };
    answer = subst (λ r. IsAnswer r told)
        (sym (ap (λ es. reply_in es id) grown ∙ reply_in-called old.history.items id op result items next.number)) answer;
    kept = record {
      founding = founding;
      bag = ap (λ (b : Stock). b.saved) bag;
      pending = ap (λ (w : Waiting). w.saved) pending;
      longer = record { more = Called id op result items ∷ []; history = grown };
    };
    typed = typed-push old.history.items new.history.items (Called id op result items) grown typed;
  }
