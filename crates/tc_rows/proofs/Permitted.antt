-- The call of an id that was permitted.
use Rattle.std.proofs.Common.{◌≡◌, List, refl, sym, subst}
use Rattle.tc_model.specs.Run.{HasCall}
use Rattle.tc_model.specs.declared.asks.Primitive.{Primitive}
use Rattle.tc_model.specs.declared.calls.CallId.{CallId}
use Rattle.tc_model.specs.declared.calls.Op.{Op}
use Rattle.tc_model.specs.declared.entries.Entry.{Entry}
use Rattle.tc_model.specs.declared.entries.Entry.TheVariants.{Called, Gave, Looked}
use Rattle.tc_rows.specs.Beside.{IsPermittedEntry}
use Rattle.tc_rows.specs.Made.{AreMade, HasNoEntry, IsEntryOf}
use Rattle.tc_rows.specs.ServedRows.{IsPermittedCall, op_primitive}
use Rattle.tc_rows.specs.declared.made.Made.{Made}
use Rattle.tc_rows.proofs.Found.{called-found, none-called}

module _ (permits : Primitive → Type 0) (id : CallId) (history : List Entry) where
  -- the agent's entry of the number tells whether the history has such a call
  pub permitted-found : (made : List Made) → AreMade id.agent history made → (e : Entry)
      → IsEntryOf id.agent id.number history e
      → (IsPermittedEntry permits e → IsPermittedCall permits history id)
      × (IsPermittedCall permits history id → IsPermittedEntry permits e)
  permitted-found made are (Called i op result items) is = (
    λ may. record {
      op = op;
      called = (called-found id op history made are (Called i op result items) is).0 refl;
      permitted = may;
    },
    λ call.
        subst (λ o. permits (op_primitive o))
        (sym ((called-found id call.op history made are (Called i op result items) is).1 call.called)) call.permitted,
  )
  permitted-found made are (Gave i result items) is = (
    λ never. absurd never,
    λ call. (called-found id call.op history made are (Gave i result items) is).1 call.called,
  )
  permitted-found made are (Looked i asked reply) is = (
    λ never. absurd never,
    λ call. (called-found id call.op history made are (Looked i asked reply) is).1 call.called,
  )

  -- where the agent has no entry of the number, it has none
  pub none-permitted : HasNoEntry id.agent id.number history → IsPermittedCall permits history id → ⊥
  none-permitted never call = none-called id call.op history never call.called

  -- it is a call
  pub permitted-call : IsPermittedCall permits history id → HasCall id history
  permitted-call call = record {
    entry = Called id call.op call.called.result call.called.items;
    stands = call.called.stands;
    call = refl;
  }
