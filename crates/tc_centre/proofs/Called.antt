-- A call was served, as the steps of a call tell it.
use Rattle.std.proofs.Common.{◌≡◌, ◌+◌, ◌*◌, ◌≤◌, ◌++◌, ℕ, List, [], ◌∷◌, length, sym, subst, arith}
use Rattle.tc_bag.specs.Stock.{Row}
use Rattle.tc_model.specs.Choices.{TheFirst}
use Rattle.tc_model.specs.Entries.{weight}
use Rattle.tc_model.specs.Reactions.{Rule}
use Rattle.tc_model.specs.Run.{IsNext, IsTold}
use Rattle.tc_model.specs.State.{Origin, after_call}
use Rattle.tc_model.specs.Tables.{IsServed}
use Rattle.tc_model.specs.declared.calls.CallId.{CallId}
use Rattle.tc_model.specs.declared.calls.Op.{Op}
use Rattle.tc_model.specs.declared.calls.Request.{Request}
use Rattle.tc_model.specs.declared.items.Item.{Item}
use Rattle.tc_model.specs.declared.outcomes.Outcome.{Outcome}
use Rattle.tc_model.specs.declared.outcomes.Reply.{Reply}
use Rattle.tc_model.specs.declared.entries.Entry.{Entry}
use Rattle.tc_model.specs.declared.entries.Entry.TheVariants.{Called, Looked}
use Rattle.tc_model.specs.declared.limits.TheConstants.{MOST_GOALS, MOST_WEIGHT}
use Rattle.tc_centre.specs.Held.{held, IsHeld, IsSettled}
use Rattle.tc_centre.proofs.Budgets.{served-within}
use Rattle.tc_centre.proofs.Entries.{held-push}
use Rattle.tc_centre.proofs.Room.{room_for_call}
use Rattle.std.proofs.Common.{refl, Option}

module _ (origin : Origin) (history longer : List Entry) (clauses : List Rule) (rows : List Row) (n : ℕ)
    (requests : List Request) (id : CallId) (at : IsSettled origin history clauses rows n requests) (next : IsNext origin history id)
    (room : weight history + (length requests + 2) * (origin.budget + 1) ≤ MOST_WEIGHT) where
  pub called : (kept : List Rule) (new : List Row) (m : ℕ) (others : List Request) (op : Op) (result : Outcome) (items : List Item)
      → IsServed TheFirst origin (held clauses rows requests) id op result items
      → held kept new others ≡ after_call id op result items (held clauses rows requests)
      → length others ≤ length requests + 1 → m ≤ n + 1 + MOST_GOALS * length items
      → longer ≡ history ++ Called id op result items ∷ []
      → IsHeld origin longer kept new m others
  called kept new m others op result items served leads few ages grown =
      let within = served-within TheFirst origin (held clauses rows requests) id op result items served in
      subst (λ es. IsHeld origin es kept new m others) (sym grown)
      (held-push origin history clauses kept rows new n m requests others (Called id op result items) at.holds
      (at.quiescent, next, served) leads
      (room_for_call (weight history) (length requests) (length others) origin.budget (length items) room few within)
      (omega (arith, ages)))

  pub looked : (asked : ℕ) (reply : Option Reply) → IsTold history id asked reply
      → longer ≡ history ++ Looked id asked reply ∷ []
      → IsSettled origin longer clauses rows n requests
  looked asked reply told grown = record {
    holds = subst (λ es. IsHeld origin es clauses rows n requests) (sym grown)
        (held-push origin history clauses clauses rows rows n n requests requests (Looked id asked reply) at.holds
        (at.quiescent, next, told) refl
        (room_for_call (weight history) (length requests) (length requests) origin.budget 0 room (omega arith) (omega arith))
        (omega arith));
    quiescent = at.quiescent;
  }
