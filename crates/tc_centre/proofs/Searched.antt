-- A search that is done within the budget has the outcome that the table of calls has.
use Rattle.std.proofs.Common.{◌≡◌, ◌+◌, ◌*◌, ◌≤◌, List, Option, Some, None, length, take, sym, ap, subst, ◌∙◌, arith}
use Rattle.std.proofs.lemmas.List.{take_all}
use Rattle.tc_term.specs.Tree.{Tree}
use Rattle.tc_bag.specs.Stock.{AddsYounger, Stock}
use Rattle.tc_pending.specs.Waiting.{Waiting}
use Rattle.tc_model.specs.Choices.{TheFirst}
use Rattle.tc_model.specs.Reactions.{Rule}
use Rattle.tc_model.specs.State.{after_call}
use Rattle.tc_model.specs.Tables.{IsServed}
use Rattle.tc_model.specs.declared.calls.CallId.{CallId}
use Rattle.tc_model.specs.declared.calls.Request.{Request}
use Rattle.tc_model.specs.declared.calls.Wants.{Wants}
use Rattle.tc_model.specs.declared.calls.Wants.TheVariants.{Take, Look, Absence}
use Rattle.tc_model.specs.declared.items.Item.{Item}
use Rattle.tc_model.specs.declared.limits.TheConstants.{MOST_GOALS}
use Rattle.tc_model.specs.declared.outcomes.Outcome.{Outcome}
use Rattle.tc_cascade.specs.Ends.{items_of}
use Rattle.tc_cascade.specs.declared.cascade.Cascade.{Cascade}
use Rattle.tc_cascade.specs.declared.cascade.Cascade.TheVariants.{Whole}
use Rattle.tc_phases.specs.Phases.{IsSearch}
use Rattle.tc_phases.specs.declared.regime.Regime.{Regime}
use Rattle.tc_centre.specs.Held.{origin_of, held}
use Rattle.tc_centre.specs.Operations.{IsRegimeOf, Performs, op_of, outcome_of}
use Rattle.tc_centre.specs.declared.founding.Founding.{Founding}
use Rattle.tc_centre.specs.declared.holdings.Holdings.{Holdings}
use Rattle.tc_centre.specs.declared.operations.TupleOp.TheVariants.{Search}
use Rattle.tc_centre.proofs.Given.{reacts}

module _ (f : Founding) (clauses : List Rule) (id : CallId) (regime : Regime) (of : IsRegimeOf f clauses id regime)
    (old new : Stock) (requests : List Request) (t : Tree) (items : List Item) where
  searched : (wants : Wants) (found : Option Tree) → IsSearch regime wants t old new found (Whole items)
      → IsServed TheFirst (origin_of f) (held clauses old.now requests) id (op_of (Search wants t)) (outcome_of wants found) items
  searched Take (Some u) h = (h.0, reacts f clauses id regime of _ _ items h.1.0)
  searched Take None h = (h.0, reacts f clauses id regime of _ _ items h.1.0)
  searched Look (Some u) h = (h.0, reacts f clauses id regime of _ _ items h.1.0)
  searched Look None h = (h.0, reacts f clauses id regime of _ _ items h.1.0)
  searched Absence (Some u) h = (h.0, reacts f clauses id regime of _ _ items h.1.0)
  searched Absence None h = (h.0, reacts f clauses id regime of _ _ items h.1.0)

  searched-state : (wants : Wants) (found : Option Tree) → IsSearch regime wants t old new found (Whole items)
      → held clauses new.now requests
      ≡ after_call id (op_of (Search wants t)) (outcome_of wants found) items (held clauses old.now requests)
  searched-state Take (Some u) h = ap (λ ts. record { tuples = ts; clauses = clauses; pending = requests }) h.1.1
  searched-state Take None h = ap (λ ts. record { tuples = ts; clauses = clauses; pending = requests }) h.1.1
  searched-state Look (Some u) h = ap (λ ts. record { tuples = ts; clauses = clauses; pending = requests }) h.1.1
  searched-state Look None h = ap (λ ts. record { tuples = ts; clauses = clauses; pending = requests }) h.1.1
  searched-state Absence (Some u) h = ap (λ ts. record { tuples = ts; clauses = clauses; pending = requests }) h.1.1
  searched-state Absence None h = ap (λ ts. record { tuples = ts; clauses = clauses; pending = requests }) h.1.1

-- a search, as its phase tells it
pub searches : (old new : Holdings) (id : CallId) (regime : Regime) (wants : Wants) (t : Tree) (found : Option Tree)
    (c : Cascade) (items : List Item) (told : Outcome) → IsRegimeOf old.founding old.spec id regime
    → new.spec ≡ old.spec → new.pending ≡ old.pending
    → IsSearch regime wants t old.bag new.bag found c
    → new.bag.next ≤ old.bag.next + 1 + MOST_GOALS * length (items_of c) → AddsYounger old.bag new.bag
    → c ≡ Whole items → told ≡ outcome_of wants found
    → Performs id (op_of (Search wants t)) old new told items
searches old new id regime wants t found c items told of spec pending search ages kept is tells =
    let done : IsSearch regime wants t old.bag new.bag found (Whole items) =
    subst (IsSearch regime wants t old.bag new.bag found) is search in
    subst (λ o. Performs id (op_of (Search wants t)) old new o items) (sym tells) (record {
      served = searched old.founding old.spec id regime of old.bag new.bag old.pending.now t items wants found done;
      state = ap (λ cs. held cs new.bag.now new.pending.now) spec
          ∙ ap (λ (w : Waiting). held old.spec new.bag.now w.now) pending
          ∙ searched-state old.founding old.spec id regime of old.bag new.bag old.pending.now t items wants found done;
      few = omega (arith, ap (λ (w : Waiting). length w.now) pending);
      next = subst (λ x. new.bag.next ≤ old.bag.next + 1 + MOST_GOALS * length (items_of x)) is ages;
      keeps = record {
        rows = kept;
        requests = ap (λ (w : Waiting). take (length old.pending.now) w.now) pending
            ∙ take_all (length old.pending.now) old.pending.now (omega arith);
      };
    })
