-- What is demanded where a call is made, and what is told of it.
use Rattle.std.proofs.Common.{◌↔◌, ℕ, Bool, IsTrue, List, Result, Ok, Err, IfOk, subst}
use Rattle.tc_term.specs.Tree.{Tree}
use Rattle.tc_model.specs.Events.{Setting}
use Rattle.tc_model.specs.Reactions.{Rule}
use Rattle.tc_model.specs.State.{Origin, State}
use Rattle.tc_model.specs.Tables.{setting_of}
use Rattle.tc_model.specs.declared.calls.CallId.{CallId}
use Rattle.tc_model.specs.declared.items.Item.{Item}
use Rattle.tc_replay.specs.Demands.{IsMet}
use Rattle.tc_replay.specs.Serving.{IsMadeAt}
use Rattle.tc_replay.specs.declared.demands.Demand.{Demand}

-- an answer that is exact for one statement is exact for each that says the same
exact_as : {E : Type 0} (r : Result Bool E) (P Q : Type 0) → IfOk r (λ y. IsTrue y ↔ P) → (Q ↔ P)
    → IfOk r (λ y. IsTrue y ↔ Q)
exact_as (Ok y) P Q exact same = (λ yes. same.1 (exact.0 yes), λ q. exact.1 (same.0 q))
exact_as (Err fault) P Q exact same = tt

module _ (origin : Origin) (s : State) (id : CallId) (clauses : List Rule) (setting : Setting) (budget : ℕ) (tuples : List Tree)
    (made : IsMadeAt origin s id clauses setting budget tuples) where
  -- what is demanded at the state is demanded over these tuples
  pub exact_there : {E : Type 0} (r : Result Bool E) (d : Demand) (items : List Item) (Q : Type 0)
      → IfOk r (λ y. IsTrue y ↔ IsMet clauses setting budget d tuples items)
      → (Q ↔ IsMet s.clauses (setting_of origin id) origin.budget d s.tuples items) → IfOk r (λ y. IsTrue y ↔ Q)
  exact_there r d items Q exact same =
      let there : Q ↔ IsMet clauses setting budget d tuples items =
      subst (λ cs. Q ↔ IsMet cs setting budget d tuples items) made.clauses_are
      (subst (λ x. Q ↔ IsMet s.clauses x budget d tuples items) made.setting_is
      (subst (λ b. Q ↔ IsMet s.clauses (setting_of origin id) b d tuples items) made.budget_is
      (subst (λ us. Q ↔ IsMet s.clauses (setting_of origin id) origin.budget d us items) made.tuples_are same))) in
      exact_as r (IsMet clauses setting budget d tuples items) Q exact there
