-- An event of an operation that no clause has triggers nothing, and its phase is whole.
use Rattle.std.proofs.Common.{◌≡◌, ◌↔◌, ℕ, Bool, true, false, IsTrue, List, [], refl, sym, ap, subst, ◌∙◌, arith}
use Rattle.tc_term.specs.Tree.{Tree}
use Rattle.tc_bag.specs.Stock.{Stock, tuples_of}
use Rattle.tc_model.specs.Choices.{Choice, TheFirst}
use Rattle.tc_model.specs.Events.{Occurrence, Setting}
use Rattle.tc_model.specs.Reactions.{Rule}
use Rattle.tc_model.specs.Triggers.{AreTriggered}
use Rattle.tc_model.specs.Cascades.{IsWhole}
use Rattle.tc_model.specs.declared.events.EventOp.{EventOp}
use Rattle.tc_model.specs.declared.items.Item.{Item}
use Rattle.tc_spec.specs.Indexed.{HasOp}
use Rattle.tc_cascade.specs.declared.cascade.Cascade.TheVariants.{Whole}
use Rattle.tc_phases.specs.Phases.{IsPhase, setting_in}
use Rattle.tc_phases.specs.declared.regime.Regime.{Regime}

-- no clause is of the operation
pub none-triggered : (clauses : List Rule) (e : Occurrence) → (HasOp e.op clauses → ⊥) → AreTriggered clauses e []
none-triggered clauses e never = record {
  rising = λ i j d before within. absurd (omega (arith, within));
  exact = λ n r clause. (
    λ inside. absurd (omega (arith, inside.1)),
    λ triggered. absurd (never (record { number = n; rule = r; clause = clause; op = triggered.op })),
  );
  only = λ n inside. absurd (omega (arith, inside.1));
}

pub whole-untriggered : (choice : Choice) (clauses : List Rule) (setting : Setting) (budget : ℕ) (e : Occurrence) (tuples : List Tree)
    → AreTriggered clauses e [] → IsWhole choice clauses setting budget e tuples []
whole-untriggered choice clauses setting budget e tuples none = record {
  end = record { tuples = tuples; triggered = [] };
  begins = record {
    first = [];
    triggers = ([], [], none, refl, refl);
    cascades = refl;
  };
  within = omega arith;
  done = refl;
}

-- the phase of an operation that no clause has: the change alone
pub phase-unused : (regime : Regime) (e : Occurrence) (old start new : Stock) (items : List Item) (o : EventOp) (has : Bool)
    → o ≡ e.op → (IsTrue has ↔ HasOp o regime.spec.now) → has ≡ false → items ≡ [] → new ≡ start
    → IsPhase regime e (tuples_of start.now) old new (Whole items)
phase-unused regime e old start new items o has same tells missing none changed =
    let never : HasOp e.op regime.spec.now → ⊥ = λ clause.
    let there : IsTrue has = tells.1 (subst (λ p. HasOp p regime.spec.now) (sym same) clause) in
    let both : false ≡ true = sym missing ∙ there in absurd (cc) in
    subst (λ is. IsPhase regime e (tuples_of start.now) old new (Whole is)) (sym none) (
      whole-untriggered TheFirst regime.spec.now (setting_in regime) regime.budget e (tuples_of start.now) (none-triggered regime.spec.now e never),
      ap (λ (s : Stock). tuples_of s.now) changed,
    )
