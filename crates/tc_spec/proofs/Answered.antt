-- What the parts of a clause say of it.
use Rattle.std.proofs.Common.{◌≡◌, ◌≤◌, ◌++◌, List, [], All, Bool, true, false, IsTrue, Option, Some, IfSome, map, refl, ap, sym, subst, ◌∙◌}
use Rattle.tc_term.specs.Limits.{most_brackets}
use Rattle.tc_term.specs.Readable.{IsReadable, opened}
use Rattle.tc_term.specs.Text.{Alone}
use Rattle.tc_term.specs.Tree.{Tree, Fits}
use Rattle.tc_term.specs.TreeView.{tree_of}
use Rattle.tc_term.specs.declared.terms.Term.{Term}
use Rattle.tc_model.specs.Events.{op_name}
use Rattle.tc_model.specs.Reactions.{Rule, of_one, guard_term, goal_term, clause_of_form, clause_term}
use Rattle.tc_model.specs.declared.events.EventOp.{EventOp}
use Rattle.tc_model.specs.declared.faults.SpecCause.TheVariants as cause
use Rattle.tc_model.specs.declared.goals.Goal.{Goal}
use Rattle.tc_model.specs.declared.reactions.Form.{Form}
use Rattle.tc_model.specs.declared.reactions.GuardTest.{GuardTest}
use Rattle.tc_spec.proofs.Nesting.{clause-nested}
use Rattle.tc_spec.specs.Written.{IsGoalTerm, IsCausedBy, IsHead, IsShaped, SpellsRule, leaves, nested}

-- the leaves were pushed behind none
pub pushed_only : (old new : List Term) (b : Tree) → old ≡ [] → map tree_of new ≡ map tree_of old ++ leaves b
    → map tree_of new ≡ leaves b
pushed_only old new b none pushed = pushed ∙ ap (λ (ts : List Term). map tree_of ts ++ leaves b) none

-- the head of a clause is of an operation
pub headed : (t h b a : Tree) (f : Form) (o : EventOp) (guard : List GuardTest) → IsShaped t f h guard b → IsHead h o a
    → IsShaped t f (of_one (op_name o) a) guard b
headed t h b a f o guard shaped is = subst (λ (u : Tree). IsShaped t f u guard b) is shaped

pub caused_goal : (t a b : Tree) (f : Form) (o : EventOp) (guard : List GuardTest) (old new : List Term)
    → IsShaped t f (of_one (op_name o) a) guard b → old ≡ [] → map tree_of new ≡ map tree_of old ++ leaves b
    → (All (IsGoalTerm f) (map tree_of new) → ⊥) → IsCausedBy t cause.Goal
caused_goal t a b f o guard old new shaped none pushed never = record {
  form = f;
  op = o;
  term = a;
  guard = guard;
  body = b;
  shaped = shaped;
  bad = λ all. never (subst (All (IsGoalTerm f)) (sym (pushed_only old new b none pushed)) all);
}

pub spelt : (t b : Tree) (r : Rule) (old new : List Term) → IsShaped t r.form (of_one (op_name r.op) r.head) r.guard b
    → old ≡ [] → map tree_of new ≡ map tree_of old ++ leaves b → map (goal_term r.form) r.goals ≡ map tree_of new → SpellsRule t r
spelt t b r old new shaped none pushed goals = record {
  body = b;
  parts = shaped;
  goals = sym (goals ∙ pushed_only old new b none pushed);
}

pub not_small : (u : Tree) (small : Bool) (r : Rule) (leaf : List Term) → small ≡ false
    → (Fits u → opened Alone u ≤ most_brackets → IsTrue small)
    → u ≡ clause_of_form r.form (of_one (op_name r.op) r.head) (guard_term r.guard) (nested (map tree_of leaf))
    → map (goal_term r.form) r.goals ≡ map tree_of leaf → IsReadable (clause_term r) → ⊥
not_small u small r leaf fails due is goals read =
    let same : u ≡ clause_term r = is ∙ clause-nested r r.head (map tree_of leaf) refl (sym goals) in
    let holds : small ≡ true =
    due (subst Fits (sym same) read.pattern.template.fits)
    (subst (λ (v : Tree). opened Alone v ≤ most_brackets) (sym same) read.few_open) in
    let never : false ≡ true = sym fails ∙ holds in
    absurd (cc)

pub some_says : {X : Type 0} (form : Form) (f : X → List Goal) (x : Option X) (y : X) (ts : List Tree) → x ≡ Some y
    → IfSome x (λ z. map (goal_term form) (f z) ≡ ts) → map (goal_term form) (f y) ≡ ts
some_says {X} form f x y ts is told = subst (λ (o : Option X). IfSome o (λ (z : X). map (goal_term form) (f z) ≡ ts)) is told
