-- Terms with commas between, nested to the right.
use Rattle.std.proofs.Common.{◌≡◌, ◌==◌, List, [], ◌∷◌, ◌++◌, Bool, true, false, length, map, refl, ap, sym, ◌∙◌, codes}
use Rattle.std.proofs.lemmas.List.{map-append, append_assoc}
use Rattle.tc_term.specs.Tree.{Tree}
use Rattle.tc_term.specs.TreeView.{tree_of}
use Rattle.tc_term.specs.declared.terms.Term.{Term}
use Rattle.tc_model.specs.Events.{op_name}
use Rattle.tc_model.specs.Reactions.{Rule, of_one, of_two, test_term, guard_term, goal_term, body_term, clause_of_form, clause_term}
use Rattle.tc_model.specs.declared.events.EventOp.{EventOp}
use Rattle.tc_model.specs.declared.goals.Goal.{Goal}
use Rattle.tc_model.specs.declared.reactions.Form.{Form}
use Rattle.tc_model.specs.declared.reactions.GuardTest.{GuardTest}
use Rattle.tc_spec.specs.Written.{nested}

-- the last two may be one already
pub nested-last : (xs : List Tree) (s t : Tree) → nested (xs ++ of_two (codes ",") s t ∷ []) ≡ nested (xs ++ s ∷ t ∷ [])
nested-last [] s t = refl
nested-last (x ∷ []) s t = refl
nested-last (x ∷ y ∷ ys) s t = ap (of_two (codes ",") x) (nested-last (y ∷ ys) s t)

-- a body is its goals' terms, and a guard its tests'
pub body-nested : (f : Form) (gs : List Goal) → body_term f gs ≡ nested (map (goal_term f) gs)
body-nested f [] = refl
body-nested f (g ∷ []) = refl
body-nested f (g ∷ h ∷ gs) = ap (of_two (codes ",") (goal_term f g)) (body-nested f (h ∷ gs))

pub guard-nested : (t : GuardTest) (ts : List GuardTest) → guard_term (t ∷ ts) ≡ nested (map test_term (t ∷ ts))
guard-nested t [] = refl
guard-nested t (u ∷ us) = ap (of_two (codes ",") (test_term t)) (guard-nested u us)

pub guard-by : (ts : List GuardTest) (empty : Bool) → empty ≡ (length ts == 0) → empty ≡ false
    → nested (map test_term ts) ≡ guard_term ts
guard-by [] empty is fails = let never : true ≡ false = sym is ∙ fails in absurd (cc)
guard-by (t ∷ ts) empty is fails = sym (guard-nested t ts)

pub clause-nested : (r : Rule) (head : Tree) (ts : List Tree) → head ≡ r.head → ts ≡ map (goal_term r.form) r.goals
    → clause_of_form r.form (of_one (op_name r.op) head) (guard_term r.guard) (nested ts) ≡ clause_term r
clause-nested r head ts eh et =
    ap (λ h. clause_of_form r.form (of_one (op_name r.op) h) (guard_term r.guard) (nested ts)) eh
    ∙ ap (λ us. clause_of_form r.form (of_one (op_name r.op) r.head) (guard_term r.guard) (nested us)) et
    ∙ ap (clause_of_form r.form (of_one (op_name r.op) r.head) (guard_term r.guard)) (sym (body-nested r.form r.goals))

-- the clause of parts that are a rule's
pub clause-by : (r : Rule) (f : Form) (o : EventOp) (head : Tree) (guard : List GuardTest) (ts : List Tree) → f ≡ r.form → o ≡ r.op
    → head ≡ r.head → guard ≡ r.guard → ts ≡ map (goal_term f) r.goals
    → clause_of_form f (of_one (op_name o) head) (guard_term guard) (nested ts) ≡ clause_term r
clause-by r f o head guard ts form op eh eg goals =
    ap (λ e. clause_of_form e (of_one (op_name o) head) (guard_term guard) (nested ts)) form
    ∙ ap (λ p. clause_of_form r.form (of_one (op_name p) head) (guard_term guard) (nested ts)) op
    ∙ ap (λ us. clause_of_form r.form (of_one (op_name r.op) head) (guard_term us) (nested ts)) eg
    ∙ clause-nested r head ts eh (goals ∙ ap (λ (e : Form). map (goal_term e) r.goals) form)

-- nothing is left but the last, and the last two become one
pub nested-first : (all front : List Term) (last : Term) → all ≡ front ++ last ∷ []
    → nested (map tree_of front ++ tree_of last ∷ []) ≡ nested (map tree_of all)
nested-first all front last is = ap nested (sym (ap (map tree_of) is ∙ map-append tree_of front (last ∷ [])))

pub nested-next : (all front : List Term) (term body new : Term) → all ≡ front ++ term ∷ []
    → tree_of new ≡ of_two (codes ",") (tree_of term) (tree_of body)
    → nested (map tree_of front ++ tree_of new ∷ []) ≡ nested (map tree_of all ++ tree_of body ∷ [])
nested-next all front term body new is made =
    ap (λ (t : Tree). nested (map tree_of front ++ t ∷ [])) made
    ∙ nested-last (map tree_of front) (tree_of term) (tree_of body)
    ∙ ap nested (sym (ap (λ ts. ts ++ tree_of body ∷ []) (ap (map tree_of) is ∙ map-append tree_of front (term ∷ []))
    ∙ append_assoc (map tree_of front) (tree_of term ∷ []) (tree_of body ∷ [])))
