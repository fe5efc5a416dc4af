-- Rules: the terms of their heads and goals, and lists of them.
use Rattle.std.proofs.Common.{ℕ, ◌≤◌, ◌<◌, List, [], ◌∷◌, ◌++◌, All, length, length-append, arith}
use Rattle.std.proofs.lemmas.List.Elements.{All-nil, All-cons, All-push}
use Rattle.tc_term.specs.Tree.{Tree}
use Rattle.tc_term.specs.TreeView.{tree_of}
use Rattle.tc_term.proofs.Numbered.{var_bound-pattern}
use Rattle.tc_model.specs.Events.{op_name}
use Rattle.tc_model.specs.Reactions.{Rule, IsRule, AreClauses, of_one, of_two, of_three, guard_term, goal_term, body_term, clause_of_form, clause_term}
use Rattle.tc_model.specs.Within.{terms_of, HasVarsBelow}
use Rattle.tc_model.specs.declared.reactions.Form.{Form}
use Rattle.tc_model.specs.declared.reactions.Form.TheVariants.{Two, Three}
use Rattle.tc_model.specs.declared.goals.Goal.{Goal}
use Rattle.tc_model.specs.declared.goals.Goal.TheVariants.{OutR, InR, RdR, NoR, Pre, Post, Success, Failure, True, Agent, Centre, Operation, Tuple, Equal, Differ, Is, Compare}
use Rattle.tc_model.specs.declared.limits.TheConstants.{MOST_CLAUSES}

pub AreClauses-push : (clauses : List Rule) (r : Rule) → AreClauses clauses → IsRule r
    → length clauses < MOST_CLAUSES → AreClauses (clauses ++ r ∷ [])
AreClauses-push clauses r are rule room = record {
  rules = All-push IsRule clauses r are.rules rule;
  few = omega (arith, length-append clauses (r ∷ []));
}

pub HasVarsBelow-one : (n : ℕ) (name : List ℕ) (t : Tree) → HasVarsBelow n (of_one name t) → HasVarsBelow n t
HasVarsBelow-one n name t h = record {
  bound = h.bound;
  fits = record {
    nodes = omega (arith, h.fits.nodes);
    depth = omega (arith, h.fits.depth);
    name_bytes = omega (arith, h.fits.name_bytes);
    integers = h.fits.integers;
  };
}

pub HasVarsBelow-first : (n : ℕ) (name : List ℕ) (s t : Tree) → HasVarsBelow n (of_two name s t) → HasVarsBelow n s
HasVarsBelow-first n name s t h = record {
  bound = omega (arith, h.bound);
  fits = record {
    nodes = omega (arith, h.fits.nodes);
    depth = omega (arith, h.fits.depth);
    name_bytes = omega (arith, h.fits.name_bytes);
    integers = h.fits.integers.0;
  };
}

pub HasVarsBelow-second : (n : ℕ) (name : List ℕ) (s t : Tree) → HasVarsBelow n (of_two name s t) → HasVarsBelow n t
HasVarsBelow-second n name s t h = record {
  bound = omega (arith, h.bound);
  fits = record {
    nodes = omega (arith, h.fits.nodes);
    depth = omega (arith, h.fits.depth);
    name_bytes = omega (arith, h.fits.name_bytes);
    integers = h.fits.integers.1;
  };
}

HasVarsBelow-head : (n : ℕ) (name : List ℕ) (s t u : Tree) → HasVarsBelow n (of_three name s t u) → HasVarsBelow n s
HasVarsBelow-head n name s t u h = record {
  bound = omega (arith, h.bound);
  fits = record {
    nodes = omega (arith, h.fits.nodes);
    depth = omega (arith, h.fits.depth);
    name_bytes = omega (arith, h.fits.name_bytes);
    integers = h.fits.integers.0;
  };
}

HasVarsBelow-third : (n : ℕ) (name : List ℕ) (s t u : Tree) → HasVarsBelow n (of_three name s t u) → HasVarsBelow n u
HasVarsBelow-third n name s t u h = record {
  bound = omega (arith, h.bound);
  fits = record {
    nodes = omega (arith, h.fits.nodes);
    depth = omega (arith, h.fits.depth);
    name_bytes = omega (arith, h.fits.name_bytes);
    integers = h.fits.integers.1.1;
  };
}

-- a clause's head and its body
within_head : (n : ℕ) (f : Form) (h g b : Tree) → HasVarsBelow n (clause_of_form f h g b) → HasVarsBelow n h
within_head n Two h g b below = HasVarsBelow-first n _ h b below
within_head n Three h g b below = HasVarsBelow-head n _ h g b below

within_body : (n : ℕ) (f : Form) (h g b : Tree) → HasVarsBelow n (clause_of_form f h g b) → HasVarsBelow n b
within_body n Two h g b below = HasVarsBelow-second n _ h b below
within_body n Three h g b below = HasVarsBelow-third n _ h g b below

within_both : (n : ℕ) (name : List ℕ) (s t : Tree) → HasVarsBelow n (of_two name s t) → All (HasVarsBelow n) (s ∷ t ∷ [])
within_both n name s t h =
    All-cons (HasVarsBelow n) s (t ∷ []) (HasVarsBelow-first n name s t h)
    (All-cons (HasVarsBelow n) t [] (HasVarsBelow-second n name s t h) (All-nil (HasVarsBelow n)))

within_only : (n : ℕ) (name : List ℕ) (t : Tree) → HasVarsBelow n (of_one name t) → All (HasVarsBelow n) (t ∷ [])
within_only n name t h = All-cons (HasVarsBelow n) t [] (HasVarsBelow-one n name t h) (All-nil (HasVarsBelow n))

pub within_terms : (n : ℕ) (f : Form) (g : Goal) → HasVarsBelow n (goal_term f g) → All (HasVarsBelow n) (terms_of g)
within_terms n f (OutR t) h = within_only n _ (tree_of t) h
within_terms n f (InR t) h = within_only n _ (tree_of t) h
within_terms n f (RdR t) h = within_only n _ (tree_of t) h
within_terms n f (NoR t) h = within_only n _ (tree_of t) h
within_terms n f Pre h = All-nil (HasVarsBelow n)
within_terms n f Post h = All-nil (HasVarsBelow n)
within_terms n f Success h = All-nil (HasVarsBelow n)
within_terms n f Failure h = All-nil (HasVarsBelow n)
within_terms n f True h = All-nil (HasVarsBelow n)
within_terms n f (Agent t) h = within_only n _ (tree_of t) h
within_terms n f (Centre t) h = within_only n _ (tree_of t) h
within_terms n f (Operation t) h = within_only n _ (tree_of t) h
within_terms n f (Tuple t) h = within_only n _ (tree_of t) h
within_terms n f (Equal s t) h = within_both n _ (tree_of s) (tree_of t) h
within_terms n f (Differ s t) h = within_both n _ (tree_of s) (tree_of t) h
within_terms n f (Is s t) h = within_both n _ (tree_of s) (tree_of t) h
within_terms n f (Compare comparison s t) h = within_both n _ (tree_of s) (tree_of t) h

within_goals : (n : ℕ) (f : Form) (gs : List Goal) → HasVarsBelow n (body_term f gs) → All (λ g. All (HasVarsBelow n) (terms_of g)) gs
within_goals n f [] h = All-nil (λ g. All (HasVarsBelow n) (terms_of g))
within_goals n f (g ∷ []) h =
    All-cons (λ g. All (HasVarsBelow n) (terms_of g)) g [] (within_terms n f g h) (All-nil (λ g. All (HasVarsBelow n) (terms_of g)))
within_goals n f (g ∷ k ∷ gs) h =
    All-cons (λ g. All (HasVarsBelow n) (terms_of g)) g (k ∷ gs)
    (within_terms n f g (HasVarsBelow-first n _ (goal_term f g) (body_term f (k ∷ gs)) h))
    (within_goals n f (k ∷ gs) (HasVarsBelow-second n _ (goal_term f g) (body_term f (k ∷ gs)) h))

within_clause : (r : Rule) → IsRule r → HasVarsBelow r.vars (clause_term r)
within_clause r h = record {
  bound = omega (arith, var_bound-pattern (clause_term r) h.clause.pattern, h.vars);
  fits = h.clause.pattern.template.fits;
}

-- the terms of a rule's goals have its variables alone, and fit
pub rule_goals : (r : Rule) → IsRule r → All (λ g. All (HasVarsBelow r.vars) (terms_of g)) r.goals
rule_goals r h =
    within_goals r.vars r.form r.goals
    (within_body r.vars r.form (of_one (op_name r.op) r.head) (guard_term r.guard) (body_term r.form r.goals) (within_clause r h))

-- and so has its head
pub rule_head : (r : Rule) → IsRule r → HasVarsBelow r.vars r.head
rule_head r h =
    HasVarsBelow-one r.vars _ r.head
    (within_head r.vars r.form (of_one (op_name r.op) r.head) (guard_term r.guard) (body_term r.form r.goals) (within_clause r h))

-- few variables
pub rule_vars : (r : Rule) → IsRule r → r.vars ≤ 256
rule_vars r h = omega (arith, h.vars, h.clause.pattern.template.few)
