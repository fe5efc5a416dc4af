-- Reactions: a head, a guard, a body of goals, and the clause that they are written as.
use Rattle.std.specs.Prelude.{◌≡◌, ◌≤◌, ℕ, List, [], ◌∷◌, ◌++◌, All, length}
use Rattle.std.specs.Prelude.{codes}
use Rattle.std.specs.List.{flat_map}
use Rattle.tc_term.specs.Tree.{Tree, Atomic, Compound, Last, More}
use Rattle.tc_term.specs.TreeView.{tree_of}
use Rattle.tc_term.specs.Variables.{variables}
use Rattle.tc_term.specs.Text.{canonical}
use Rattle.tc_term.specs.Readable.{IsReadable}
use Rattle.tc_term.specs.declared.comparison.Cmp.{Cmp}
use Rattle.tc_term.specs.declared.comparison.Cmp.TheVariants as cmp
use Rattle.tc_model.specs.Events.{op_name}
use Rattle.tc_model.specs.declared.limits.TheConstants.{MOST_GOALS, MOST_CLAUSES, MOST_TESTS}
use Rattle.tc_model.specs.declared.events.EventOp.{EventOp}
use Rattle.tc_model.specs.declared.events.EventOp.TheVariants as op
use Rattle.tc_model.specs.declared.goals.Goal.{Goal}
use Rattle.tc_model.specs.declared.goals.Goal.TheVariants.{OutR, InR, RdR, NoR, Pre, Post}
use Rattle.tc_model.specs.declared.goals.Goal.TheVariants.{Success, Failure, True, Agent}
use Rattle.tc_model.specs.declared.goals.Goal.TheVariants.{Centre, Operation, Tuple, Equal}
use Rattle.tc_model.specs.declared.goals.Goal.TheVariants.{Differ, Is, Compare}
use Rattle.tc_model.specs.declared.reactions.Form.{Form}
use Rattle.tc_model.specs.declared.reactions.Form.TheVariants.{Two, Three}
use Rattle.tc_model.specs.declared.reactions.GuardTest.{GuardTest}
use Rattle.tc_model.specs.declared.reactions.GuardTest.TheVariants as test

-- a reaction: how many variables it has, how many arguments its clause, the operation and the term
-- of its head, the tests of its guard, and its goals
pub record Rule : Type 0 where
  pub vars : ℕ
  pub form : Form
  pub op : EventOp
  pub head : Tree
  pub guard : List GuardTest
  pub goals : List Goal

-- a compound of one argument, one of two, and one of three
abbrev pub of_one : List ℕ → Tree → Tree
of_one name t = Compound name (Last t)

abbrev pub of_two : List ℕ → Tree → Tree → Tree
of_two name s t = Compound name (More s (Last t))

abbrev pub of_three : List ℕ → Tree → Tree → Tree → Tree
of_three name s t u = Compound name (More s (More t (Last u)))

-- the name of a test
abbrev pub test_name : GuardTest → List ℕ
test_name test.Request = codes "request"
test_name test.Response = codes "response"
test_name test.Success = codes "success"
test_name test.Failure = codes "failure"

-- the term that a test is written as
abbrev pub test_term : GuardTest → Tree
test_term t = Atomic (test_name t)

-- the term that a guard is written as: `true` of no test, else the tests with commas between,
-- nested to the right
abbrev pub guard_term : List GuardTest → Tree
guard_term [] = Atomic (codes "true")
guard_term (t ∷ []) = test_term t
guard_term (t ∷ u ∷ us) = of_two (codes ",") (test_term t) (guard_term (u ∷ us))

-- the symbol of a comparison
abbrev pub cmp_name : Cmp → List ℕ
cmp_name cmp.Eq = codes "=:="
cmp_name cmp.Ne = codes "=\\="
cmp_name cmp.Lt = codes "<"
cmp_name cmp.Gt = codes ">"
cmp_name cmp.Le = codes "=<"
cmp_name cmp.Ge = codes ">="

-- the name of a goal that works on tuples: in a clause of three arguments without its _r
abbrev pub goal_op_name : Form → EventOp → List ℕ
goal_op_name Three op.OutR = codes "out"
goal_op_name Three op.InR = codes "in"
goal_op_name Three op.RdR = codes "rd"
goal_op_name Three op.NoR = codes "no"
goal_op_name f o = op_name o

-- the term that a goal is written as in a clause of this form
abbrev pub goal_term : Form → Goal → Tree
goal_term f (OutR t) = of_one (goal_op_name f op.OutR) (tree_of t)
goal_term f (InR t) = of_one (goal_op_name f op.InR) (tree_of t)
goal_term f (RdR t) = of_one (goal_op_name f op.RdR) (tree_of t)
goal_term f (NoR t) = of_one (goal_op_name f op.NoR) (tree_of t)
goal_term f Pre = Atomic (codes "pre")
goal_term f Post = Atomic (codes "post")
goal_term f Success = Atomic (codes "success")
goal_term f Failure = Atomic (codes "failure")
goal_term f True = Atomic (codes "true")
goal_term f (Agent t) = of_one (codes "current_agent") (tree_of t)
goal_term f (Centre t) = of_one (codes "current_tc") (tree_of t)
goal_term f (Operation t) = of_one (codes "current_op") (tree_of t)
goal_term f (Tuple t) = of_one (codes "current_tuple") (tree_of t)
goal_term f (Equal s t) = of_two (codes "=") (tree_of s) (tree_of t)
goal_term f (Differ s t) = of_two (codes "\\=") (tree_of s) (tree_of t)
goal_term f (Is s t) = of_two (codes "is") (tree_of s) (tree_of t)
goal_term f (Compare comparison s t) = of_two (cmp_name comparison) (tree_of s) (tree_of t)

-- the goals with commas between, nested to the right; of no goal, any term
abbrev pub body_term : Form → List Goal → Tree
body_term f [] = Atomic []
body_term f (g ∷ []) = goal_term f g
body_term f (g ∷ h ∷ gs) = of_two (codes ",") (goal_term f g) (body_term f (h ∷ gs))

-- the clause of a form, of a head, a guard and a body
abbrev pub clause_of_form : Form → Tree → Tree → Tree → Tree
clause_of_form Two head guard body = of_two (codes "reaction") head body
clause_of_form Three head guard body = of_three (codes "reaction") head guard body

-- the clause that a reaction is written as
abbrev pub clause_term : Rule → Tree
clause_term r =
    clause_of_form r.form (of_one (op_name r.op) r.head) (guard_term r.guard)
    (body_term r.form r.goals)

-- a clause of two arguments has no guard; one of three has at most 16 tests
abbrev pub IsGuard : Form → List GuardTest → Type 0
IsGuard Two tests = tests ≡ []
IsGuard Three tests = length tests ≤ MOST_TESTS

-- it has 1 to 64 goals, and a guard of its form; its clause is a template with so many variables,
-- whose text is read back
pub record IsRule (r : Rule) : Type 0 where
  pub some : 1 ≤ length r.goals
  pub most : length r.goals ≤ MOST_GOALS
  pub guard : IsGuard r.form r.guard
  pub clause : IsReadable (clause_term r)
  pub vars : r.vars ≡ length (variables (clause_term r))

-- rules, and few enough for a centre
pub record AreClauses (clauses : List Rule) : Type 0 where
  pub rules : All IsRule clauses
  pub few : length clauses ≤ MOST_CLAUSES

-- the text of clauses: each ends with a dot and a line feed
abbrev pub clauses_text : List Rule → List ℕ
clauses_text clauses = flat_map (λ r. canonical (clause_term r) ++ codes ".\n") clauses
