-- Terms that are no goal's.
use Rattle.std.proofs.Common.{◌≡◌, ◌≢◌, ℕ, List, [], ◌∷◌, sym, subst, length, ◌≤◌, arith}
use Rattle.tc_term.specs.Tree.{Tree, Compound, Trees, More}
use Rattle.tc_term.specs.TreeView.{tree_of, trees_of}
use Rattle.tc_term.specs.declared.terms.Term.{Term}
use Rattle.tc_model.specs.Reactions.{of_one, of_two}
use Rattle.tc_model.specs.declared.goals.Goal.TheVariants.{OutR, InR, RdR, NoR, Pre, Post, Success, Failure, True, Agent, Centre, Operation, Tuple, Equal, Differ, Is, Compare}
use Rattle.tc_model.specs.declared.reactions.Form.{Form}
use Rattle.tc_spec.specs.Goals.{one_name, two_name, IsNoGoal}
use Rattle.tc_spec.specs.declared.goals.One.{One}
use Rattle.tc_spec.specs.declared.goals.One.TheVariants as one
use Rattle.tc_spec.specs.declared.goals.Two.{Two}
use Rattle.tc_spec.specs.declared.goals.Two.TheVariants as two

-- a name that is none of the goals of one argument
pub no_one : (f : Form) (name : List ℕ) (x : Tree) → ((kind : One) → one_name f kind ≢ name) → IsNoGoal f (of_one name x)
no_one f name x other (OutR t) same = let n : one_name f one.OutR ≡ name = cc in other one.OutR n
no_one f name x other (InR t) same = let n : one_name f one.InR ≡ name = cc in other one.InR n
no_one f name x other (RdR t) same = let n : one_name f one.RdR ≡ name = cc in other one.RdR n
no_one f name x other (NoR t) same = let n : one_name f one.NoR ≡ name = cc in other one.NoR n
no_one f name x other (Agent t) same = let n : one_name f one.Agent ≡ name = cc in other one.Agent n
no_one f name x other (Centre t) same = let n : one_name f one.Centre ≡ name = cc in other one.Centre n
no_one f name x other (Operation t) same = let n : one_name f one.Operation ≡ name = cc in other one.Operation n
no_one f name x other (Tuple t) same = let n : one_name f one.Tuple ≡ name = cc in other one.Tuple n
no_one f name x other (Equal s t) same = absurd (cc)
no_one f name x other (Differ s t) same = absurd (cc)
no_one f name x other (Is s t) same = absurd (cc)
no_one f name x other (Compare k s t) same = absurd (cc)
no_one f name x other Pre same = absurd (cc)
no_one f name x other Post same = absurd (cc)
no_one f name x other Success same = absurd (cc)
no_one f name x other Failure same = absurd (cc)
no_one f name x other True same = absurd (cc)

-- a name that is none of the goals of two arguments
pub no_two : (f : Form) (name : List ℕ) (x y : Tree) → ((kind : Two) → two_name kind ≢ name) → IsNoGoal f (of_two name x y)
no_two f name x y other (OutR t) same = absurd (cc)
no_two f name x y other (InR t) same = absurd (cc)
no_two f name x y other (RdR t) same = absurd (cc)
no_two f name x y other (NoR t) same = absurd (cc)
no_two f name x y other (Agent t) same = absurd (cc)
no_two f name x y other (Centre t) same = absurd (cc)
no_two f name x y other (Operation t) same = absurd (cc)
no_two f name x y other (Tuple t) same = absurd (cc)
no_two f name x y other (Equal s t) same = let n : two_name two.Equal ≡ name = cc in other two.Equal n
no_two f name x y other (Differ s t) same = let n : two_name two.Differ ≡ name = cc in other two.Differ n
no_two f name x y other (Is s t) same = let n : two_name two.Is ≡ name = cc in other two.Is n
no_two f name x y other (Compare k s t) same = let n : two_name (two.Compare k) ≡ name = cc in other (two.Compare k) n
no_two f name x y other Pre same = absurd (cc)
no_two f name x y other Post same = absurd (cc)
no_two f name x y other Success same = absurd (cc)
no_two f name x y other Failure same = absurd (cc)
no_two f name x y other True same = absurd (cc)

-- compounds of three arguments or more are no goals
no_more : (f : Form) (name : List ℕ) (x y : Tree) (ts : Trees) → IsNoGoal f (Compound name (More x (More y ts)))
no_more f name x y ts (OutR t) same = absurd (cc)
no_more f name x y ts (InR t) same = absurd (cc)
no_more f name x y ts (RdR t) same = absurd (cc)
no_more f name x y ts (NoR t) same = absurd (cc)
no_more f name x y ts (Agent t) same = absurd (cc)
no_more f name x y ts (Centre t) same = absurd (cc)
no_more f name x y ts (Operation t) same = absurd (cc)
no_more f name x y ts (Tuple t) same = absurd (cc)
no_more f name x y ts (Equal s t) same = absurd (cc)
no_more f name x y ts (Differ s t) same = absurd (cc)
no_more f name x y ts (Is s t) same = absurd (cc)
no_more f name x y ts (Compare k s t) same = absurd (cc)
no_more f name x y ts Pre same = absurd (cc)
no_more f name x y ts Post same = absurd (cc)
no_more f name x y ts Success same = absurd (cc)
no_more f name x y ts Failure same = absurd (cc)
no_more f name x y ts True same = absurd (cc)

pub no_many : (f : Form) (name : List ℕ) (ts : List Term) (t : Tree) → t ≡ Compound name (trees_of ts) → 3 ≤ length ts → IsNoGoal f t
no_many f name [] t same many = absurd (omega (arith, many))
no_many f name (x ∷ []) t same many = absurd (omega (arith, many))
no_many f name (x ∷ y ∷ []) t same many = absurd (omega (arith, many))
no_many f name (x ∷ y ∷ z ∷ ts) t same many =
    subst (IsNoGoal f) (sym same) (no_more f name (tree_of x) (tree_of y) (trees_of (z ∷ ts)))
