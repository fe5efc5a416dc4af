-- Trees for the variables of a template, and what is bound while it is walked together with a
-- tuple.
use Rattle.std.specs.Prelude.{◌≡◌, ℕ, IsTrue, List, Option, Some, None, All, slice_index_or}
use Rattle.std.specs.Borrow.{Bor}
use Rattle.tc_term.specs.declared.terms.Term.{Term}
use Rattle.tc_term.specs.Tree.{Tree, is_ground}
use Rattle.tc_term.specs.TreeView.{tree_of}
use Rattle.tc_term.specs.Variables.{instance}

-- each variable that is bound has the tree that it is bound to
abbrev pub FollowsBindings : (ℕ → Tree) → List (Option (Bor Term)) → Type 0
FollowsBindings f bound =
    (n : ℕ) (t : Bor Term) → slice_index_or bound n None ≡ Some t → f n ≡ tree_of t.now

-- no variable is bound
abbrev pub IsFree : List (Option (Bor Term)) → Type 0
IsFree bound = All (λ b. b ≡ None) bound

-- what is bound has no variable
abbrev pub AreGround : List (Option (Bor Term)) → Type 0
AreGround bound = (n : ℕ) (t : Bor Term) → slice_index_or bound n None ≡ Some t
    → IsTrue (is_ground (tree_of t.now))

-- the trees of the variables make the term the tuple
abbrev pub MakesTuple : Tree → Tree → (ℕ → Tree) → Type 0
MakesTuple term tuple f = instance f term ≡ tuple

-- the trees that follow what was bound and meet the one demand are those that follow what is bound
-- and meet the other
pub record Binds (old : List (Option (Bor Term))) (P : (ℕ → Tree) → Type 0)
    (new : List (Option (Bor Term))) (Q : (ℕ → Tree) → Type 0) : Type 0 where
  pub forth : (f : ℕ → Tree) → FollowsBindings f old → P f → FollowsBindings f new × Q f
  pub back : (f : ℕ → Tree) → FollowsBindings f new → Q f → FollowsBindings f old × P f

-- no trees that follow what is bound meet the demand
abbrev pub NeverBinds : List (Option (Bor Term)) → ((ℕ → Tree) → Type 0) → Type 0
NeverBinds old P = (f : ℕ → Tree) → FollowsBindings f old → P f → ⊥
