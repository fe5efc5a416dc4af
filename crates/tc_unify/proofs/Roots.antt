-- Links: where they end, and what holds of all linked nodes.
use Rattle.std.proofs.Common.{◌≡◌, ℕ, zero, suc, ◌≤◌, inl, inr, refl, sym, ap, ◌∙◌, subst, arith}
use Rattle.tc_term.specs.Tree.{Tree}
use Rattle.tc_unify.specs.Nodes.{Shape, tree_of_node, IsTerm}
use Rattle.tc_unify.specs.Links.{Falls, followed, root, Respects, LinkedAlike}

followed-fixed : (link : ℕ → ℕ) (fuel k : ℕ) → link k ≡ k → followed fuel link k ≡ k
followed-fixed link zero k e = refl
followed-fixed link (suc fuel) k e = ap (followed fuel link) e ∙ followed-fixed link fuel k e

followed-ends : (link : ℕ → ℕ) → Falls link → (fuel k : ℕ) → k ≤ fuel → link (followed fuel link k) ≡ followed fuel link k
followed-ends link falls zero k h = elim (falls k) [ inl same ↦ same | inr lower ↦ absurd (omega arith) ]
followed-ends link falls (suc fuel) k h =
    elim (falls k) [
      | inl same ↦ (let e = followed-fixed link (suc fuel) k same in subst (λ r. link r ≡ r) (sym e) same)
      | inr lower ↦ followed-ends link falls fuel (link k) (omega arith)
    ]

followed-same : (link : ℕ → ℕ) → Falls link → (f g k : ℕ) → k ≤ f → k ≤ g → followed f link k ≡ followed g link k
followed-same link falls zero g k h i =
    elim (falls k) [ inl same ↦ sym (followed-fixed link g k same) | inr lower ↦ absurd (omega arith) ]
followed-same link falls (suc f) zero k h i =
    elim (falls k) [ inl same ↦ followed-fixed link (suc f) k same | inr lower ↦ absurd (omega arith) ]
followed-same link falls (suc f) (suc g) k h i =
    elim (falls k) [
      | inl same ↦ followed-fixed link (suc f) k same ∙ sym (followed-fixed link (suc g) k same)
      | inr lower ↦ followed-same link falls f g (link k) (omega arith) (omega arith)
    ]

followed-tree : (link : ℕ → ℕ) (F : ℕ → Tree) → Respects F link → (fuel k : ℕ) → F k ≡ F (followed fuel link k)
followed-tree link F r zero k = refl
followed-tree link F r (suc fuel) k = r k ∙ followed-tree link F r fuel (link k)

pub root-ends : (link : ℕ → ℕ) → Falls link → (k : ℕ) → link (root link k) ≡ root link k
unfolding root
root-ends link falls k = followed-ends link falls k k (omega arith)

pub root-fixed : (link : ℕ → ℕ) (k : ℕ) → link k ≡ k → root link k ≡ k
unfolding root
root-fixed link k e = followed-fixed link k k e

pub root-link : (link : ℕ → ℕ) → Falls link → (k : ℕ) → root link (link k) ≡ root link k
unfolding root
root-link link falls zero = elim (falls zero) [ inl same ↦ ap (root link) same | inr lower ↦ absurd (omega arith) ]
root-link link falls (suc k) =
    elim (falls (suc k)) [
      | inl same ↦ ap (root link) same
      | inr lower ↦ followed-same link falls (link (suc k)) k (link (suc k)) (omega arith) (omega arith)
    ]

pub root-tree : (link : ℕ → ℕ) (F : ℕ → Tree) → Respects F link → (k : ℕ) → F k ≡ F (root link k)
unfolding root
root-tree link F r k = followed-tree link F r k k

-- a property that links keep holds of the root
pub root-keeps : (link : ℕ → ℕ) (P : ℕ → Type 0) → ((k : ℕ) → P k → P (link k)) → (k : ℕ) → P k → P (root link k)
unfolding root
root-keeps link P keeps k p = followed-keeps k k p
  where
    followed-keeps : (fuel k : ℕ) → P k → P (followed fuel link k)
    followed-keeps zero k p = p
    followed-keeps (suc fuel) k p = followed-keeps fuel (link k) (keeps k p)

followed-alike : (shape : ℕ → Shape) (link : ℕ → ℕ) (v F : ℕ → Tree) → LinkedAlike shape link F → ((k : ℕ) → IsTerm (shape k) → IsTerm (shape (link k))) → (fuel k : ℕ) → IsTerm (shape k) → tree_of_node v F (shape k) ≡ tree_of_node v F (shape (followed fuel link k))
followed-alike shape link v F alike terms zero k h = refl
followed-alike shape link v F alike terms (suc fuel) k h = alike v k h ∙ followed-alike shape link v F alike terms fuel (link k) (terms k h)

pub root-alike : (shape : ℕ → Shape) (link : ℕ → ℕ) (v F : ℕ → Tree) → LinkedAlike shape link F → ((k : ℕ) → IsTerm (shape k) → IsTerm (shape (link k))) → (k : ℕ) → IsTerm (shape k) → tree_of_node v F (shape k) ≡ tree_of_node v F (shape (root link k))
unfolding root
root-alike shape link v F alike terms k h = followed-alike shape link v F alike terms k k h
