-- A list read by place after one place has changed.
use Rattle.std.proofs.Common.{◌≡◌, ℕ, ◌≢◌, List, set, sym, subst, ⊎_elim}
use mathlib.Core.Option.{some}
use lib.ListN.{get_elem?}
use Rattle.atomic_table.proofs.Lists.{at_set, set_here}
use Rattle.tc_lists.proofs.Gets.{at_below}

module _ {A : Type 0} where
  pub set_at : (l : List A) (i : ℕ) (a b : A) → get_elem? l i ≡ some a → get_elem? (set l i b) i ≡ some b
  set_at l i a b e = set_here l i b (at_below l i a e)

  -- a fact of each place after one place has changed
  pub each_set : (P : ℕ → A → Type 0) (l : List A) (i : ℕ) (b : A) → ((j : ℕ) (u : A) → j ≢ i → get_elem? l j ≡ some u → P j u) → P i b → (j : ℕ) (u : A) → get_elem? (set l i b) j ≡ some u → P j u
  each_set P l i b others here j u e =
      ⊎_elim
      (λ (t : (j ≡ i) × (b ≡ u)). subst (λ (k : ℕ). P k u) (sym t.0) (subst (P i) t.1 here))
      (λ (t : (j ≢ i) × (get_elem? l j ≡ some u)). others j u t.0 t.1)
      (at_set l i j b u e)
