-- The loop over arguments: those that were read and those that are left are the whole.
use Rattle.std.proofs.Common.{◌≡◌, ◌≢◌, ℕ, suc, ◌==◌, if◌then◌else◌, List, [], ◌∷◌, ◌++◌, Some, None, sym, ap, ◌∙◌}
use Rattle.tc_term.specs.Tree.{Tree, Trees, Last}
use Rattle.tc_term.specs.TreeView.{tree_of, trees_of}
use Rattle.tc_term.specs.declared.terms.Term.{Term}
use Rattle.tc_read.proofs.Cells.{prepended-none, prepended-push, prepended-last}
use Rattle.tc_read.specs.Front.{Read, argument, arguments, before}
use Rattle.tc_read.specs.Seen.{prepended}
use Rattle.tc_read.specs.declared.budget.Budget.{Budget}
use Rattle.std.proofs.lemmas.Bool.{ne_eqb}

-- what stands behind an argument
module _ (more : Budget → List ℕ → Read Trees) (t : Tree) (budget : Budget) (s : List ℕ) where
  pub argument-other : (b : ℕ) → b ≢ 41 → b ≢ 44 → argument more (Some (t, budget, b ∷ s)) ≡ None
  argument-other b n m = ap (λ p. if p then Some (Last t, budget, s) else (if b == 44 then before t (more budget s) else None)) (ne_eqb b 41 n)
      ∙ ap (λ p. if p then before t (more budget s) else None) (ne_eqb b 44 m)

module _ (read : Budget → List ℕ → Read Tree) (items : List Term) (n m : ℕ) (budget : Budget) (bytes : List ℕ) (whole : Read Trees)
    (kept : prepended items (arguments read n budget bytes) ≡ whole) (left : n ≡ suc m) where
  read_next : prepended items (argument (arguments read m) (read budget bytes)) ≡ whole
  read_next = ap (λ k. prepended items (arguments read k budget bytes)) (sym left) ∙ kept

  pub none_next : read budget bytes ≡ None → whole ≡ None
  none_next e = sym read_next ∙ ap (λ r. prepended items (argument (arguments read m) r)) e ∙ prepended-none items

  module _ (t : Term) (next : Budget) (after : List ℕ) (is : read budget bytes ≡ Some (tree_of t, next, after)) where
    behind_next : (s : List ℕ) → after ≡ s → whole ≡ prepended items (argument (arguments read m) (Some (tree_of t, next, s)))
    behind_next s e = sym read_next ∙ ap (λ r. prepended items (argument (arguments read m) r)) is
        ∙ ap (λ x. prepended items (argument (arguments read m) (Some (tree_of t, next, x)))) e

    pub end_next : after ≡ [] → whole ≡ None
    end_next e = behind_next [] e ∙ prepended-none items

    pub other_next : (b : ℕ) (s : List ℕ) → after ≡ b ∷ s → b ≢ 41 → b ≢ 44 → whole ≡ None
    other_next b s e i j = behind_next (b ∷ s) e ∙ ap (prepended items) (argument-other (arguments read m) (tree_of t) next s b i j) ∙ prepended-none items

    pub last_next : (s : List ℕ) (new : List Term) → after ≡ 41 ∷ s → new ≡ items ++ t ∷ [] → whole ≡ Some (trees_of new, next, s)
    last_next s new e is_new = behind_next (41 ∷ s) e ∙ prepended-last items t next s ∙ ap (λ l. Some (trees_of l, next, s)) (sym is_new)

    pub more_next : (s : List ℕ) (new : List Term) → after ≡ 44 ∷ s → new ≡ items ++ t ∷ [] → whole ≡ prepended new (arguments read m next s)
    more_next s new e is_new = behind_next (44 ∷ s) e ∙ sym (prepended-push items t (arguments read m next s)) ∙ ap (λ l. prepended l (arguments read m next s)) (sym is_new)
