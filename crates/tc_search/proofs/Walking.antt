-- A template and a tuple are equal exactly where their arguments are, one by one.
use Rattle.std.proofs.Common.{◌≡◌, ◌<◌, ◌+◌, ◌↔◌, ℕ, suc, List, [], ◌∷◌, length, map, drop, get_or, drop-cons, refl, sym, ap, ap₂, ◌∙◌, arith}
use Rattle.std.proofs.lemmas.List.{length-map}
use Rattle.std.specs.Prelude.{Option}
use Rattle.std.specs.Borrow.{Bor}
use Rattle.tc_term.specs.declared.terms.Term.{Term}
use Rattle.tc_term.specs.Tree.{Tree, Atomic, Compound, Trees, More}
use Rattle.tc_term.specs.TreeView.{tree_of, trees_of}
use Rattle.tc_term.specs.Variables.{instance, instances}
use Rattle.tc_unify.proofs.Splitting.{head_of, rest_of, trees_in, list_of, list-trees, arguments_of, name_of}
use Rattle.tc_unify.specs.Splits.{Always}
use Rattle.tc_search.specs.Bindings.{MakesTuple, Binds, NeverBinds}

-- what the trees of the variables make of terms
abbrev made : (ℕ → Tree) → List Term → List Tree
made f ts = map (λ t. instance f (tree_of t)) ts

-- the trees of terms
abbrev seen : List Term → List Tree
seen ts = map (λ t. tree_of t) ts

-- the trees of the variables make the terms from a place on the tuple's
abbrev pub MakesFrom : ℕ → List Term → List Term → (ℕ → Tree) → Type 0
MakesFrom i ss ts f = made f (drop i ss) ≡ seen (drop i ts)

-- nothing changes where both demands say the same
pub binds_same : (old : List (Option (Bor Term))) (P Q : (ℕ → Tree) → Type 0) → ((f : ℕ → Tree) → P f ↔ Q f) → Binds old P old Q
binds_same old P Q e = record { forth = λ f h p. (h, (e f).0 p); back = λ f h q. (h, (e f).1 q) }

-- a demand that falls into two is met one after the other
pub binds_more : (old mid new : List (Option (Bor Term))) (P R E Q : (ℕ → Tree) → Type 0) → Binds old P mid R → ((f : ℕ → Tree) → R f ↔ (E f × Q f)) → Binds mid E new Always → Binds old P new Q
binds_more old mid new P R E Q first parts next = record {
  forth = λ f h p.
      let one = first.forth f h p in
      let two = (parts f).0 one.1 in
      ((next.forth f one.0 two.0).0, two.1);
  back = λ f h q.
      let one = next.back f h tt in
      first.back f one.0 ((parts f).1 (one.1, q));
}

pub binds_met : (old new : List (Option (Bor Term))) (P Q : (ℕ → Tree) → Type 0) → ((f : ℕ → Tree) → Q f) → Binds old P new Q → Binds old P new Always
binds_met old new P Q met binds = record {
  forth = λ f h p. ((binds.forth f h p).0, tt);
  back = λ f h always. binds.back f h (met f);
}

pub never_more : (old mid : List (Option (Bor Term))) (P R E Q : (ℕ → Tree) → Type 0) → Binds old P mid R → ((f : ℕ → Tree) → R f ↔ (E f × Q f)) → NeverBinds mid E → NeverBinds old P
never_more old mid P R E Q first parts never f h p =
    let one = first.forth f h p in
    never f one.0 ((parts f).0 one.1).0

-- the terms from a place on are made where the first one is and those behind
pub makes_next : (i : ℕ) (ss ts : List Term) (x y : Term) → i < length ss → i < length ts → x ≡ get_or ss i x → y ≡ get_or ts i y
    → (f : ℕ → Tree) → MakesFrom i ss ts f ↔ (MakesTuple (tree_of x) (tree_of y) f × MakesFrom (i + 1) ss ts f)
makes_next i ss ts x y below under left right f = (
  (λ e.
      let h = sym one ∙ e ∙ two in
      (ap (head_of (Atomic [])) h, ap rest_of h)),
  (λ p. one ∙ ap₂ (λ (u : Tree) (us : List Tree). u ∷ us) p.0 p.1 ∙ sym two),
)
  where
    next : suc i ≡ i + 1
    next = omega arith

    one : made f (drop i ss) ≡ instance f (tree_of x) ∷ made f (drop (i + 1) ss)
    one =
        ap (made f) (drop-cons ss i x below)
        ∙ ap (λ z. instance f (tree_of z) ∷ made f (drop (suc i) ss)) (sym left)
        ∙ ap (λ n. instance f (tree_of x) ∷ made f (drop n ss)) next

    two : seen (drop i ts) ≡ tree_of y ∷ seen (drop (i + 1) ts)
    two =
        ap seen (drop-cons ts i y under)
        ∙ ap (λ z. tree_of z ∷ seen (drop (suc i) ts)) (sym right)
        ∙ ap (λ n. tree_of y ∷ seen (drop n ts)) next

made-trees : (f : ℕ → Tree) (ts : List Term) → instances f (trees_of ts) ≡ trees_in (made f ts)
made-trees f [] = refl
made-trees f (t ∷ []) = refl
made-trees f (t ∷ u ∷ ts) = ap (More (instance f (tree_of t))) (made-trees f (u ∷ ts))

seen-trees : (ts : List Term) → trees_of ts ≡ trees_in (seen ts)
seen-trees [] = refl
seen-trees (t ∷ []) = refl
seen-trees (t ∷ u ∷ ts) = ap (More (tree_of t)) (seen-trees (u ∷ ts))

list-made : (f : ℕ → Tree) (ts : List Term) → 0 < length ts → list_of (trees_in (made f ts)) ≡ made f ts
list-made f [] h = absurd (omega arith)
list-made f (t ∷ ts) h = list-trees (instance f (tree_of t)) (made f ts)

list-seen : (ts : List Term) → 0 < length ts → list_of (trees_in (seen ts)) ≡ seen ts
list-seen [] h = absurd (omega arith)
list-seen (t ∷ ts) h = list-trees (tree_of t) (seen ts)

-- two compounds with arguments from lists
module _ (s t : Term) (m n : List ℕ) (left right : Trees) (ss ts : List Term) (is : tree_of s ≡ Compound m left) (other : tree_of t ≡ Compound n right)
    (lefts : trees_of ss ≡ left) (rights : trees_of ts ≡ right) (some : 0 < length ss) (more : 0 < length ts) where
  whole_left : (f : ℕ → Tree) → instance f (tree_of s) ≡ Compound m (trees_in (made f ss))
  whole_left f =
      ap (instance f) (is ∙ ap (Compound m) (sym lefts))
      ∙ ap (Compound m) (made-trees f ss)

  whole_right : tree_of t ≡ Compound n (trees_in (seen ts))
  whole_right = other ∙ ap (Compound n) (sym rights) ∙ ap (Compound n) (seen-trees ts)

  pub makes_arguments : (f : ℕ → Tree) → MakesTuple (tree_of s) (tree_of t) f → (m ≡ n) × MakesFrom 0 ss ts f
  makes_arguments f e =
      let h = sym (whole_left f) ∙ e ∙ whole_right in
      (ap name_of h, sym (list-made f ss some) ∙ ap (λ u. list_of (arguments_of u)) h ∙ list-seen ts more)

  pub makes_compounds : m ≡ n → (f : ℕ → Tree) → MakesTuple (tree_of s) (tree_of t) f ↔ MakesFrom 0 ss ts f
  makes_compounds e f = (
    (λ h. (makes_arguments f h).1),
    (λ h. whole_left f ∙ ap₂ (λ (name : List ℕ) (us : List Tree). Compound name (trees_in us)) e h ∙ sym whole_right),
  )

  -- never, with other numbers of arguments
  pub never_lengths : (old : List (Option (Bor Term))) → (length ss ≡ length ts → ⊥) → NeverBinds old (MakesTuple (tree_of s) (tree_of t))
  never_lengths old differ f h e =
      differ (sym (length-map ss (λ u. instance f (tree_of u))) ∙ ap length (makes_arguments f e).1 ∙ length-map ts (λ u. tree_of u))
