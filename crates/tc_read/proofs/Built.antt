use Rattle.std.proofs.Common.{◌≡◌, ℕ, ◌<◌, List, [], ◌∷◌, ◌++◌, map, length, refl, sym, ◌∙◌, ap, arith, Bool, true, false}
use Rattle.std.proofs.lemmas.Bool.Decides.{nat_tests}
use Rattle.tc_term.specs.Tree.{Tree, Trees, Last, More, Compound, nodes, depth, nodes_of_all, depth_of_all, name_bytes_of_all, name_bytes}
use Rattle.tc_term.specs.TreeView.{tree_of, trees_of}
use Rattle.tc_term.specs.declared.terms.Term.{Term}
use Rattle.tc_term.specs.Faults.{trees}
use Rattle.tc_read.specs.declared.measured.Item.{Item}
use Rattle.tc_read.specs.Kept.{Small, Large, all_nodes, all_depth, all_name_bytes, fits_by, fits, fits_all, small_if, whole, whole_if, joined, finished, kept}
use Rattle.tc_read.specs.Items.{kept_item, done_of}
use Rattle.tc_read.proofs.Meanings.{nodes_of_trees, depth_of_trees, name_bytes_of_trees, compound_too_big, others_too_big}
use Rattle.tc_lists.proofs.Reversals.{reverse-map_push}

pub trees_same : (t : Term) (ts : List Term) → trees_of (t ∷ ts) ≡ trees (tree_of t) (map tree_of ts)
trees_same t [] = refl
trees_same t (u ∷ ts) = ap (More (tree_of t)) (trees_same u ts)

-- the sizes of arguments
pub nodes_of : (ts : List Term) → 0 < length ts → nodes_of_all (trees_of ts) ≡ all_nodes (map tree_of ts)
nodes_of [] h = absurd (omega arith)
nodes_of (t ∷ ts) h = ap nodes_of_all (trees_same t ts) ∙ nodes_of_trees (tree_of t) (map tree_of ts)

pub depth_of : (ts : List Term) → 0 < length ts → depth_of_all (trees_of ts) ≡ all_depth (map tree_of ts)
depth_of [] h = absurd (omega arith)
depth_of (t ∷ ts) h = ap depth_of_all (trees_same t ts) ∙ depth_of_trees (tree_of t) (map tree_of ts)

pub name_bytes_of : (ts : List Term) → 0 < length ts → name_bytes_of_all (trees_of ts) ≡ all_name_bytes (map tree_of ts)
name_bytes_of [] h = absurd (omega arith)
name_bytes_of (t ∷ ts) h = ap name_bytes_of_all (trees_same t ts) ∙ name_bytes_of_trees (tree_of t) (map tree_of ts)

pub whole_of : (name : List ℕ) (ts : List Term) → 0 < length ts → whole name (map tree_of ts) ≡ small_if (fits (Compound name (trees_of ts))) (Compound name (trees_of ts))
whole_of name [] h = absurd (omega arith)
whole_of name (t ∷ ts) h = ap (λ (us : Trees). small_if (fits (Compound name us)) (Compound name us)) (sym (trees_same t ts))

long : (a b c : ℕ) → 65535 < c → fits_by a b c ≡ false
long a b c h = grind (arith, nat_tests)

pub whole_long : (name : List ℕ) (ts : List Tree) → 65535 < length name → whole name ts ≡ Large
whole_long name [] h = refl
whole_long name (t ∷ ts) h = ap (λ b. small_if b (Compound name (trees t ts))) (let h' : 65535 < name_bytes (Compound name (trees t ts)) = omega arith in long (nodes (Compound name (trees t ts))) (depth (Compound name (trees t ts))) (name_bytes (Compound name (trees t ts))) h')

pub done_push : (items : List Item) (item : Item) → done_of (items ++ item ∷ []) ≡ kept_item item ∷ done_of items
done_push items item = reverse-map_push kept_item items item

-- a compound of one argument or of two, of which each fits
one_by : (name : List ℕ) (t : Tree) (b : Bool) → fits_all (t ∷ []) ≡ b
    → finished name (whole_if b (t ∷ [])) ≡ small_if (fits (Compound name (Last t))) (Compound name (Last t))
one_by name t true e = refl
one_by name t false e = sym (ap (λ b. small_if b (Compound name (Last t))) (compound_too_big name t [] e))

pub one_kept : (name : List ℕ) (t : Tree)
    → kept.compound name (Small t) [] ≡ small_if (fits (Compound name (Last t))) (Compound name (Last t))
one_kept name t = one_by name t (fits_all (t ∷ [])) refl

two_by : (name : List ℕ) (t u : Tree) (b : Bool) → fits_all (t ∷ u ∷ []) ≡ b
    → finished name (whole_if b (t ∷ u ∷ [])) ≡ small_if (fits (Compound name (More t (Last u)))) (Compound name (More t (Last u)))
two_by name t u true e = refl
two_by name t u false e = sym (ap (λ b. small_if b (Compound name (More t (Last u)))) (compound_too_big name t (u ∷ []) e))

two_by_last : (name : List ℕ) (t u : Tree) (b : Bool) → fits_all (u ∷ []) ≡ b
    → finished name (joined (Small t) (whole_if b (u ∷ []))) ≡ small_if (fits (Compound name (More t (Last u)))) (Compound name (More t (Last u)))
two_by_last name t u true e = two_by name t u (fits_all (t ∷ u ∷ [])) refl
two_by_last name t u false e =
    sym (ap (λ b. small_if b (Compound name (More t (Last u)))) (compound_too_big name t (u ∷ []) (others_too_big t (u ∷ []) e)))

pub two_kept : (name : List ℕ) (t u : Tree)
    → kept.compound name (Small t) (Small u ∷ []) ≡ small_if (fits (Compound name (More t (Last u)))) (Compound name (More t (Last u)))
two_kept name t u = two_by_last name t u (fits_all (u ∷ [])) refl
