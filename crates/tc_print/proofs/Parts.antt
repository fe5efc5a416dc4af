-- The text of a term from the texts of its parts.
use Rattle.std.proofs.Common.{◌≡◌, ◌<◌, ℕ, false, List, [], ◌∷◌, ◌++◌, codes, length, refl, ap, sym, ◌∙◌, ap₂, if◌then◌else◌, append-nil, append_assoc, arith}
use Rattle.tc_lists.proofs.Bools.{bytes_eq-apart}
use Rattle.tc_print.proofs.Numbers.{place_in-variables_after_all}
use Rattle.tc_print.specs.Printing.{renamed, text_after, texts_after, IsEmptyList}
use Rattle.tc_term.proofs.Numbered.{instance-alike}
use Rattle.tc_term.specs.Cells.{IsCell, IsNoCell}
use Rattle.tc_term.specs.Text.{Place, Alone, Behind, applied, before_element, empty_list, is_dot, is_nil, name_text, placed, text_in, texts_of}
use Rattle.tc_term.specs.Tree.{Tree, Variable, Atomic, Number, Compound, Trees, Last, More}
use Rattle.tc_term.specs.TreeView.{tree_of, trees_of}
use Rattle.tc_term.specs.Variables.{instance, variables_after, variables_after_all}
use Rattle.tc_term.specs.declared.terms.Term.{Term}

-- what follows a term doesn't change the numbers of its variables
pub instance-followed : (seen : List ℕ) (t : Tree) (ts : Trees) →
    instance (renamed (variables_after_all (variables_after seen t) ts)) t ≡ instance (renamed (variables_after seen t)) t
instance-followed seen t ts =
    instance-alike (renamed (variables_after_all (variables_after seen t) ts)) (renamed (variables_after seen t)) t seen
    (λ n stands. ap Variable (place_in-variables_after_all ts (variables_after seen t) n stands))

-- a list cell: its head, and what follows behind it
pub text_after-cell : (seen : List ℕ) (place : Place) (t head tail : Tree) → IsCell t head tail →
    text_after seen place t ≡ before_element place ++ text_after seen Alone head ++ text_after (variables_after seen head) Behind tail
unfolding text_in
text_after-cell seen place t head tail cell =
    ap (text_after seen place) cell
    ∙ ap (λ u. before_element place ++ text_in Alone u ++ text_after (variables_after seen head) Behind tail)
    (instance-followed seen head (Last tail))

-- two arguments that are no list cell's
text_in-pair : (place : Place) (name : List ℕ) (t u : Tree) → is_dot name ≡ false →
    text_in place (Compound name (More t (Last u))) ≡ placed place (applied name (text_in Alone t ++ codes "," ++ text_in Alone u))
unfolding text_in
text_in-pair place name t u other =
    ap
    (λ b. if b then before_element place ++ text_in Alone t ++ text_in Behind u
    else placed place (applied name (text_in Alone t ++ codes "," ++ text_in Alone u)))
    other

is_dot-no_cell : (name : List ℕ) (t u : Tree) → IsNoCell (Compound name (More t (Last u))) → is_dot name ≡ false
is_dot-no_cell name t u no_cell = bytes_eq-apart name (codes ".") (λ e. no_cell t u (ap (λ n. Compound n (More t (Last u))) e))

-- the end of a list
pub text_after-empty_list : (seen : List ℕ) (t : Tree) → IsEmptyList t → text_after seen Behind t ≡ codes "]"
unfolding text_in
text_after-empty_list seen t empty = ap (text_after seen Behind) empty

-- a tail that is no list
pub text_after-tail : (seen : List ℕ) (t : Tree) → (IsEmptyList t → ⊥) → IsNoCell t →
    text_after seen Behind t ≡ codes "|" ++ text_after seen Alone t ++ codes "]"
unfolding text_in
text_after-tail seen (Variable n) some no_cell = refl
text_after-tail seen (Atomic name) some no_cell =
    let other_name : is_nil name ≡ false = bytes_eq-apart name (codes "[]") (λ e. some (ap Atomic e)) in
    let behind : text_in Behind (Atomic name) ≡ placed Behind (name_text name) =
    ap (λ b. if b then empty_list Behind else placed Behind (name_text name)) other_name in
    let alone : text_in Alone (Atomic name) ≡ name_text name =
    ap (λ b. if b then empty_list Alone else placed Alone (name_text name)) other_name in
    behind ∙ ap (placed Behind) (sym alone)
text_after-tail seen (Number n) some no_cell = refl
text_after-tail seen (Compound name (Last t)) some no_cell = refl
text_after-tail seen (Compound name (More t (Last u))) some no_cell =
    let rename = instance (renamed (variables_after_all seen (More t (Last u)))) in
    let other_name = is_dot-no_cell name t u no_cell in
    text_in-pair Behind name (rename t) (rename u) other_name
    ∙ ap (placed Behind) (sym (text_in-pair Alone name (rename t) (rename u) other_name))
text_after-tail seen (Compound name (More t (More u ts))) some no_cell = refl

-- a compound that is no list cell: its name, and its arguments in brackets
pub text_after-Compound : (seen name : List ℕ) (args : Trees) → IsNoCell (Compound name args) →
    text_after seen Alone (Compound name args) ≡ applied name (texts_after seen args)
unfolding text_in
text_after-Compound seen name (Last t) no_cell = refl
text_after-Compound seen name (More t (Last u)) no_cell =
    let rename = instance (renamed (variables_after_all seen (More t (Last u)))) in
    text_in-pair Alone name (rename t) (rename u) (is_dot-no_cell name t u no_cell)
text_after-Compound seen name (More t (More u ts)) no_cell = refl

-- the texts of terms, with a separator before each: this one before the first, and then commas
abbrev pub separated : List ℕ → ℕ → List Term → List ℕ
separated seen separator [] = []
separated seen separator (t ∷ ts) =
    separator ∷ text_after seen Alone (tree_of t) ++ separated (variables_after seen (tree_of t)) 44 ts

pub separated-texts_after : (seen : List ℕ) (separator : ℕ) (ts : List Term) → 0 < length ts →
    separated seen separator ts ≡ separator ∷ texts_after seen (trees_of ts)
unfolding text_in texts_of
separated-texts_after seen separator [] some = absurd (omega arith)
separated-texts_after seen separator (t ∷ []) some = ap (λ text. separator ∷ text) (append-nil (text_after seen Alone (tree_of t)))
separated-texts_after seen separator (t ∷ u ∷ ts) some =
    let now = variables_after seen (tree_of t) in
    let first : text_after seen Alone (tree_of t) ≡ text_in Alone (instance (renamed (variables_after_all now (trees_of (u ∷ ts)))) (tree_of t)) =
    ap (text_in Alone) (sym (instance-followed seen (tree_of t) (trees_of (u ∷ ts)))) in
    let rest = separated-texts_after now 44 (u ∷ ts) (omega arith) in
    let head = text_in Alone (instance (renamed (variables_after_all now (trees_of (u ∷ ts)))) (tree_of t)) in
    ap₂ (λ a b. separator ∷ a ++ b) first rest
    ∙ ap (λ l. separator ∷ l) (sym (append_assoc head (codes ",") (texts_after now (trees_of (u ∷ ts)))))
