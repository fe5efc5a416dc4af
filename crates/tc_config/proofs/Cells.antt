-- Lists of lines, cell by cell.
use Rattle.std.proofs.Common.{◌≡◌, ℕ, ℤ, Bool, true, not, List, [], ◌∷◌, ◌++◌, codes, refl, sym, ap, ap₂, ◌∙◌}
use Rattle.std.specs.Str.{bytes_eq}
use Rattle.std.proofs.lemmas.Bool.{not-true}
use Rattle.tc_lists.proofs.Bools.{bytes_eq-false}
use Rattle.tc_term.specs.Tree.{Tree, Trees, Variable, Atomic, Number, Compound, Last, More}
use Rattle.tc_model.specs.Reactions.{of_two}
use Rattle.tc_model.specs.Lines.{line_term}
use Rattle.tc_config.specs.Forms.{lines_term}
use Rattle.tc_model.specs.declared.lines.Line.{Line}

-- by the test that was made of it
pub differ : (x y a b : List ℕ) (r : Bool) → x ≡ a → y ≡ b → r ≡ not (bytes_eq x y) → r ≡ true
    → not (bytes_eq a b) ≡ true
differ x y a b r left right told so = sym (ap₂ (λ v w. not (bytes_eq v w)) left right) ∙ sym told ∙ so

-- a list is its end or a cell
pub end_name : (name : List ℕ) (ls : List Line) → not (bytes_eq name (codes "[]")) ≡ true → Atomic name ≡ lines_term ls → ⊥
end_name name [] other e = bytes_eq-false name (codes "[]") (not-true (bytes_eq name (codes "[]")) other) (cc)
end_name name (l ∷ ls) other e = cc

pub cell_name : (name : List ℕ) (args : Trees) (ls : List Line) → not (bytes_eq name (codes ".")) ≡ true
    → Compound name args ≡ lines_term ls → ⊥
cell_name name args [] other e = cc
cell_name name args (l ∷ ls) other e = bytes_eq-false name (codes ".") (not-true (bytes_eq name (codes ".")) other) (cc)

pub cell_two : (name : List ℕ) (args : Trees) (ls : List Line) → ((a b : Tree) → args ≡ More a (Last b) → ⊥)
    → Compound name args ≡ lines_term ls → ⊥
cell_two name args [] none e = cc
cell_two name args (l ∷ ls) none e = none (line_term l) (lines_term ls) (cc)

pub no_variable : (n : ℕ) (ls : List Line) → Variable n ≡ lines_term ls → ⊥
no_variable n [] e = cc
no_variable n (l ∷ ls) e = cc

pub no_integer : (n : ℤ) (ls : List Line) → Number n ≡ lines_term ls → ⊥
no_integer n [] e = cc
no_integer n (l ∷ ls) e = cc

-- so many lines, and then the rest of a list
abbrev pub lines_onto : List Line → Tree → Tree
lines_onto [] rest = rest
lines_onto (l ∷ ls) rest = of_two (codes ".") (line_term l) (lines_onto ls rest)

pub lines_onto-push : (ls : List Line) (l : Line) (rest : Tree)
    → lines_onto (ls ++ l ∷ []) rest ≡ lines_onto ls (of_two (codes ".") (line_term l) rest)
lines_onto-push [] l rest = refl
lines_onto-push (k ∷ ls) l rest = ap (of_two (codes ".") (line_term k)) (lines_onto-push ls l rest)

pub lines_onto-end : (ls : List Line) → lines_onto ls (Atomic (codes "[]")) ≡ lines_term ls
lines_onto-end [] = refl
lines_onto-end (l ∷ ls) = ap (of_two (codes ".") (line_term l)) (lines_onto-end ls)

same_tail : (a b : List ℕ) (s t u v : Tree) → of_two a s u ≡ of_two b t v → u ≡ v
same_tail a b s t u v e = cc

-- what stands behind lines of a list is a list
pub rest_is_list : (ls ms : List Line) (rest : Tree) → lines_onto ls rest ≡ lines_term ms
    → (ns : List Line) × (rest ≡ lines_term ns)
rest_is_list [] ms rest e = (ms, e)
rest_is_list (l ∷ ls) [] rest e = absurd (cc)
rest_is_list (l ∷ ls) (m ∷ ms) rest e =
    rest_is_list ls ms rest
    (same_tail (codes ".") (codes ".") (line_term l) (line_term m) (lines_onto ls rest) (lines_term ms) e)

-- and its first element is a line
pub first_is_line : (head tail : Tree) (ns : List Line) → of_two (codes ".") head tail ≡ lines_term ns
    → (l : Line) × (head ≡ line_term l)
first_is_line head tail [] e = absurd (cc)
first_is_line head tail (n ∷ ns) e = (n, cc)
