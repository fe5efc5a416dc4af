-- A term is written as one form at most.
use Rattle.std.proofs.Common.{◌≡◌, ℕ, pos, List, [], ◌∷◌, Some, None, if◌then◌else◌, codes, refl, ap, sym, ◌∙◌}
use Rattle.std.specs.Str.{bytes_eq}
use Rattle.tc_term.specs.Tree.{Tree, Number, Compound, Last, More}
use Rattle.tc_term.proofs.TreeTerms.{term_of, term_of-tree_of}
use Rattle.tc_model.proofs.Written.{line_at, line_at-term, name_at, primitive_at, primitive_at-name}
use Rattle.tc_config.specs.Forms.{IsFormOf, form_term, lines_term}
use Rattle.tc_config.specs.declared.forms.Form.{Form}
use Rattle.tc_config.specs.declared.forms.Form.TheVariants.{Centre, Tuple, Spec, Role, Grant, Agent, Script}
use Rattle.tc_model.specs.declared.lines.Line.{Line}

-- the number of a tree
abbrev number_at : Tree → ℕ
number_at (Number (pos n)) = n
number_at _ = 0

-- the lines of a tree
abbrev lines_at : Tree → List Line
lines_at (Compound name (More head (Last tail))) = line_at head ∷ lines_at tail
lines_at _ = []

lines_at-term : (ls : List Line) → lines_at (lines_term ls) ≡ ls
lines_at-term [] = refl
lines_at-term (l ∷ ls) =
    ap (λ k. k ∷ lines_at (lines_term ls)) (line_at-term l) ∙ ap (λ ks. l ∷ ks) (lines_at-term ls)

-- the form of a tree
abbrev form_of_one : List ℕ → List ℕ → Form
form_of_one name a = if bytes_eq name (codes "centre") then Centre a None else Role a

abbrev form_of_two : List ℕ → List ℕ → Tree → Form
form_of_two name a t =
    if bytes_eq name (codes "centre") then Centre a (Some (number_at t))
    else (if bytes_eq name (codes "tuple") then Tuple a (term_of t)
    else (if bytes_eq name (codes "spec") then Spec a (term_of t)
    else (if bytes_eq name (codes "agent") then Agent a (name_at t) else Script a (lines_at t))))

abbrev form_at : Tree → Form
form_at (Compound name (Last a)) = form_of_one name (name_at a)
form_at (Compound name (More a (Last t))) = form_of_two name (name_at a) t
form_at (Compound name (More a (More b (Last c)))) = Grant (name_at a) (name_at b) (primitive_at (name_at c))
form_at _ = Role []

form_at-term : (x : Form) → form_at (form_term x) ≡ x
form_at-term (Centre c None) = refl
form_at-term (Centre c (Some b)) = refl
form_at-term (Tuple c t) = ap (Tuple c) (term_of-tree_of t)
form_at-term (Spec c t) = ap (Spec c) (term_of-tree_of t)
form_at-term (Role r) = refl
form_at-term (Grant r c p) = ap (Grant r c) (primitive_at-name p)
form_at-term (Agent a r) = refl
form_at-term (Script a lines) = ap (Script a) (lines_at-term lines)

pub one_form : (t : Tree) (x y : Form) → IsFormOf x t → IsFormOf y t → x ≡ y
one_form t x y p q = sym (form_at-term x) ∙ ap form_at (sym p.is ∙ q.is) ∙ form_at-term y
