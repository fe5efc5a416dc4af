-- The first of a list that has a property is the one that is removed as the first equal to it.
use Rattle.std.proofs.Common.{◌≡◌, ◌++◌, List, [], ◌∷◌, true, false, cond, suc, refl, sym, ap, subst, ◌∙◌, arith}
use Rattle.tc_lists.specs.Firsts.{NoneOf, IsFirst}
use Rattle.tc_term.specs.Tree.{Tree}
use Rattle.tc_term.specs.Same.{same_tree, same_tree-Decides}
use Rattle.tc_model.specs.Tuples.{without_first}

same-itself : (t : Tree) → same_tree t t ≡ true
same-itself t = (same_tree-Decides t t).1 refl

-- a tuple that has the property is another one than a tuple that has not
differs : (P : Tree → Type 0) (t u : Tree) → (P t → ⊥) → P u → same_tree t u ≡ false
differs P t u never has =
    elim (same_tree t u) as (λ b. same_tree t u ≡ b → b ≡ false)
    [ true ↦ λ same. absurd (never (subst P (sym ((same_tree-Decides t u).0 same)) has)) | false ↦ λ other. refl ]
    refl

without-behind : (P : Tree → Type 0) (before behind : List Tree) (u : Tree) → P u → NoneOf P before
    → without_first u (before ++ u ∷ behind) ≡ before ++ behind
without-behind P [] behind u has none =
    ap (λ b. cond b behind (u ∷ without_first u behind)) (same-itself u)
without-behind P (t ∷ before) behind u has none =
    let rest : List Tree = before ++ u ∷ behind in
    let never : P t → ⊥ = none t (0, omega arith, refl) in
    let later : NoneOf P before = λ x inside. none x (suc inside.0, omega (arith, inside.1), inside.2) in
    ap (λ b. cond b rest (t ∷ without_first u rest)) (differs P t u never has)
    ∙ ap (λ ts. t ∷ ts) (without-behind P before behind u has later)

pub without-first : (P : Tree → Type 0) (tuples : List Tree) (u : Tree) (first : IsFirst P tuples u)
    → without_first u tuples ≡ first.before ++ first.behind
without-first P tuples u first =
    ap (without_first u) first.split ∙ without-behind P first.before first.behind u first.has first.none
