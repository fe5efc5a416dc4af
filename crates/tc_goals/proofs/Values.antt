-- What the answer of a store says of a value.
use Rattle.std.proofs.Common.{◌≡◌, ℤ, refl, sym, ap, subst, ◌∙◌, Some, None, IfSome, IfNone, Option, [], ◌∷◌, ◌++◌}
use Rattle.tc_term.specs.Tree.{Tree, Number}
use Rattle.tc_term.specs.Variables.{raised}
use Rattle.tc_term.specs.Equations.{Equations, HasValue, Solvable}
use Rattle.tc_term.specs.Arithmetic.{evaluated}
use Rattle.tc_term.proofs.Instances.{raised-zero}
use Rattle.tc_term.proofs.Solutions.{HasValue-unique}
use Rattle.tc_goals.specs.Moments.{EvaluatesIn, IsNumberOf}

pub value_is : (es : Equations) (t v : Tree) (o : Option Tree) → o ≡ Some v
    → IfSome o (HasValue es.vars es.pairs (raised 0 t)) → HasValue es.vars es.pairs t v
value_is es t v o same h =
    subst (λ u. HasValue es.vars es.pairs u v) (raised-zero t)
    (subst (λ o. IfSome o (HasValue es.vars es.pairs (raised 0 t))) same h)

pub no_value : (es : Equations) (t : Tree) (o : Option Tree)
    → IfNone o ((v : Tree) → HasValue es.vars es.pairs (raised 0 t) v → ⊥) → ((v : Tree) → o ≡ Some v → ⊥)
    → (v : Tree) → HasValue es.vars es.pairs t v → ⊥
no_value es t None h none v has = h v (subst (λ u. HasValue es.vars es.pairs u v) (sym (raised-zero t)) has)
no_value es t (Some x) h none v has = absurd (none x refl)

pub evaluates-unique : (es : Equations) (t : Tree) (i j : ℤ) → EvaluatesIn es t i → EvaluatesIn es t j → i ≡ j
evaluates-unique es t i j h k =
    let same = HasValue-unique es.vars es.pairs t h.value k.value h.is k.is in
    let some : Some i ≡ Some j = sym h.evaluates ∙ ap evaluated same ∙ k.evaluates in
    cc

-- the number of a value
pub number_is : (es : Equations) (t v : Tree) (n : Option ℤ) → HasValue es.vars es.pairs t v → n ≡ evaluated v → IsNumberOf es t n
number_is es t v (Some i) has e = record { value = v; is = has; evaluates = sym e }
number_is es t v None has e = λ i h.
    let same = HasValue-unique es.vars es.pairs t v h.value has h.is in
    let some : None ≡ Some i = e ∙ ap evaluated same ∙ h.evaluates in
    absurd cc

-- there is no number
pub no_number : (es : Equations) (t : Tree) (o : Option ℤ) → IsNumberOf es t o → ((i : ℤ) → o ≡ Some i → ⊥)
    → (i : ℤ) → EvaluatesIn es t i → ⊥
no_number es t None h none i has = h i has
no_number es t (Some j) h none i has = absurd (none j refl)

pub number_some : (es : Equations) (t : Tree) (o : Option ℤ) (i : ℤ) → o ≡ Some i → IsNumberOf es t o → EvaluatesIn es t i
number_some es t o i same h = subst (IsNumberOf es t) same h

-- what can't be equal to one number can't be to another that is the same
pub refused_number : (es : Equations) (s t : Tree) (i : ℤ) → EvaluatesIn es t i
    → (Solvable es.vars (es.pairs ++ (s, Number i) ∷ []) → ⊥)
    → (j : ℤ) → EvaluatesIn es t j → Solvable es.vars (es.pairs ++ (s, Number j) ∷ []) → ⊥
refused_number es s t i has never j other solvable =
    never (subst (λ k. Solvable es.vars (es.pairs ++ (s, Number k) ∷ [])) (sym (evaluates-unique es t i j has other)) solvable)
