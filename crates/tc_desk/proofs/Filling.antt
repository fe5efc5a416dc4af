-- Scripts ask one thing at each place.
use Rattle.std.proofs.Common.{◌≡◌, ℕ, List, get_or, take, slice_get, Option, Some, None, refl, ap, subst, sym, ◌∙◌, arith}
use Rattle.std.proofs.lemmas.List.{same_lists}
use Rattle.std.proofs.lemmas.Option.{slice_get-get_or, same_Some}
use Rattle.tc_term.proofs.Solutions.{HasValue-unique}
use Rattle.tc_term.specs.Equations.{Equation}
use Rattle.tc_term.specs.Tree.{Tree, Variable}
use Rattle.tc_term.specs.TreeView.{tree_of}
use Rattle.tc_term.specs.declared.terms.Term.{Term}
use Rattle.tc_term.proofs.TreeTerms.{term_of, term_of-tree_of}
use Rattle.tc_model.specs.Asks.{primitive_of}
use Rattle.tc_model.specs.Scripts.{Lines}
use Rattle.tc_model.specs.declared.asks.Ask.{Ask}
use Rattle.tc_model.specs.declared.asks.Ask.TheVariants.{Out, In, Rd, Inp, Rdp, No, Nop, SetSpec, GetSpec}
use Rattle.tc_desk.specs.Asks.{ScriptStep, steps_of, equations, AreValues, with_values, IsFilled, IsAsk}
use Rattle.tc_desk.specs.declared.rows.LogResult.{LogResult}

value_at : (vars : ℕ) (es : List Equation) (v w : List (Option Tree)) (k : ℕ) (a b : Option Tree)
    → AreValues vars es v → AreValues vars es w → slice_get v k ≡ Some a → slice_get w k ≡ Some b → a ≡ b
value_at vars es v w k (Some x) (Some y) h i there here =
    ap Some (HasValue-unique vars es (Variable k) x y (h.some k x there) (i.some k y here))
value_at vars es v w k (Some x) None h i there here = absurd (i.none k here x (h.some k x there))
value_at vars es v w k None (Some y) h i there here = absurd (h.none k there y (i.some k y here))
value_at vars es v w k None None h i there here = refl

-- equations leave each variable one value, or none
pub AreValues-unique : (vars : ℕ) (es : List Equation) (v w : List (Option Tree))
    → AreValues vars es v → AreValues vars es w → v ≡ w
AreValues-unique vars es v w h i =
    same_lists v w (h.whole ∙ sym i.whole) (λ k d inside.
    value_at vars es v w k (get_or v k d) (get_or w k d) h i (slice_get-get_or v k d inside)
    (slice_get-get_or w k d (omega (arith, inside, h.whole, i.whole))))

-- the ask with each variable replaced that has a value
abbrev pub filled : List (Option Tree) → Ask → Ask
filled values (Out t) = Out (term_of (with_values values (tree_of t)))
filled values (In t) = In (term_of (with_values values (tree_of t)))
filled values (Rd t) = Rd (term_of (with_values values (tree_of t)))
filled values (Inp t) = Inp (term_of (with_values values (tree_of t)))
filled values (Rdp t) = Rdp (term_of (with_values values (tree_of t)))
filled values (No t) = No (term_of (with_values values (tree_of t)))
filled values (Nop t) = Nop (term_of (with_values values (tree_of t)))
filled values (SetSpec t) = SetSpec (term_of (with_values values (tree_of t)))
filled values GetSpec = GetSpec

term-filled : (u : Term) (tree : Tree) → tree_of u ≡ tree → u ≡ term_of tree
term-filled u tree e = sym (term_of-tree_of u) ∙ ap term_of e

pub IsFilled-filled : (values : List (Option Tree)) (written ask : Ask) → IsFilled values written ask → ask ≡ filled values written
IsFilled-filled values (Out t) (Out u) h = ap Out (term-filled u (with_values values (tree_of t)) h)
IsFilled-filled values (In t) (In u) h = ap In (term-filled u (with_values values (tree_of t)) h)
IsFilled-filled values (Rd t) (Rd u) h = ap Rd (term-filled u (with_values values (tree_of t)) h)
IsFilled-filled values (Inp t) (Inp u) h = ap Inp (term-filled u (with_values values (tree_of t)) h)
IsFilled-filled values (Rdp t) (Rdp u) h = ap Rdp (term-filled u (with_values values (tree_of t)) h)
IsFilled-filled values (No t) (No u) h = ap No (term-filled u (with_values values (tree_of t)) h)
IsFilled-filled values (Nop t) (Nop u) h = ap Nop (term-filled u (with_values values (tree_of t)) h)
IsFilled-filled values (SetSpec t) (SetSpec u) h = ap SetSpec (term-filled u (with_values values (tree_of t)) h)
IsFilled-filled values GetSpec GetSpec h = refl
IsFilled-filled values written ask h = absurd h

filled-primitive : (values : List (Option Tree)) (written : Ask) → primitive_of (filled values written) ≡ primitive_of written
filled-primitive values (Out t) = refl
filled-primitive values (In t) = refl
filled-primitive values (Rd t) = refl
filled-primitive values (Inp t) = refl
filled-primitive values (Rdp t) = refl
filled-primitive values (No t) = refl
filled-primitive values (Nop t) = refl
filled-primitive values (SetSpec t) = refl
filled-primitive values GetSpec = refl

pub one_step : (scripts : List Lines) (k : ℕ) (results : List LogResult) (step other : ScriptStep) (ask asked : Ask)
    → IsAsk scripts k results step ask → IsAsk scripts k results other asked → step ≡ other
one_step scripts k results step other ask asked h i = same_Some step other (sym h.stands ∙ i.stands)

pub one_ask : (scripts : List Lines) (k : ℕ) (results : List LogResult) (step other : ScriptStep) (ask asked : Ask)
    → IsAsk scripts k results step ask → IsAsk scripts k results other asked → ask ≡ asked
one_ask scripts k results step other ask asked h i =
    let same : other ≡ step = sym (one_step scripts k results step other ask asked h i) in
    let es : ScriptStep → List Equation = λ s. equations s.script (take k (steps_of scripts)) results in
    let exact : AreValues step.vars (es step) i.values = subst (λ s. AreValues s.vars (es s) i.values) same i.exact in
    let values : h.values ≡ i.values = AreValues-unique step.vars (es step) h.values i.values h.exact exact in
    IsFilled-filled h.values step.item.ask ask h.filled
    ∙ ap (λ v. filled v step.item.ask) values
    ∙ ap (λ s. filled i.values s.item.ask) (sym same)
    ∙ sym (IsFilled-filled i.values other.item.ask asked i.filled)

pub ask-primitive : (scripts : List Lines) (k : ℕ) (results : List LogResult) (step : ScriptStep) (ask : Ask)
    → IsAsk scripts k results step ask → primitive_of ask ≡ primitive_of step.item.ask
ask-primitive scripts k results step ask h =
    ap primitive_of (IsFilled-filled h.values step.item.ask ask h.filled) ∙ filled-primitive h.values step.item.ask
