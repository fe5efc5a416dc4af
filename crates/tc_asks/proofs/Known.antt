-- What is known of variables, as tuples come.
use Rattle.std.proofs.Common.{◌≡◌, ◌++◌, if◌then◌else◌, ℕ, Bool, true, false, IsTrue, List, [], ◌∷◌, Option, Some, None, All, refl, ap, sym, ◌∙◌, subst}
use Rattle.std.proofs.lemmas.List.Elements.{All-push}
use Rattle.tc_term.specs.Tree.{Tree, IsTuple}
use Rattle.tc_term.specs.Equations.{Equation, Equations, Solvable, with_pair}
use Rattle.tc_term.proofs.Solutions.{Solvable-fewer}
use Rattle.tc_desk.specs.Asks.{AreValues}
use Rattle.tc_asks.specs.Bindings.{AreKnown, IsSolved}
use Rattle.tc_asks.proofs.Values.{solvable_values, unsolvable_values}

-- each variable has a value or has none
pub known_values : (solvable : Bool) (store : Equations) (vars : ℕ) (es : List Equation) → IsSolved store →
    AreKnown vars es (if solvable then Some store else None) → (values : List (Option Tree)) × AreValues vars es values
known_values true store vars es solved known =
    subst (λ (e : Equations). (values : List (Option Tree)) × AreValues e.vars e.pairs values) known
    (solvable_values store.vars store.pairs solved.tuples solved.solvable.valuation solved.solvable.solves)
known_values false store vars es solved known = unsolvable_values vars es known

-- what nothing solves, nothing solves with one equation more
pub known_never : (vars : ℕ) (es : List Equation) (e : Equation) → AreKnown vars es None → AreKnown vars (es ++ e ∷ []) None
known_never vars es e never solvable = never (Solvable-fewer vars es (e ∷ []) solvable)

-- an equation was added, or refused
pub solved_told : (added : Bool) (old new : Equations) (s t : Tree) → IsSolved old → IsTuple t → Solvable new.vars new.pairs →
    (IsTrue added → new ≡ with_pair old s t) → (added ≡ false → new ≡ old) → IsSolved new
solved_told true old new s t solved tuple solvable is unchanged = record {
  solvable = solvable;
  tuples =
      subst (λ (e : Equations). All (λ (x : Equation). IsTuple x.1) e.pairs) (sym (is refl))
      (All-push (λ (x : Equation). IsTuple x.1) old.pairs (s, t) solved.tuples tuple);
}
solved_told false old new s t solved tuple solvable is unchanged = record {
  solvable = solvable;
  tuples = subst (λ (e : Equations). All (λ (x : Equation). IsTuple x.1) e.pairs) (sym (unchanged refl)) solved.tuples;
}

pub known_told : (added : Bool) (old new : Equations) (s t : Tree) (vars : ℕ) (es : List Equation) → (IsTrue added → new ≡ with_pair old s t) →
    (added ≡ false → Solvable old.vars (old.pairs ++ (s, t) ∷ []) → ⊥) → AreKnown vars es (Some old) →
    AreKnown vars (es ++ (s, t) ∷ []) (if added then Some new else None)
known_told true old new s t vars es is never known = is refl ∙ ap (λ (e : Equations). with_pair e s t) known
known_told false old new s t vars es is never known =
    subst (λ (e : Equations). Solvable e.vars (e.pairs ++ (s, t) ∷ []) → ⊥) known (never refl)
