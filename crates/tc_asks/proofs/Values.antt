-- Under equations of templates and tuples each variable has a value or has none.
use Rattle.std.proofs.Common.{◌≡◌, ◌<◌, ◌⊎◌, inl, inr, ℕ, suc, IsTrue, List, [], ◌∷◌, ◌++◌, Option, Some, None, Contains, length, map, get_or, set, All, refl, sym, ◌∙◌, subst, arith}
use Rattle.std.specs.List.{range_with_len, slice_get}
use Rattle.std.proofs.lemmas.Bool.{cases_lt}
use Rattle.std.proofs.lemmas.List.{get_or-set_other, get_or-set_same, length-set}
use Rattle.std.proofs.lemmas.List.Elements.{All-contains, All-cons, All-nil, All-push, All-set}
use Rattle.std.proofs.lemmas.List.FromFn.{get_or-map-range_with_len, length-map-range_with_len}
use Rattle.std.proofs.lemmas.Option.{get_or_from_slice_get, slice_get_within}
use Rattle.tc_term.specs.Tree.{Tree, Variable, Atomic, IsTuple, is_ground}
use Rattle.tc_term.specs.Variables.{place_in, variables}
use Rattle.tc_term.specs.Equations.{Equation, HasValue, Solvable, Solves, at, under}
use Rattle.tc_term.proofs.Instances.{instance-ground}
use Rattle.tc_term.proofs.Numbered.{instance-alike}
use Rattle.tc_term.proofs.Places.{Stands, get_or-place_in}
use Rattle.tc_unify.proofs.Bindings.{bound_variable}
use Rattle.tc_desk.specs.Asks.{AreValues}

-- the variable has this value, or none
abbrev pub IsValueOf : ℕ → List Equation → ℕ → Option Tree → Type 0
IsValueOf vars es i (Some v) = HasValue vars es (Variable i) v
IsValueOf vars es i None = (v : Tree) → HasValue vars es (Variable i) v → ⊥

-- values that are found one by one
listed : (vars : ℕ) (es : List Equation) → ((i : ℕ) → (o : Option Tree) × (i < vars → IsValueOf vars es i o)) →
    (values : List (Option Tree)) × AreValues vars es values
listed vars es value =
    let f : ℕ → Option Tree = λ i. (value i).0 in
    let values = map f (range_with_len 0 vars) in
    let whole : length values ≡ vars = length-map-range_with_len f 0 vars in
    let found : (n : ℕ) (o : Option Tree) → slice_get values n ≡ Some o → IsValueOf vars es n o =
    λ n o at.
    let within : n < vars = omega (arith, whole, slice_get_within values n o at) in
    subst (IsValueOf vars es n)
    (sym (get_or-map-range_with_len f 0 vars n n None within (omega arith)) ∙ get_or_from_slice_get values n o None at)
    ((value n).1 within) in
    (values, record { whole = whole; some = λ n v. found n (Some v); none = λ n. found n None })

-- where nothing solves the equations, no variable has a value
pub unsolvable_values : (vars : ℕ) (es : List Equation) → (Solvable vars es → ⊥) → (values : List (Option Tree)) × AreValues vars es values
unsolvable_values vars es never = listed vars es (λ i. (None, λ within v value. never value.solvable))

-- the variable stands on the left side of an equation, or of none
told_or_not : (es : List Equation) (i : ℕ) →
    ((e : Equation) × Contains es e × Stands (variables e.0) i) ⊎ All (λ e. Stands (variables e.0) i → ⊥) es
told_or_not [] i = inr (All-nil (λ (e : Equation). Stands (variables e.0) i → ⊥))
told_or_not (e ∷ es) i =
    elim (cases_lt (place_in (variables e.0) i) (length (variables e.0))) [
      | inl stands ↦ inl (e, (0, omega arith, refl), stands)
      | inr past ↦ elim (told_or_not es i) [
        | inl (d, (k, inside, there), stands) ↦ inl (d, (suc k, omega (arith, inside), there), stands)
        | inr never ↦ inr (All-cons (λ (e : Equation). Stands (variables e.0) i → ⊥) e es (λ stands. omega (arith, stands, past)) never)
      ]
    ]

module _ (vars : ℕ) (es : List Equation) (tuples : All (λ e. IsTuple e.1) es) (v : List Tree) (solves : Solves vars es v) where
  -- an equation that stands there may be told again
  again : (e : Equation) → Contains es e → (w : List Tree) → Solves vars es w → Solves vars (es ++ e ∷ []) w
  again e there w solved = record {
    whole = solved.whole;
    ground = solved.ground;
    equal =
        All-push (λ e. under w e.0 ≡ under w e.1) es e solved.equal
        (All-contains (λ (e : Equation). under w e.0 ≡ under w e.1) es e solved.equal there);
  }

  -- a variable of which something is told
  told_value : (i : ℕ) (e : Equation) → Contains es e → Stands (variables e.0) i → (t : Tree) × HasValue vars es (Variable i) t
  told_value i e there stands =
      let bound =
      bound_variable vars es e.0 e.1 i (All-contains (λ (e : Equation). IsTuple e.1) es e tuples there)
      (place_in (variables e.0) i, stands, get_or-place_in (variables e.0) i i stands)
      (record { valuation = v; solves = again e there v solves }) in (
        bound.0,
        record {
          solvable = record { valuation = v; solves = solves };
          unique = λ w solved. bound.1.unique w (again e there w solved);
          fits = bound.1.fits;
        },
      )

  -- a variable of which nothing is told may be any tuple
  changed : (i : ℕ) (t : Tree) → IsTrue (is_ground t) → All (λ e. Stands (variables e.0) i → ⊥) es → Solves vars es (set v i t)
  changed i t ground never = record {
    whole = length-set v i t ∙ solves.whole;
    ground = All-set (λ u. IsTrue (is_ground u)) v i t ground solves.ground;
    equal = λ k d inside.
        let e = get_or es k d in
        let w = set v i t in
        let right : IsTrue (is_ground e.1) = (tuples k d inside).ground in
        instance-alike (at w) (at v) e.0 [] (λ m stands.
        get_or-set_other v i m t (Atomic []) (λ same. never k d inside (subst (Stands (variables e.0)) same stands)))
        ∙ solves.equal k d inside ∙ instance-ground (at v) e.1 right ∙ sym (instance-ground (at w) e.1 right);
  }

  free_value : (i : ℕ) → i < vars → All (λ e. Stands (variables e.0) i → ⊥) es → (t : Tree) → HasValue vars es (Variable i) t → ⊥
  free_value i within never t value =
      let is : (u : Tree) → IsTrue (is_ground u) → u ≡ t =
      λ u ground.
      sym (get_or-set_same v i u (Atomic []) (omega (arith, within, solves.whole)))
      ∙ value.unique (set v i u) (changed i u ground never) in
      let one : Atomic [] ≡ t = is (Atomic []) refl in
      let other : Atomic (0 ∷ []) ≡ t = is (Atomic (0 ∷ [])) refl in
      absurd (cc)

  pub solvable_values : (values : List (Option Tree)) × AreValues vars es values
  solvable_values = listed vars es (λ i.
      elim (told_or_not es i) [
        | inl (e, there, stands) ↦
            let value = told_value i e there stands in
            (Some value.0, λ within. value.1)
        | inr never ↦ (None, λ within. free_value i within never)
      ])
