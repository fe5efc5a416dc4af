-- Equations and the valuations that solve them.
use Rattle.std.proofs.Common.{◌≡◌, ◌≤◌, ◌++◌, ℕ, IsTrue, List, [], ◌∷◌, length, refl, sym, ◌∙◌, subst, length-append, arith}
use Rattle.std.proofs.Math.Seq.{get_or-append_seam}
use Rattle.std.proofs.lemmas.List.{get_or_append_left}
use Rattle.std.proofs.lemmas.List.Elements.{All-push}
use Rattle.tc_term.proofs.Instances.{instance-ground, is_ground-instance}
use Rattle.tc_term.specs.Equations.{at, under, Equation, Solves, Solvable, HasValue, Matches}
use Rattle.tc_term.specs.Tree.{Tree, Atomic, is_ground, IsTuple}
use Rattle.tc_term.specs.Variables.{var_bound}

-- under a valuation of all its variables a term is ground
pub is_ground-under : (n : ℕ) (es : List Equation) (v : List Tree) (t : Tree) →
    Solves n es v → var_bound t ≤ n → IsTrue (is_ground (under v t))
is_ground-under n es v t solves below =
    is_ground-instance (at v) t (λ k inside. solves.ground k (Atomic []) (omega (arith, inside, below, solves.whole)))

-- a term has one value at most
pub HasValue-unique : (n : ℕ) (es : List Equation) (t v w : Tree) → HasValue n es t v → HasValue n es t w → v ≡ w
HasValue-unique n es t v w one other =
    sym (one.unique one.solvable.valuation one.solvable.solves) ∙ other.unique one.solvable.valuation one.solvable.solves

-- a value is a tuple
pub IsTuple-value : (n : ℕ) (es : List Equation) (t v : Tree) → var_bound t ≤ n → HasValue n es t v → IsTuple v
IsTuple-value n es t v below value = record {
  ground = subst (λ u. IsTrue (is_ground u)) (value.unique value.solvable.valuation value.solvable.solves)
      (is_ground-under n es value.solvable.valuation t value.solvable.solves below);
  fits = value.fits;
}

-- what solves more equations solves fewer
pub Solves-fewer : (n : ℕ) (es fs : List Equation) (v : List Tree) → Solves n (es ++ fs) v → Solves n es v
Solves-fewer n es fs v solves = record {
  whole = solves.whole;
  ground = solves.ground;
  equal = λ k d inside.
      subst (λ e. under v e.0 ≡ under v e.1) (get_or_append_left es fs d k inside)
      (solves.equal k d (omega (arith, inside, length-append es fs)));
}

pub Solvable-fewer : (n : ℕ) (es fs : List Equation) → Solvable n (es ++ fs) → Solvable n es
Solvable-fewer n es fs solvable = record {
  valuation = solvable.valuation;
  solves = Solves-fewer n es fs solvable.valuation solvable.solves;
}

-- a ground template matches itself alone
pub Matches-ground : (n : ℕ) (es : List Equation) (s t : Tree) → IsTrue (is_ground s) → IsTrue (is_ground t) → Matches n es s t → s ≡ t
Matches-ground n es s t ground ground' match =
    let v = match.valuation in
    let last : under v s ≡ under v t =
    subst (λ e. under v e.0 ≡ under v e.1) (get_or-append_seam es (s, t) [] (s, t))
    (match.solves.equal (length es) (s, t) (omega (arith, length-append es ((s, t) ∷ [])))) in
    sym (instance-ground (at v) s ground) ∙ last ∙ instance-ground (at v) t ground'

-- a term matches itself where the equations are solvable
pub Matches-same : (n : ℕ) (es : List Equation) (t : Tree) → Solvable n es → Matches n es t t
Matches-same n es t solvable =
    let v = solvable.valuation in
    record {
      valuation = v;
      solves = record {
        whole = solvable.solves.whole;
        ground = solvable.solves.ground;
        equal = All-push (λ e. under v e.0 ≡ under v e.1) es (t, t) solvable.solves.equal refl;
      };
    }
