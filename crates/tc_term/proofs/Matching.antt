-- A template matches the same tuples, however its variables are numbered.
use Rattle.std.proofs.Common.{◌≡◌, ◌<◌, ◌≤◌, inl, inr, ℕ, IsTrue, List, [], ◌∷◌, length, map, get_or, All, ap, sym, ◌∙◌, arith}
use Rattle.std.proofs.lemmas.Bool.{cases_lt}
use Rattle.std.proofs.lemmas.List.{get_or_past}
use Rattle.std.proofs.lemmas.List.Elements.{All-cons, All-nil}
use Rattle.std.proofs.lemmas.List.FromFn.{get_or-map-range_with_len, length-map-range_with_len}
use Rattle.std.specs.List.{range_with_len}
use Rattle.tc_term.proofs.Instances.{instance-ground, instance-instance}
use Rattle.tc_term.proofs.Numbered.{below_var_bound, instance-alike}
use Rattle.tc_term.proofs.Places.{get_or-place_in}
use Rattle.tc_term.specs.Equations.{at, under, Solves, Matches}
use Rattle.tc_term.specs.Tree.{Tree, Variable, Atomic, is_ground}
use Rattle.tc_term.specs.Variables.{place_in, var_bound, variables, renumbered}

pub is_ground-at : (v : List Tree) (i : ℕ) → All (λ t. IsTrue (is_ground t)) v → IsTrue (is_ground (at v i))
is_ground-at v i ground =
    elim (cases_lt i (length v)) [
      | inl inside ↦ ground i (Atomic []) inside
      | inr past ↦ ap is_ground (get_or_past v i (Atomic []) past)
    ]

-- the first n trees of a function
abbrev pub valuation_of : (ℕ → Tree) → ℕ → List Tree
valuation_of f n = map f (range_with_len 0 n)

pub at-valuation_of : (f : ℕ → Tree) (n i : ℕ) → i < n → at (valuation_of f n) i ≡ f i
at-valuation_of f n i inside = get_or-map-range_with_len f 0 n i i (Atomic []) inside (omega arith)

-- one equation whose right side is ground
pub Solves-one : (f : ℕ → Tree) (n : ℕ) (t u : Tree) → ((i : ℕ) → IsTrue (is_ground (f i))) → IsTrue (is_ground u) →
    under (valuation_of f n) t ≡ u → Solves n ((t, u) ∷ []) (valuation_of f n)
Solves-one f n t u ground_each ground equal =
    let v = valuation_of f n in
    record {
      whole = length-map-range_with_len f 0 n;
      ground = λ k d inside.
          let there : k < n = omega (arith, inside, length-map-range_with_len f 0 n) in
          rw (get_or-map-range_with_len f 0 n k k d there (omega arith)) (ground_each k);
      equal =
          All-cons (λ e. under v e.0 ≡ under v e.1) (t, u) [] (equal ∙ sym (instance-ground (at v) u ground))
          (All-nil (λ e. under v e.0 ≡ under v e.1));
    }

pub Matches-one : (n : ℕ) (t u : Tree) (v : List Tree) → IsTrue (is_ground u) → Solves n ((t, u) ∷ []) v → under v t ≡ u
Matches-one n t u v ground solves =
    solves.equal 0 (t, u) (omega arith) ∙ instance-ground (at v) u ground

pub Matches-renumbered : (n m : ℕ) (t u : Tree) → length (variables t) ≤ m → IsTrue (is_ground u) →
    Matches n [] t u → Matches m [] (renumbered t) u
Matches-renumbered n m t u few ground match =
    let v = match.valuation in
    let vs = variables t in
    let f : ℕ → Tree = λ k. at v (get_or vs k 0) in
    let same : under (valuation_of f m) (renumbered t) ≡ under v t =
    instance-instance (at (valuation_of f m)) (λ n. Variable (place_in vs n)) t
    ∙ instance-alike (λ n. at (valuation_of f m) (place_in vs n)) (at v) t [] (λ i stands.
    at-valuation_of f m (place_in vs i) (omega (arith, stands, few)) ∙ ap (at v) (get_or-place_in vs i 0 stands)) in
    record {
      valuation = valuation_of f m;
      solves = Solves-one f m (renumbered t) u (λ k. is_ground-at v (get_or vs k 0) match.solves.ground) ground
          (same ∙ Matches-one n t u v ground match.solves);
    }

pub Matches-as_written : (n m : ℕ) (t u : Tree) → var_bound t ≤ n → IsTrue (is_ground u) → Matches m [] (renumbered t) u → Matches n [] t u
Matches-as_written n m t u below ground match =
    let w = match.valuation in
    let vs = variables t in
    let f : ℕ → Tree = λ i. at w (place_in vs i) in
    let same : under (valuation_of f n) t ≡ under w (renumbered t) =
    instance-alike (at (valuation_of f n)) f t [] (λ i stands.
    elim (below_var_bound t [] i stands) [
      | inl absent ↦ absurd (omega (arith, absent))
      | inr inside ↦ at-valuation_of f n i (omega (arith, inside, below))
    ])
    ∙ sym (instance-instance (at w) (λ n. Variable (place_in vs n)) t) in
    record {
      valuation = valuation_of f n;
      solves = Solves-one f n t u (λ i. is_ground-at w (place_in vs i) match.solves.ground) ground
          (same ∙ Matches-one m (renumbered t) u w ground match.solves);
    }
