-- A match gives each variable of its template a value, which is a part of the tuple.
use Rattle.std.proofs.Common.{◌≡◌, ◌≤◌, ◌<◌, ◌⊎◌, inl, inr, ℕ, List, [], ◌∷◌, ◌++◌, length, sym, ap, ◌∙◌, subst, arith, length-append}
use Rattle.std.specs.Prelude.{Contains}
use Rattle.std.proofs.Math.Seq.{get_or-append_seam}
use Rattle.tc_term.specs.Tree.{Tree, Variable, Atomic, Number, Compound, Trees, Last, More, nodes, nodes_of_all, depth, depth_of_all, name_bytes, name_bytes_of_all, HasIntegers, HaveIntegers, IsTuple}
use Rattle.tc_term.specs.Equations.{at, under, Equation, Solves, HasValue, Matches}
use Rattle.tc_term.specs.Variables.{instance, instances, variables, variables_after, variables_after_all, var_bound, IsPattern}
use Rattle.tc_term.proofs.Instances.{instance-ground}
use Rattle.tc_term.proofs.Places.{Stands, Stands-at, Stands-range, Stands-with_number_back}
use Rattle.tc_term.proofs.Numbered.{var_bound-pattern}

-- the first tree is no larger than the second, by each measure
record IsNoLarger (s t : Tree) : Type 0 where
  nodes : nodes s ≤ nodes t
  depth : depth s ≤ depth t
  name_bytes : name_bytes s ≤ name_bytes t
  integers : HasIntegers t → HasIntegers s

-- the same of arguments
record AreNoLess (s : Tree) (ts : Trees) : Type 0 where
  nodes : nodes s ≤ nodes_of_all ts
  depth : depth s ≤ depth_of_all ts
  name_bytes : name_bytes s ≤ name_bytes_of_all ts
  integers : HaveIntegers ts → HasIntegers s

-- what stands for a variable is a part of the term
mutual
  part_of : (f : ℕ → Tree) (t : Tree) (seen : List ℕ) (i : ℕ) → Stands (variables_after seen t) i → Stands seen i ⊎ IsNoLarger (f i) (instance f t)
  part_of f (Variable n) seen i stands =
      elim (Stands-with_number_back seen i n stands) [
        | inl old ↦ inl old
        | inr same ↦ inr (subst (λ j. IsNoLarger (f i) (f j)) same (record { nodes = omega arith; depth = omega arith; name_bytes = omega arith; integers = λ h. h }))
      ]
  part_of f (Atomic name) seen i stands = inl stands
  part_of f (Number n) seen i stands = inl stands
  part_of f (Compound name args) seen i stands =
      elim (part_of_all f args seen i stands) [
        | inl old ↦ inl old
        | inr less ↦
            inr (record {
              nodes = omega (arith, less.nodes);
              depth = omega (arith, less.depth);
              name_bytes = omega (arith, less.name_bytes);
              integers = less.integers;
            })
      ]

  part_of_all : (f : ℕ → Tree) (ts : Trees) (seen : List ℕ) (i : ℕ) → Stands (variables_after_all seen ts) i → Stands seen i ⊎ AreNoLess (f i) (instances f ts)
  part_of_all f (Last t) seen i stands =
      elim (part_of f t seen i stands) [
        | inl old ↦ inl old
        | inr less ↦ inr (record { nodes = less.nodes; depth = less.depth; name_bytes = less.name_bytes; integers = less.integers })
      ]
  part_of_all f (More t ts) seen i stands =
      elim (part_of_all f ts (variables_after seen t) i stands) [
        | inl among ↦
            elim (part_of f t seen i among) [
              | inl old ↦ inl old
              | inr less ↦
                  inr (record {
                    nodes = omega (arith, less.nodes);
                    depth = omega (arith, less.depth);
                    name_bytes = omega (arith, less.name_bytes);
                    integers = λ h. less.integers h.0;
                  })
            ]
        | inr less ↦
            inr (record {
              nodes = omega (arith, less.nodes);
              depth = omega (arith, less.depth);
              name_bytes = omega (arith, less.name_bytes);
              integers = λ h. less.integers h.1;
            })
      ]

-- where two replacements make one term, they agree on its variables
mutual
  agree_on : (f g : ℕ → Tree) (t : Tree) (seen : List ℕ) (i : ℕ) → Stands (variables_after seen t) i → instance f t ≡ instance g t → Stands seen i ⊎ (f i ≡ g i)
  agree_on f g (Variable n) seen i stands e =
      elim (Stands-with_number_back seen i n stands) [
        | inl old ↦ inl old
        | inr same ↦ inr (ap f same ∙ e ∙ ap g (sym same))
      ]
  agree_on f g (Atomic name) seen i stands e = inl stands
  agree_on f g (Number n) seen i stands e = inl stands
  agree_on f g (Compound name args) seen i stands e =
      let each : instances f args ≡ instances g args = cc in
      agree_on_all f g args seen i stands each

  agree_on_all : (f g : ℕ → Tree) (ts : Trees) (seen : List ℕ) (i : ℕ) → Stands (variables_after_all seen ts) i → instances f ts ≡ instances g ts → Stands seen i ⊎ (f i ≡ g i)
  agree_on_all f g (Last t) seen i stands e =
      let one : instance f t ≡ instance g t = cc in
      agree_on f g t seen i stands one
  agree_on_all f g (More t ts) seen i stands e =
      let first : instance f t ≡ instance g t = cc in
      let rest : instances f ts ≡ instances g ts = cc in
      elim (agree_on_all f g ts (variables_after seen t) i stands rest) [
        | inl among ↦ agree_on f g t seen i among first
        | inr same ↦ inr same
      ]

Stands-contained : (ms : List ℕ) (i : ℕ) → Contains ms i → Stands ms i
Stands-contained ms i h = subst (Stands ms) h.2 (Stands-at ms h.0 i h.1)

-- a solution makes the tuple of the template
makes_tuple : (n : ℕ) (es : List Equation) (t u : Tree) (v : List Tree) → IsTuple u → Solves n (es ++ (t, u) ∷ []) v → under v t ≡ u
makes_tuple n es t u v tuple solves =
    subst (λ e. under v e.0 ≡ under v e.1) (get_or-append_seam es (t, u) [] (t, u))
    (solves.equal (length es) (t, u) (omega (arith, length-append es ((t, u) ∷ []))))
    ∙ instance-ground (at v) u tuple.ground

bound : (n : ℕ) (es : List Equation) (t u : Tree) (i : ℕ) → IsTuple u → Stands (variables t) i → Matches n es t u
    → (value : Tree) × HasValue n (es ++ (t, u) ∷ []) (Variable i) value
bound n es t u i tuple stands match =
    let v0 = match.valuation in
    let made = makes_tuple n es t u v0 tuple match.solves in
    let least = some_of (part_of (at v0) t [] i stands) in (
      at v0 i,
      record {
        solvable = match;
        unique = λ v solves. some_of (agree_on (at v) (at v0) t [] i stands (makes_tuple n es t u v tuple solves ∙ sym made));
        fits = record {
          nodes = omega (arith, least.nodes, ap nodes made, tuple.fits.nodes);
          depth = omega (arith, least.depth, ap depth made, tuple.fits.depth);
          name_bytes = omega (arith, least.name_bytes, ap name_bytes made, tuple.fits.name_bytes);
          integers = least.integers (subst HasIntegers (sym made) tuple.fits.integers);
        };
      },
    )
  where
    some_of : {P : Type 0} → Stands [] i ⊎ P → P
    some_of (inl none) = absurd (omega (arith, none))
    some_of (inr p) = p

pub bound_variable : (n : ℕ) (es : List Equation) (t u : Tree) (i : ℕ) → IsTuple u → Contains (variables t) i → Matches n es t u
    → (value : Tree) × HasValue n (es ++ (t, u) ∷ []) (Variable i) value
bound_variable n es t u i tuple among match = bound n es t u i tuple (Stands-contained (variables t) i among) match

pub bound_number : (n : ℕ) (es : List Equation) (t u : Tree) (i : ℕ) → IsTuple u → IsPattern t → i < var_bound t → Matches n es t u
    → (value : Tree) × HasValue n (es ++ (t, u) ∷ []) (Variable i) value
bound_number n es t u i tuple pattern below match =
    bound n es t u i tuple
    (subst (λ ms. Stands ms i) (sym pattern.numbered) (Stands-range (length (variables t)) i (omega (arith, below, var_bound-pattern t pattern)))) match
