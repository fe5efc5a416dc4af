-- The shares of a wave.
use Rattle.std.proofs.Common.{◌≡◌, ℕ, suc, ◌+◌, ◌*◌, ◌<◌, ◌≤◌, List, [], ◌∷◌, length, min, take, drop, sym, subst, refl, arith, length-drop, slice_index_or}
use Rattle.std.proofs.Math.Nat.{suc-mul}
use Rattle.std.proofs.lemmas.Grind.{common_steps}
use Rattle.std.proofs.lemmas.List.{drop-drop}
use Rattle.tc_writing.specs.declared.shares.Printed.{Printed}
use Rattle.tc_writing.specs.Lines.{ArePrinted, IsPrintedOf}

-- none is left where the shares reach as far as the lines
no_more : (ts : List (List ℕ)) → length ts ≤ 0 → ts ≡ []
no_more [] none = refl
no_more (t ∷ ts) none = absurd (omega (arith, none))

-- each share by its number, and so all of them
pub are_printed : (size : ℕ) (ps : List Printed) (ts : List (List ℕ)) → length ts ≤ length ps * size
    → ((i : ℕ) (d : Printed) → i < length ps → IsPrintedOf (take size (drop (i * size) ts)) (slice_index_or ps i d)) → ArePrinted size ts ps
are_printed size [] ts enough each = no_more ts (omega (arith, enough))
are_printed size (p ∷ ps) ts enough each =
    let zeroth : 0 * size ≡ 0 = omega arith in (
      subst (λ k. IsPrintedOf (take size (drop k ts)) p) zeroth (each 0 p (omega arith)),
      are_printed size ps (drop size ts)
          (let wide = suc-mul (length ps) size in omega (arith, wide, length-drop size ts, enough))
          (λ i d within.
          let wide : suc i * size ≡ size + i * size = omega (arith, suc-mul i size) in
          subst (λ l. IsPrintedOf (take size l) (slice_index_or ps i d)) (sym (drop-drop (i * size) size ts))
          (subst (λ k. IsPrintedOf (take size (drop k ts)) (slice_index_or ps i d)) wide (each (suc i) d (omega (arith, within))))),
    )

-- what is behind a share that reaches no further than the lines
pub behind_share : (size count : ℕ) (ts : List (List ℕ)) → count ≡ min size (length ts) → drop count ts ≡ drop size ts
behind_share size count ts is = grind (arith, common_steps)

-- where none is left, no line is
pub none_printed : (size : ℕ) (ps : List Printed) (ts : List (List ℕ)) → length ps ≡ 0 → ArePrinted size ts ps → ts ≡ []
none_printed size [] ts none printed = printed
none_printed size (p ∷ ps) ts none printed = absurd (omega (arith, none))
