-- Variables that are numbered 0, 1, .. so far.
use Rattle.std.proofs.Common.{◌≡◌, ◌∙◌, ◌⊎◌, ◌<◌, ◌+◌, ℕ, List, [], ◌∷◌, ◌++◌, length, get_or, sym, ap, inl, inr, subst, arith, length-append}
use Rattle.std.proofs.lemmas.List.{get_or_push}
use Rattle.std.proofs.lemmas.List.FromFn.{length-range_with_len}
use Rattle.std.specs.List.{range_with_len}
use mathlib.Core.List.{IsPrefix}
use Rattle.tc_lists.proofs.Prefixes.{IsPrefix-append, IsPrefix-trans, IsPrefix-whole}
use Rattle.tc_term.proofs.Places.{Stands-range, place_in-range, with_number_cases}
use Rattle.tc_term.specs.Tree.{Tree, Variable, Atomic, Number, Compound, Trees, Last, More}
use Rattle.tc_term.specs.Variables.{with_number, variables_after, variables_after_all}
use Rattle.tc_lists.proofs.Ranges.{range_with_len_more, get_or-range, range_with_len_same}

-- a number below the end is there
pub with_number-old : (v n : ℕ) → n < v → with_number (range_with_len 0 v) n ≡ range_with_len 0 v
with_number-old v n below =
    elim (with_number_cases (range_with_len 0 v) n) [
      | inl old ↦ old.1
      | inr new ↦ absurd (omega (arith, new.0, Stands-range v n below))
    ]

-- the number at the end is new
pub with_number-new : (v : ℕ) → with_number (range_with_len 0 v) v ≡ range_with_len 0 (v + 1)
with_number-new v =
    elim (with_number_cases (range_with_len 0 v) v) [
      | inl old ↦ absurd (omega (arith, (place_in-range v v old.0).1))
      | inr new ↦ new.1 ∙ sym (range_with_len_more v)
    ]

-- no other number goes on with them
pub with_number-range : (v n k : ℕ) → with_number (range_with_len 0 v) n ≡ range_with_len 0 k →
    ((n < v) × (k ≡ v)) ⊎ ((n ≡ v) × (k ≡ v + 1))
with_number-range v n k e =
    elim (with_number_cases (range_with_len 0 v) n) [
      | inl old ↦ inl ((place_in-range v n old.0).1, range_with_len_same 0 k v (sym e ∙ old.1))
      | inr new ↦
          let pushed : range_with_len 0 v ++ n ∷ [] ≡ range_with_len 0 k = sym new.1 ∙ e in
          let long : k ≡ v + 1 = omega (arith, ap length pushed, length-append (range_with_len 0 v) (n ∷ []), length-range_with_len 0 v, length-range_with_len 0 k) in
          let at : n ≡ v = sym (get_or_push (range_with_len 0 v) n 0 v (length-range_with_len 0 v)) ∙ ap (λ l. get_or l v 0) pushed ∙ get_or-range k v 0 (omega (arith, long)) in
          inr (at, long)
    ]

-- what was seen stays in front
IsPrefix-with_number : (seen : List ℕ) (n : ℕ) → IsPrefix seen (with_number seen n)
IsPrefix-with_number seen n =
    elim (with_number_cases seen n) [
      | inl old ↦ subst (IsPrefix seen) (sym old.1) (IsPrefix-whole seen)
      | inr new ↦ subst (IsPrefix seen) (sym new.1) (IsPrefix-append seen (n ∷ []))
    ]

mutual
  pub IsPrefix-variables_after : (t : Tree) (seen : List ℕ) → IsPrefix seen (variables_after seen t)
  IsPrefix-variables_after (Variable n) seen = IsPrefix-with_number seen n
  IsPrefix-variables_after (Atomic name) seen = IsPrefix-whole seen
  IsPrefix-variables_after (Number z) seen = IsPrefix-whole seen
  IsPrefix-variables_after (Compound name args) seen = IsPrefix-variables_after_all args seen

  pub IsPrefix-variables_after_all : (ts : Trees) (seen : List ℕ) → IsPrefix seen (variables_after_all seen ts)
  IsPrefix-variables_after_all (Last t) seen = IsPrefix-variables_after t seen
  IsPrefix-variables_after_all (More t ts) seen =
      IsPrefix-trans seen (variables_after seen t) (variables_after_all (variables_after seen t) ts)
      (IsPrefix-variables_after t seen) (IsPrefix-variables_after_all ts (variables_after seen t))
