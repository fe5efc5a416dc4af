-- Loops that change one element after another, and lists that grow or shrink side by side.
use Rattle.std.proofs.Common.{◌≡◌, ℕ, ◌+◌, ◌<◌, ◌≤◌, List, Some, length, sym, ◌∙◌, subst, arith, ⊎_elim}
use Rattle.std.proofs.Math.ListN.{set, length-set}
use Rattle.std.specs.List.{slice_get}
use Rattle.std.proofs.lemmas.Bool.{cases_eq}
use Rattle.std.proofs.lemmas.Option.{same_Some, slice_get_within}
use Rattle.tc_lists.proofs.Sets.{slice_get-set_same, slice_get-set_other}

-- the elements below the index have become what they were to become, and the others are as they were
pub record Swept {X : Type 0} (R : ℕ → X → X → Type 0) (olds news : List X) (index : ℕ) : Type 0 where
  pub whole : length news ≡ length olds
  pub done : (k : ℕ) (x y : X) → k < index → slice_get olds k ≡ Some x → slice_get news k ≡ Some y → R k x y
  pub same : (k : ℕ) → index ≤ k → slice_get news k ≡ slice_get olds k

module _ {X : Type 0} (R : ℕ → X → X → Type 0) where
  pub swept-step : (olds news : List X) (i : ℕ) (x y : X) → Swept R olds news i → slice_get news i ≡ Some x → R i x y
      → Swept R olds (set news i y) (i + 1)
  swept-step olds news i x y swept at is = record {
    whole = length-set news i y ∙ swept.whole;
    done = λ k old new below was now.
        ⊎_elim
        (λ (here : k ≡ i).
        let before : slice_get olds i ≡ Some old = subst (λ j. slice_get olds j ≡ Some old) here was in
        let behind : slice_get (set news i y) i ≡ Some new = subst (λ j. slice_get (set news i y) j ≡ Some new) here now in
        let old_is : x ≡ old = same_Some x old (sym at ∙ swept.same i (omega arith) ∙ before) in
        let new_is : y ≡ new = same_Some y new (sym (slice_get-set_same news i y x at) ∙ behind) in
        subst (λ j. R j old new) (sym here) (subst (λ u. R i u new) old_is (subst (λ v. R i x v) new_is is)))
        (λ (other : k ≡ i → ⊥).
        swept.done k old new (omega (arith, below, other)) was (sym (slice_get-set_other news i k y other) ∙ now))
        (cases_eq k i);
    same = λ k from.
        slice_get-set_other news i k y (λ (here : k ≡ i). omega (arith, from, here)) ∙ swept.same k (omega (arith, from));
  }

  pub swept-all : (olds news : List X) (i : ℕ) → Swept R olds news i → length olds ≤ i → (k : ℕ) (x y : X) → slice_get olds k ≡ Some x → slice_get news k ≡ Some y
      → R k x y
  swept-all olds news i swept past k x y was now =
      let within : k < length olds = slice_get_within olds k x was in
      swept.done k x y (omega (arith, within, past)) was now

-- what has become of the elements may be said more weakly
pub swept-weaker : {X : Type 0} (R Q : ℕ → X → X → Type 0) (olds news : List X) (i : ℕ) → ((k : ℕ) (x y : X) → R k x y → Q k x y) → Swept R olds news i
    → Swept Q olds news i
swept-weaker R Q olds news i weaker swept = record {
  whole = swept.whole;
  done = λ k x y below was now. weaker k x y (swept.done k x y below was now);
  same = swept.same;
}
