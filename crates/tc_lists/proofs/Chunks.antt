-- What holds of chunks, of the whole.
use Rattle.std.proofs.Common.{◌≡◌, ℕ, zero, suc, ◌+◌, ◌-◌, ◌*◌, ◌<◌, ◌≤◌, List, [], ◌∷◌, ◌++◌, length, take, drop, sym, ap, ◌∙◌, subst, arith, length-drop}
use Rattle.std.proofs.lemmas.List.{take-append-drop, drop-drop}
use Rattle.std.proofs.Math.Nat.{suc-mul}
use Rattle.std.specs.Fork.{slice_chunk}

module _ {A : Type 0} (Q : List A → List A → Type 0) (none : Q [] [])
    (join : (xs ys xs' ys' : List A) → Q xs ys → Q xs' ys' → Q (xs ++ xs') (ys ++ ys')) (size : ℕ) where
  pub by-chunks : (m : ℕ) (xs ys : List A) → length ys ≡ length xs → length xs ≤ m * size
      → ((n : ℕ) → n * size < length xs → Q (slice_chunk xs size n) (slice_chunk ys size n)) → Q xs ys
  by-chunks m [] [] same room each = none
  by-chunks m [] (y ∷ ys) same room each = absurd (omega (arith, same))
  by-chunks m (x ∷ xs) [] same room each = absurd (omega (arith, same))
  by-chunks zero (x ∷ xs) (y ∷ ys) same room each = absurd (omega (arith, room))
  by-chunks (suc m) (x ∷ xs) (y ∷ ys) same room each =
      let us = x ∷ xs in
      let vs = y ∷ ys in
      let long = length-drop size us in
      let zeroth : 0 * size ≡ 0 = omega arith in
      let first : Q (take size us) (take size vs) =
      subst (λ k. Q (take size (drop k us)) (take size (drop k vs))) zeroth (each 0 (omega (arith, zeroth))) in
      let rest : Q (drop size us) (drop size vs) = by-chunks m (drop size us) (drop size vs)
      (length-drop size vs ∙ ap (λ k. k - size) same ∙ sym long)
      (let wide = suc-mul m size in omega (arith, long, wide, room))
      (λ n below.
      let mul = suc-mul n size in
      let wide : suc n * size ≡ size + n * size = omega (arith, mul) in
      subst (λ (l : List A). Q (take size l) (slice_chunk (drop size vs) size n)) (sym (drop-drop (n * size) size us))
      (subst (λ (l : List A). Q (take size (drop (size + n * size) us)) (take size l)) (sym (drop-drop (n * size) size vs))
      (subst (λ k. Q (take size (drop k us)) (take size (drop k vs))) wide (each (suc n) (omega (arith, long, wide, below)))))) in
      subst (λ (l : List A). Q l vs) (take-append-drop size us)
      (subst (λ (l : List A). Q (take size us ++ drop size us) l) (take-append-drop size vs)
      (join (take size us) (take size vs) (drop size us) (drop size vs) first rest))
