-- The longest front of a list whose elements pass a test.
use Rattle.std.proofs.Common.{◌≡◌, suc, ◌+◌, ◌≤◌, Bool, true, false, cond, List, [], ◌∷◌, ◌++◌, length, take, drop, refl, sym, ◌∙◌, ap, subst, arith}
use Rattle.std.specs.List.{AllByRecursion, prefix_len}
use Rattle.std.proofs.Math.Seq.{take-append_seam, drop-append_seam}

module _ {X : Type 0} (p : X → Bool) where
  prefix_len_pass : (x : X) (xs : List X) → p x ≡ true → prefix_len p (x ∷ xs) ≡ 1 + prefix_len p xs
  prefix_len_pass x xs e = ap (λ b. cond b (1 + prefix_len p xs) 0) e

  -- a front that passes is at most as long
  pub length-le-prefix_len : (xs rest : List X) → AllByRecursion (λ x. p x ≡ true) xs → length xs ≤ prefix_len p (xs ++ rest)
  length-le-prefix_len [] rest all = omega arith
  length-le-prefix_len (x ∷ xs) rest all =
      omega (arith, prefix_len_pass x (xs ++ rest) all.0, length-le-prefix_len xs rest all.1)

  passes_by : (x : X) (xs : List X) (b : Bool) → p x ≡ b → AllByRecursion (λ y. p y ≡ true) (take (prefix_len p xs) xs)
      → AllByRecursion (λ y. p y ≡ true) (take (prefix_len p (x ∷ xs)) (x ∷ xs))
  passes_by x xs true e rest =
      let more : prefix_len p (x ∷ xs) ≡ suc (prefix_len p xs) = omega (arith, prefix_len_pass x xs e) in
      subst (λ n. AllByRecursion (λ y. p y ≡ true) (take n (x ∷ xs))) (sym more) (e, rest)
  passes_by x xs false e rest =
      subst (λ n. AllByRecursion (λ y. p y ≡ true) (take n (x ∷ xs))) (sym (ap (λ b. cond b (1 + prefix_len p xs) 0) e)) tt

  -- it passes
  pub take-prefix_len_passes : (xs : List X) → AllByRecursion (λ x. p x ≡ true) (take (prefix_len p xs) xs)
  take-prefix_len_passes [] = tt
  take-prefix_len_passes (x ∷ xs) = passes_by x xs (p x) refl (take-prefix_len_passes xs)

  -- a front of this length, and what stands behind it
  pub split-prefix_len : (xs rest : List X) → prefix_len p (xs ++ rest) ≡ length xs
      → (take (prefix_len p (xs ++ rest)) (xs ++ rest) ≡ xs) × (drop (prefix_len p (xs ++ rest)) (xs ++ rest) ≡ rest)
  split-prefix_len xs rest e = (
    ap (λ n. take n (xs ++ rest)) e ∙ take-append_seam xs rest,
    ap (λ n. drop n (xs ++ rest)) e ∙ drop-append_seam xs rest,
  )
