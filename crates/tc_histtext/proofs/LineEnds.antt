-- Bytes line by line.
use Rattle.std.proofs.Common.{◌≡◌, ◌≢◌, ◌<◌, ◌+◌, ℕ, List, [], ◌∷◌, ◌++◌, length, drop, get_or, All, refl, sym, ap, ap₂, ◌∙◌, arith, append_assoc}
use Rattle.std.specs.List.{flat_map}
use Rattle.std.proofs.lemmas.List.Elements.{All-head, All-tail}
use Rattle.tc_histline.specs.Lines.{HasNoFeed}
use Rattle.tc_histtext.specs.ReadTexts.{ended}

-- two lines at the front of bytes are one
pub ended-one : (a b r s : List ℕ) → HasNoFeed a → HasNoFeed b → ended a ++ r ≡ ended b ++ s → (a ≡ b) × (r ≡ s)
ended-one [] [] r s clean pure same = (refl, ap (drop 1) same)
ended-one [] (y ∷ ys) r s clean pure same = absurd (All-head (λ b. b ≢ 10) y ys pure (sym (ap (λ l. get_or l 0 0) same)))
ended-one (x ∷ xs) [] r s clean pure same = absurd (All-head (λ b. b ≢ 10) x xs clean (ap (λ l. get_or l 0 0) same))
ended-one (x ∷ xs) (y ∷ ys) r s clean pure same =
    let on = ended-one xs ys r s (All-tail (λ b. b ≢ 10) x xs clean) (All-tail (λ b. b ≢ 10) y ys pure) (ap (drop 1) same) in
    (ap₂ (λ z zs. z ∷ zs) (ap (λ l. get_or l 0 0) same) on.0, on.1)

-- of two lists of lines at the front of bytes the longer one goes on with a line
pub lines-longer : (xs ys : List (List ℕ)) (r s : List ℕ) → All HasNoFeed xs → All HasNoFeed ys → length xs < length ys → flat_map ended xs ++ r ≡ flat_map ended ys ++ s
    → (line : List ℕ) × (more : List ℕ) × HasNoFeed line × (r ≡ ended line ++ (more ++ s)) × (flat_map ended ys ≡ (flat_map ended xs ++ ended line) ++ more)
lines-longer [] [] r s clean pure less same = absurd (omega (arith, less))
lines-longer [] (y ∷ ys) r s clean pure less same =
    (y, flat_map ended ys, All-head HasNoFeed y ys pure, same ∙ append_assoc (ended y) (flat_map ended ys) s, refl)
lines-longer (x ∷ xs) [] r s clean pure less same = absurd (omega (arith, less))
lines-longer (x ∷ xs) (y ∷ ys) r s clean pure less same =
    let both = ended-one x y (flat_map ended xs ++ r) (flat_map ended ys ++ s) (All-head HasNoFeed x xs clean) (All-head HasNoFeed y ys pure)
    (sym (append_assoc (ended x) (flat_map ended xs) r) ∙ (same ∙ append_assoc (ended y) (flat_map ended ys) s)) in
    let on = lines-longer xs ys r s (All-tail HasNoFeed x xs clean) (All-tail HasNoFeed y ys pure) (omega (arith, less)) both.1 in (
      on.0,
      on.1,
      on.2,
      on.3,
      ap₂ (λ z zs. ended z ++ zs) (sym both.0) on.4
          ∙ (ap (λ l. ended x ++ l) (append_assoc (flat_map ended xs) (ended on.0) on.1)
          ∙ (sym (append_assoc (ended x) (flat_map ended xs) (ended on.0 ++ on.1))
          ∙ sym (append_assoc (ended x ++ flat_map ended xs) (ended on.0) on.1))),
    )
