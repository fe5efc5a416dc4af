-- Texts that are read again are those of one thing; and lists of things have one reading, one text
-- behind another.
use Rattle.std.proofs.Common.{◌≡◌, ℕ, List, [], ◌∷◌, ◌++◌, All, None, refl, sym, ap, ap₂, subst, ◌∙◌, append_assoc, append-nil}
use Rattle.std.specs.List.{flat_map}
use Rattle.std.proofs.lemmas.List.Elements.{All-head, All-tail}
use Rattle.std.proofs.lemmas.Option.{none-some, some_pair_parts}
use Rattle.tc_lists.specs.AtFront.{Front, IsReadAgain}
use Rattle.tc_lists.proofs.Elements.{All-append_right}

module _ {X : Type 0} (good : X → Type 0) (text : X → List ℕ) (read : List ℕ → Front X) (again : IsReadAgain good text read) where
  -- two things of which the texts stand at the front are one
  pub one_at_front : (x y : X) (rest more : List ℕ) → good x → good y → text x ++ rest ≡ text y ++ more → (x ≡ y) × (rest ≡ more)
  one_at_front x y rest more is other same =
      some_pair_parts x y rest more (sym (again x rest is) ∙ (ap read same ∙ again y more other))

  module _ (never : read [] ≡ None) where
    some_text : (x : X) (rest : List ℕ) → good x → text x ++ rest ≡ [] → ⊥
    some_text x rest is none = none-some (x, rest) (sym never ∙ (ap read (sym none) ∙ again x rest is))

    -- texts that begin the texts of others are those of their beginning
    pub front_of_texts : (xs ys : List X) (rest : List ℕ) → All good xs → All good ys
        → flat_map text xs ++ rest ≡ flat_map text ys
        → (more : List X) × (ys ≡ xs ++ more) × (rest ≡ flat_map text more)
    front_of_texts [] ys rest ours theirs same = (ys, refl, same)
    front_of_texts (x ∷ xs) [] rest ours theirs same =
        absurd (some_text x (flat_map text xs ++ rest) (All-head good x xs ours)
        (sym (append_assoc (text x) (flat_map text xs) rest) ∙ same))
    front_of_texts (x ∷ xs) (y ∷ ys) rest ours theirs same =
        let both = one_at_front x y (flat_map text xs ++ rest) (flat_map text ys)
        (All-head good x xs ours) (All-head good y ys theirs)
        (sym (append_assoc (text x) (flat_map text xs) rest) ∙ same) in
        let on = front_of_texts xs ys rest (All-tail good x xs ours) (All-tail good y ys theirs) both.1 in
        (on.0, ap₂ (λ z zs. z ∷ zs) (sym both.0) on.1, on.2)

    -- two lists with one text are one
    pub one_list : (xs ys : List X) → All good xs → All good ys → flat_map text xs ≡ flat_map text ys → xs ≡ ys
    one_list xs ys ours theirs same =
        let on = front_of_texts xs ys [] ours theirs (append-nil (flat_map text xs) ∙ same) in
        by on.0 on.1 on.2
      where
        by : (more : List X) → ys ≡ xs ++ more → [] ≡ flat_map text more → xs ≡ ys
        by [] e none = sym (e ∙ append-nil xs)
        by (z ∷ zs) e none =
            absurd (some_text z (flat_map text zs)
            (All-head good z zs (All-append_right good xs (z ∷ zs) (subst (All good) e theirs))) (sym none))
