-- Texts that are joined; and things one behind another, up to what is none of them.
use Rattle.std.proofs.Common.{◌≡◌, ℕ, List, [], ◌∷◌, ◌++◌, All, refl, sym, ap, ap₂, subst, ◌∙◌, append_assoc}
use Rattle.std.specs.List.{flat_map}
use Rattle.std.proofs.lemmas.List.Elements.{All-head, All-tail}
use Rattle.tc_lists.specs.Texts.{joined}

-- texts, one after another, and then these bytes
abbrev pub before : List (List ℕ) → List ℕ → List ℕ
before [] rest = rest
before (t ∷ ts) rest = t ++ before ts rest

pub joined-before : (texts : List (List ℕ)) (rest : List ℕ) → joined texts ++ rest ≡ before texts rest
joined-before [] rest = refl
joined-before (t ∷ ts) rest = append_assoc t (joined ts) rest ∙ ap (λ r. t ++ r) (joined-before ts rest)

-- things of which the texts stand at the front of bytes are one, where each ends
abbrev pub IsOne : {X : Type 0} → (X → Type 0) → (List ℕ → Type 0) → (X → List ℕ) → Type 0
IsOne {X} good Ends text = (x y : X) (rest more : List ℕ) → good x → good y → Ends rest → Ends more
    → text x ++ rest ≡ text y ++ more → (x ≡ y) × (rest ≡ more)

-- things one behind another, up to where they stop, are those of one list
module _ {X : Type 0} (good : X → Type 0) (Ends Stops : List ℕ → Type 0) (text : X → List ℕ) (one : IsOne good Ends text)
    (goes_on : (x : X) (rest : List ℕ) → good x → Ends (text x ++ rest)) (ends : (rest : List ℕ) → Stops rest → Ends rest)
    (apart : (x : X) (rest more : List ℕ) → good x → Stops more → text x ++ rest ≡ more → ⊥) where
  pub list-ends : (xs : List X) (rest : List ℕ) → All good xs → Stops rest → Ends (flat_map text xs ++ rest)
  list-ends [] rest all stops = ends rest stops
  list-ends (x ∷ xs) rest all stops =
      subst Ends (sym (append_assoc (text x) (flat_map text xs) rest)) (goes_on x (flat_map text xs ++ rest) (All-head good x xs all))

  pub list-one : IsOne (All good) Stops (flat_map text)
  list-one [] [] rest more ours theirs stop stops same = (refl, same)
  list-one [] (y ∷ ys) rest more ours theirs stop stops same =
      absurd (apart y (flat_map text ys ++ more) rest (All-head good y ys theirs) stop (sym (append_assoc (text y) (flat_map text ys) more) ∙ sym same))
  list-one (x ∷ xs) [] rest more ours theirs stop stops same =
      absurd (apart x (flat_map text xs ++ rest) more (All-head good x xs ours) stops (sym (append_assoc (text x) (flat_map text xs) rest) ∙ same))
  list-one (x ∷ xs) (y ∷ ys) rest more ours theirs stop stops same =
      let both = one x y (flat_map text xs ++ rest) (flat_map text ys ++ more) (All-head good x xs ours) (All-head good y ys theirs)
      (list-ends xs rest (All-tail good x xs ours) stop) (list-ends ys more (All-tail good y ys theirs) stops)
      (sym (append_assoc (text x) (flat_map text xs) rest) ∙ (same ∙ append_assoc (text y) (flat_map text ys) more)) in
      let on = list-one xs ys rest more (All-tail good x xs ours) (All-tail good y ys theirs) stop stops both.1 in
      (ap₂ (λ z zs. z ∷ zs) both.0 on.0, on.1)
