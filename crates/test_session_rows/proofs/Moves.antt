-- Lists that are moved from one to another, item by item.
use Rattle.std.proofs.Common.{◌≡◌, ℕ, suc, ◌+◌, ◌<◌, List, [], ◌∷◌, ◌++◌, Some, length, sym, subst, arith, ⊎_elim, length-append}
use Rattle.std.specs.List.{slice_get}
use Rattle.std.proofs.lemmas.Option.{none-some}
use Rattle.tc_lists.proofs.Places.{slice_get_push}

module _ {A B : Type 0} (P : ℕ → A → Type 0) (Q : ℕ → B → Type 0) (n : ℕ) where
  -- of so many items some are left, and those before are moved
  pub record Moves (left : List A) (moved : List B) : Type 0 where
    pub count : length moved + length left ≡ n
    pub left_are : (k : ℕ) (a : A) → slice_get left k ≡ Some a → P (length moved + k) a
    pub moved_are : (k : ℕ) (b : B) → slice_get moved k ≡ Some b → Q k b

  -- at first all are left
  pub moves-none : (left : List A) (moved : List B) → length left ≡ n → ((k : ℕ) (a : A) → slice_get left k ≡ Some a → P k a)
      → moved ≡ [] → Moves left moved
  moves-none left moved whole are none =
      subst (Moves left) (sym none) (record {
        count = omega (arith, whole);
        left_are = λ k a at. subst (λ j. P j a) (omega arith) (are k a at);
        moved_are = λ k b at. absurd (none-some b at);
      })

  -- the next one is moved
  pub moves-more : (a : A) (left : List A) (moved : List B) (b : B) → Moves (a ∷ left) moved → Q (length moved) b → Moves left (moved ++ b ∷ [])
  moves-more a left moved b moves is =
      let one : length (moved ++ b ∷ []) ≡ length moved + 1 = omega (arith, length-append moved (b ∷ [])) in
      record {
        count = let count = moves.count in omega (arith, count, one);
        left_are = λ k x at. subst (λ j. P j x) (omega (arith, one)) (moves.left_are (suc k) x at);
        moved_are = λ k x at.
            ⊎_elim
            (λ (before : (k < length moved) × (slice_get moved k ≡ Some x)). moves.moved_are k x before.1)
            (λ (last : (k ≡ length moved) × (x ≡ b)). subst (λ j. Q j x) (sym last.0) (subst (Q (length moved)) (sym last.1) is))
            (slice_get_push moved b k x at);
      }
