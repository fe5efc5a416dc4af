-- Words, one after another.
use Rattle.std.proofs.Common.{◌≡◌, ◌∙◌, ℕ, zero, suc, List, [], ◌∷◌, ◌++◌, length, ap, sym, refl, append_assoc, append-nil}
use Rattle.rand_core.specs.Steps.{first_words}
use Rattle.rand_pcg.specs.Lcg.{Lcg}
use Rattle.rand_pcg.specs.Pcg.{pcg32}

-- as many words as are asked for
pub length-first_words : (n : ℕ) (g : Lcg) → length (first_words pcg32 n g) ≡ n
unfolding first_words
length-first_words zero g = refl
length-first_words (suc n) g = ap suc (length-first_words n (pcg32 g).1)

-- with one word more drawn, the generator has one word less to draw
pub drawn-more : (m n : ℕ) (g next : Lcg) (word : ℕ) (all words : List ℕ) → n ≡ suc m → (word, next) ≡ pcg32 g
    → all ≡ words ++ first_words pcg32 n g → all ≡ (words ++ word ∷ []) ++ first_words pcg32 m next
unfolding first_words
drawn-more m n g next word all words one step so_far =
    so_far ∙ ap (λ k. words ++ first_words pcg32 k g) one
    ∙ sym (append_assoc words ((pcg32 g).0 ∷ []) (first_words pcg32 m (pcg32 g).1))
    ∙ ap (λ (s : ℕ × Lcg). (words ++ s.0 ∷ []) ++ first_words pcg32 m s.1) (sym step)

-- with no word left to draw, all words are drawn
pub drawn-all : (n : ℕ) (g : Lcg) (all words : List ℕ) → n ≡ 0 → all ≡ words ++ first_words pcg32 n g → words ≡ all
unfolding first_words
drawn-all n g all words none so_far =
    sym (so_far ∙ ap (λ k. words ++ first_words pcg32 k g) none ∙ append-nil words)
