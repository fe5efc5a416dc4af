-- Names in the form of a name token.
use Rattle.std.proofs.Common.{◌≡◌, ◌≤◌, ◌<◌, min, nat_lt, ℕ, zero, suc, Bool, true, false, ◌+◌, ◌&&◌, cond, List, [], ◌∷◌, take, refl, ap, ◌∙◌, arith}
use Rattle.std.proofs.lemmas.Bool.Decides.{nat_tests}
use Rattle.std.specs.List.{prefix_len, list_all}
use Rattle.tc_term.specs.Bytes.{is_name_start, is_word}
use Rattle.tc_term.specs.Text.{is_name}
use Rattle.tc_read.specs.Front.{word_at}
use Rattle.tc_read.proofs.Lexemes.{lower_is_word}

words-take : (k : ℕ) (s : List ℕ) → k ≤ prefix_len is_word s → list_all is_word (take k s) ≡ true
words-take zero s h = refl
words-take (suc k) [] h = refl
words-take (suc k) (b ∷ s) h = by (is_word b) refl (words-take k s)
  where
    by : (p : Bool) → is_word b ≡ p → (k ≤ prefix_len is_word s → list_all is_word (take k s) ≡ true) → (is_word b && list_all is_word (take k s)) ≡ true
    by true e more = ap (λ q. q && list_all is_word (take k s)) e ∙ more (omega (arith, h, ap (λ q. cond q (1 + prefix_len is_word s) 0) e))
    by false e more = absurd (omega (arith, h, ap (λ q. cond q (1 + prefix_len is_word s) 0) e))

-- a first letter and the word bytes behind it, so far as they are taken, are a name
pub is_name-word_at : (limit b : ℕ) (s : List ℕ) → is_name_start b ≡ true → nat_lt 0 limit ≡ true → is_name (word_at limit (b ∷ s)).0 ≡ true
is_name-word_at limit b s start some =
    let long : prefix_len is_word (b ∷ s) ≡ 1 + prefix_len is_word s = ap (λ q. cond q (1 + prefix_len is_word s) 0) (lower_is_word b start) in
    let limit_some : 0 < limit = positive limit some in
    by (min limit (prefix_len is_word (b ∷ s))) (omega (arith, long, limit_some)) (omega (arith, long, limit_some))
  where
    positive : (n : ℕ) → nat_lt 0 n ≡ true → 0 < n
    positive n e = grind (arith, nat_tests)

    by : (n : ℕ) → 0 < n → n ≤ 1 + prefix_len is_word s → is_name (take n (b ∷ s)) ≡ true
    by zero h i = absurd (omega (arith, h))
    by (suc k) h i = ap (λ q. q && list_all is_word (take k s)) start ∙ words-take k s (omega (arith, i))
