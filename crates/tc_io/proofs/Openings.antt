-- A list that is handed out element by element.
use Rattle.std.proofs.Common.{◌≡◌, ℕ, ◌+◌, List, [], ◌∷◌, ◌++◌, take, drop, ap, sym, ◌∙◌, take-add, arith}
use Rattle.std.proofs.lemmas.List.{drop-drop}

-- what is left behind the first element that was left
pub left_behind : {X : Type 0} (all xs : List X) (x : X) (n : ℕ) → x ∷ xs ≡ drop n all → xs ≡ drop (n + 1) all
left_behind all xs x n is = ap (drop 1) is ∙ drop-drop 1 n all ∙ ap (λ k. drop k all) (omega arith)

-- what was handed out, with the first element that was left
pub handed_more : {X : Type 0} (all xs : List X) (x : X) (n : ℕ) → x ∷ xs ≡ drop n all
    → take (n + 1) all ≡ take n all ++ x ∷ []
handed_more all xs x n is = take-add n 1 all ∙ ap (λ l. take n all ++ take 1 l) (sym is)
