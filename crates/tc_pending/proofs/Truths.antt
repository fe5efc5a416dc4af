-- Truths that are set and never taken back.
use Rattle.std.proofs.Common.{◌≡◌, ◌<◌, ◌≤◌, ℕ, Bool, true, false, List, length, get_or, sym, subst, ◌∙◌, ⊎_elim}
use Rattle.std.proofs.Math.ListN.{set}
use Rattle.std.proofs.lemmas.Bool.{cases_lt, cases_eq, true≢false}
use Rattle.std.proofs.lemmas.Grind.{get_or-set_at}
use Rattle.std.proofs.lemmas.List.{get_or_past, get_or-set_other}

-- a truth is within the list
pub truth-inside : (truths : List Bool) (k : ℕ) → get_or truths k false ≡ true → k < length truths
truth-inside truths k is = ⊎_elim
    (λ (inside : k < length truths). inside)
    (λ (past : length truths ≤ k). absurd (true≢false (sym is ∙ get_or_past truths k false past)))
    (cases_lt k (length truths))

-- it stays where another is set
pub truth-set : (truths : List Bool) (i k : ℕ) → get_or truths k false ≡ true → get_or (set truths i true) k false ≡ true
truth-set truths i k is = ⊎_elim
    (λ (same : k ≡ i). get_or-set_at truths i k true false same (subst (λ j. j < length truths) same (truth-inside truths k is)))
    (λ (other : k ≡ i → ⊥). get_or-set_other truths i k true false other ∙ is)
    (cases_eq k i)

-- and where the list grows
pub truth-grown : (truths new : List Bool) (count most k : ℕ) → count ≡ length truths
    → ((j : ℕ) (d : Bool) → j < most → j < count → get_or new j d ≡ get_or truths j d) → k < most
    → get_or truths k false ≡ true → get_or new k false ≡ true
truth-grown truths new count most k are same below is =
    same k false below (subst (λ n. k < n) (sym are) (truth-inside truths k is)) ∙ is
