-- Terms that are to be equal, by parts.
use Rattle.std.proofs.Common.{◌≡◌, ℕ, ap, ◌∙◌}
use Rattle.tc_term.specs.Tree.{Tree}
use Rattle.tc_unify.specs.Met.{met}

pub met-same : (m n : ℕ) (s t u v : Tree) → m ≡ n → s ≡ t → u ≡ v → met m s u ≡ met n t v
met-same m n s t u v en es eu = ap (λ k. met k s u) en ∙ (ap (λ x. met n x u) es ∙ ap (met n t) eu)
