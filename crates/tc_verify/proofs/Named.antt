-- What is said of names, said of names that are the same.
use Rattle.std.proofs.Common.{◌≡◌, ℕ, List, subst}

pub along : (P : List (List ℕ) → List (List ℕ) → Type 0) (cs ds fs gs : List (List ℕ)) → cs ≡ ds → fs ≡ gs → P cs fs → P ds gs
along P cs ds fs gs centres agents is = subst (λ x. P x gs) centres (subst (λ x. P cs x) agents is)
