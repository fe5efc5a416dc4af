-- An agent owns the entries that it made.
use Rattle.std.proofs.Common.{◌≡◌, ℕ, List, [], ◌∷◌, cond, refl, ap, eqb}
use Rattle.tc_model.specs.Calls.{calls_of}
use Rattle.tc_model.specs.declared.entries.Entry.{Entry}
use Rattle.tc_model.specs.declared.entries.Entry.TheVariants.{Called, Gave, Looked}
use Rattle.tc_centre.specs.Owners.{owner_of}
use Rattle.tc_turn.specs.Owners.{entries_of}

pub owned-calls : (n : ℕ) (history : List Entry) → entries_of owner_of n history ≡ calls_of n history
owned-calls n [] = refl
owned-calls n (Called id op result items ∷ es) =
    ap (λ (t : List Entry). cond (eqb id.agent n) (Called id op result items ∷ t) t) (owned-calls n es)
owned-calls n (Gave id result items ∷ es) = owned-calls n es
owned-calls n (Looked id asked reply ∷ es) =
    ap (λ (t : List Entry). cond (eqb id.agent n) (Looked id asked reply ∷ t) t) (owned-calls n es)
