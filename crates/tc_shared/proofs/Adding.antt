-- Whose entries a turn adds.
use Rattle.std.proofs.Common.{◌≡◌, ℕ, List, [], ◌∷◌, ◌++◌, cond, All, Some, refl, sym, ap, ◌∙◌, eq-eqb, ne_eqb}
use Rattle.std.proofs.lemmas.List.Elements.{All-head, All-tail, filter-append}
use Rattle.tc_model.specs.declared.entries.Entry.{Entry}
use Rattle.tc_model.specs.declared.entries.Entry.TheVariants.{Called, Gave, Looked}
use Rattle.tc_calls.specs.Places.{IsGave}
use Rattle.tc_centre.specs.Owners.{owner_of}
use Rattle.tc_turn.specs.Owners.{is_owner, entries_of, OthersOwnNone}

-- answers to requests are nobody's
pub gaves-unowned : (n : ℕ) (gaves : List Entry) → All IsGave gaves → entries_of owner_of n gaves ≡ []
gaves-unowned n [] all = refl
gaves-unowned n (Called id op result items ∷ es) all = absurd (All-head IsGave (Called id op result items) es all)
gaves-unowned n (Gave id result items ∷ es) all = gaves-unowned n es (All-tail IsGave (Gave id result items) es all)
gaves-unowned n (Looked id asked reply ∷ es) all = absurd (All-head IsGave (Looked id asked reply) es all)

module _ (e : Entry) (agent : ℕ) (owned : owner_of e ≡ Some agent) (gaves : List Entry) (all : All IsGave gaves) where
  -- the agent's own entry, behind which answers to requests stand
  pub own-entry : entries_of owner_of agent (e ∷ gaves) ≡ e ∷ []
  own-entry =
      ap (λ b. cond b (e ∷ entries_of owner_of agent gaves) (entries_of owner_of agent gaves))
      (ap (is_owner agent) owned ∙ eq-eqb agent agent refl)
      ∙ ap (λ (t : List Entry). e ∷ t) (gaves-unowned agent gaves all)

  -- nobody else owns any of these
  pub others-none : OthersOwnNone owner_of agent (e ∷ gaves)
  others-none n other =
      ap (λ b. cond b (e ∷ entries_of owner_of n gaves) (entries_of owner_of n gaves))
      (ap (is_owner n) owned ∙ ne_eqb agent n (λ same. other (sym same)))
      ∙ gaves-unowned n gaves all

  pub own-more : (history : List Entry)
      → entries_of owner_of agent (history ++ e ∷ gaves) ≡ entries_of owner_of agent history ++ e ∷ []
  own-more history =
      filter-append (λ (x : Entry). is_owner agent (owner_of x)) history (e ∷ gaves)
      ∙ ap (λ (t : List Entry). entries_of owner_of agent history ++ t) own-entry

-- where nothing is added, nobody owns what is added
pub none-of-none : (agent : ℕ) → OthersOwnNone owner_of agent []
none-of-none agent n other = refl
