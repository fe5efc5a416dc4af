-- What a look leaves of the places of replies.
use Rattle.std.proofs.Common.{◌≡◌, ℕ, ◌+◌, List, [], ◌∷◌, ◌++◌, Option, Some, slice_get, take, sym, subst, ap, ◌∙◌}
use Rattle.std.proofs.lemmas.Option.{get_or_from_slice_get, slice_get_within}
use Rattle.tc_lists.proofs.Parts.{take_read}
use Rattle.tc_calls.specs.Places.{ArePlaces, IsSomeRun, place_in}
use Rattle.tc_calls.proofs.Indexed.{index-looked}
use Rattle.tc_calls.proofs.Noting.{run-front}
use Rattle.tc_model.specs.declared.calls.CallId.{CallId}
use Rattle.tc_model.specs.declared.entries.Entry.{Entry}
use Rattle.tc_model.specs.declared.entries.Entry.TheVariants.{Looked}
use Rattle.tc_model.specs.declared.outcomes.Reply.{Reply}
use Rattle.tc_rows.specs.Made.{IsRunOf}

-- the front of a run is one
pub some-run : (agents : ℕ) (history : List Entry) → IsRunOf agents history → (n : ℕ) → IsSomeRun (take n history)
some-run agents history of n = run-front history n (of.origin, of.run)

-- a look changes no place
pub looked-places : (agents : ℕ) (history : List Entry) → IsRunOf agents history → (place : ℕ) (e : Entry)
    → slice_get history place ≡ Some e → (id : CallId) (asked : ℕ) (reply : Option Reply) → e ≡ Looked id asked reply
    → (lists : List (List (ℕ × ℕ))) → ArePlaces lists (take place history) → ArePlaces lists (take (place + 1) history)
looked-places agents history of place e at id asked reply is lists are =
    let look : Entry = Looked id asked reply in
    let there : slice_get history place ≡ Some look = at ∙ ap Some is in
    let grown : take (place + 1) history ≡ take place history ++ look ∷ [] =
    take_read history place look (slice_get_within history place look there) (sym (get_or_from_slice_get history place look look there)) in
    subst (ArePlaces lists) (sym grown) (record {
      index = index-looked (take place history) id asked reply (place_in lists) (of.run place look there).1.number are.index;
      rise = are.rise;
    })
