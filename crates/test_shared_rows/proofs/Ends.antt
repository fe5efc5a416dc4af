-- The passes of agents that have made their moves, as a centre is closed with them.
use Rattle.std.proofs.Common.{◌≡◌, ℕ, ◌<◌, ◌≤◌, List, All, Some, length, get_or, ap, ◌∙◌, subst, arith}
use Rattle.std.specs.List.{slice_get}
use Rattle.std.proofs.lemmas.List.{get_or-map, length-map}
use Rattle.std.proofs.lemmas.List.Elements.{All-map}
use Rattle.std.proofs.lemmas.List.Sums.{get_or-le-sum_by}
use Rattle.std.proofs.lemmas.Option.{get_or_from_slice_get, slice_get_within}
use Rattle.tc_lists.proofs.Sets.{slice_get_inside}
use Rattle.tc_lists.proofs.Elements.{All-from_slice_get}
use Rattle.tc_model.specs.State.{Origin}
use Rattle.tc_model.specs.declared.entries.Entry.{Entry}
use Rattle.tc_turn.specs.Order.{one_if_same}
use Rattle.tc_turn.specs.Passes.{TurnstileState, PassState, EndedState, ended_count, new_pass, new_passes}
use Rattle.tc_turn.proofs.Sums.{one_if_same-same}
use Rattle.tc_turn.proofs.PassLists.{length-new_passes, number-new_passes}
use Rattle.test_shared_rows.specs.Plays.{ArePlayed, IsPlayed, passes_of}
use Rattle.test_shared_rows.specs.declared.playing.Played.{Played}

module _ (t : TurnstileState Origin) (origin : Origin) (turns count : ℕ) (passes : List (PassState Entry Origin)) (played : List Played)
    (made : passes ≡ new_passes t.table origin turns 0 count) (are : ArePlayed t passes played) where
  long : length played ≡ count
  long = are.whole ∙ ap length made ∙ length-new_passes Entry t.table origin turns 0 count

  -- what is left of an agent
  played-at : (n : ℕ) (r : Played) → slice_get played n ≡ Some r → IsPlayed t (get_or passes n (new_pass t.table origin turns 0)) r
  played-at n r at =
      let inside = slice_get_within played n r at in
      subst (IsPlayed t (get_or passes n (new_pass t.table origin turns 0))) (get_or_from_slice_get played n r r at)
      (are.each n (new_pass t.table origin turns 0) r (omega (arith, inside, are.whole)))

  -- each pass that has ended is one of the centre
  pub ended-own : All (λ (e : EndedState Entry). e.table ≡ t.table) (passes_of played)
  ended-own =
      All-map (λ (e : EndedState Entry). e.table ≡ t.table) (λ (r : Played). r.pass) played
      (All-from_slice_get (λ (r : Played). r.pass.table ≡ t.table) played (λ n r at. (played-at n r at).table))

  -- the pass of each agent has ended
  pub ended-whole : t.passes ≡ count → (n : ℕ) → n < t.passes → 0 < ended_count n (passes_of played)
  ended-whole many n below =
      let d : PassState Entry Origin = new_pass t.table origin turns 0 in
      let inside : n < length played = omega (arith, many, below, long) in
      let here = slice_get_inside played n inside in
      let r : Played = here.0 in
      let e : EndedState Entry = r.pass in
      let read : get_or (passes_of played) n e ≡ e =
      get_or-map (λ (x : Played). x.pass) played n r e inside ∙ ap (λ (x : Played). x.pass) (get_or_from_slice_get played n r r here.1) in
      let number : e.number ≡ n =
      (played-at n r here.1).number ∙ ap (λ (l : List (PassState Entry Origin)). (get_or l n d).number) made
      ∙ number-new_passes t.table origin turns 0 count n d (omega (arith, many, below)) ∙ omega arith in
      let one : one_if_same e.number n ≡ 1 = one_if_same-same e.number n number in
      let counted : one_if_same (get_or (passes_of played) n e).number n ≤ ended_count n (passes_of played) =
      get_or-le-sum_by (λ (x : EndedState Entry). one_if_same x.number n) (passes_of played) n e
      (omega (arith, inside, length-map played (λ (x : Played). x.pass))) in
      let least : one_if_same e.number n ≤ ended_count n (passes_of played) =
      subst (λ (x : EndedState Entry). one_if_same x.number n ≤ ended_count n (passes_of played)) read counted in
      omega (arith, one, least)
