-- The answer to the request that is next is legal, and leads to what is held then.
use Rattle.std.proofs.Common.{◌≡◌, ◌++◌, ◌+◌, ◌*◌, ◌<◌, ◌≤◌, ℕ, List, [], ◌∷◌, Contains, Option, Some, None, suc, length, take, drop, slice_get, refl, sym, ap, subst, ◌∙◌, arith}
use Rattle.std.specs.List.{remove}
use Rattle.std.proofs.lemmas.Option.{same_Some, slice_get_within, slice_get-get_or, get_or_from_slice_get}
use Rattle.std.proofs.lemmas.List.Edits.{length-remove}
use Rattle.std.proofs.lemmas.List.Elements.{All-contains, Contains-append_right}
use Rattle.tc_lists.specs.Firsts.{IsFirst}
use Rattle.tc_lists.proofs.Parts.{split_slice_get}
use Rattle.tc_term.specs.Tree.{Tree}
use Rattle.tc_bag.specs.Stock.{Row, tuples_of}
use Rattle.tc_pending.specs.Answers.{IsNextAnswer, IsAnsweredBy, HasOldest}
use Rattle.tc_model.specs.Calls.{IsCallOf}
use Rattle.tc_model.specs.Choices.{AnyOne, TheFirst}
use Rattle.tc_model.specs.Entries.{weight}
use Rattle.tc_model.specs.Reactions.{Rule}
use Rattle.tc_model.specs.State.{State, Origin, IsAnswerable, IsMatch, IsThere, SomeMatches, opening, with_answered, after_entry, after_history}
use Rattle.tc_model.specs.Run.{IsLegal, IsRun, HasCall}
use Rattle.tc_model.specs.Tables.{IsGiven}
use Rattle.tc_model.specs.Waiting.{AreWaiting}
use Rattle.tc_model.specs.declared.calls.CallId.{CallId}
use Rattle.tc_model.specs.declared.calls.Request.{Request}
use Rattle.tc_model.specs.declared.calls.Wants.{Wants}
use Rattle.tc_model.specs.declared.calls.Wants.TheVariants.{Take, Look, Absence}
use Rattle.tc_model.specs.declared.items.Item.{Item}
use Rattle.tc_model.specs.declared.outcomes.Outcome.{Outcome}
use Rattle.tc_model.specs.declared.entries.Entry.{Entry}
use Rattle.tc_model.specs.declared.entries.Entry.TheVariants.{Called, Gave, Looked}
use Rattle.tc_model.specs.declared.limits.TheConstants.{MOST_GOALS}
use Rattle.tc_model.proofs.WaitingCalls.{removed-is-without, wants-is, waiting-run}
use Rattle.tc_model.proofs.Runs.{IsRun-first}
use Rattle.tc_centre.specs.Held.{held, IsHeld}
use Rattle.tc_centre.specs.Operations.{after_giving}
use Rattle.tc_centre.proofs.Budgets.{given-within}
use Rattle.tc_centre.proofs.Entries.{held-push}
use Rattle.tc_centre.proofs.Room.{room_for_answer}

called-agent : (origin : Origin) (history : List Entry) (s : State) (id : CallId) (e : Entry)
    → IsLegal AnyOne origin history s e → IsCallOf id e → id.agent < length origin.agents
called-agent origin history s id (Called i op result items) legal call =
    subst (λ (j : CallId). j.agent < length origin.agents) call legal.1.agent
called-agent origin history s id (Gave i result items) legal call = absurd call
called-agent origin history s id (Looked i asked reply) legal call = absurd call

-- the agent of a call of a run is one of the centre's
run-agent : (origin : Origin) (history : List Entry) (id : CallId) → IsRun origin history → HasCall id history
    → id.agent < length origin.agents
run-agent origin history id run has =
    let k : ℕ = has.stands.0 in
    let at : slice_get history k ≡ Some has.entry =
    slice_get-get_or history k has.entry has.stands.1 ∙ ap Some has.stands.2 in
    called-agent origin (take k history) (after_history (opening origin) (take k history)) id has.entry
    (run k has.entry at) has.call

-- the tuple of an age that is the oldest to match is there
some-oldest : (rows : List Row) (t : Tree) (age : ℕ) → HasOldest rows t age → SomeMatches (tuples_of rows) t
some-oldest rows t age oldest =
    let first : IsFirst (IsMatch t) (tuples_of rows) oldest.tuple = oldest.found.first in
    record {
      tuple = oldest.tuple;
      stands = subst (λ ts. Contains ts oldest.tuple) (sym first.split)
          (Contains-append_right first.before (oldest.tuple ∷ first.behind) oldest.tuple (0, omega arith, refl));
      matches = first.has;
    }

-- where a request is answered, what it wants is there
answered-there : (rows : List Row) (w : Wants) (t : Tree) (age : Option ℕ) → IsAnsweredBy rows w t age → IsThere w (tuples_of rows) t
answered-there rows Take t (Some age) answer = some-oldest rows t age answer
answered-there rows Look t (Some age) answer = some-oldest rows t age answer
answered-there rows Absence t None answer = answer
answered-there rows Take t None answer = absurd answer
answered-there rows Look t None answer = absurd answer
answered-there rows Absence t (Some age) answer = absurd answer

module _ (origin : Origin) (history : List Entry) (clauses : List Rule) (rows : List Row) (n : ℕ) (requests : List Request)
    (h : IsHeld origin history clauses rows n requests) where
  waiting : AreWaiting history requests
  waiting =
      subst (λ (s : State). AreWaiting history s.pending) (sym h.state)
      (waiting-run origin history (IsRun-first origin history h.run))

  -- the agent of a request that waits is one of the centre's
  pub request-agent : (place : ℕ) (r : Request) → slice_get requests place ≡ Some r → r.id.agent < length origin.agents
  request-agent place r stands =
      run-agent origin history r.id (IsRun-first origin history h.run)
      (All-contains (λ q. HasCall q.id history) requests r waiting.called
      (place, slice_get_within requests place r stands, get_or_from_slice_get requests place r r stands))

  -- a request was answered, as the steps of an answer tell it
  pub answered : (longer : List Entry) (left : List Row) (m : ℕ) (fewer : List Request) (place : ℕ) (age : Option ℕ) (r : Request)
      (id : CallId) (result : Outcome) (items : List Item)
      → IsNextAnswer rows requests place age → slice_get requests place ≡ Some r → r.id ≡ id
      → IsGiven TheFirst origin (held clauses rows requests) r result items
      → held clauses left requests ≡ after_giving r.wants result items (held clauses rows requests)
      → fewer ≡ remove requests place → longer ≡ history ++ Gave id result items ∷ []
      → m ≤ n + 1 + MOST_GOALS * length items → IsHeld origin longer clauses left m fewer
  answered longer left m fewer place age r id result items next stands of given leads gone grown ages =
      let s : State = held clauses rows requests in
      let same : next.request ≡ r = same_Some next.request r (sym next.stands ∙ stands) in
      let answerable : IsAnswerable (tuples_of rows) r =
      subst (IsAnswerable (tuples_of rows)) same
      (answered-there rows next.request.wants next.request.template age next.answer) in
      let legal : IsLegal TheFirst origin history s (Gave id result items) =
      record {
        request = r;
        chosen = record {
          before = take place requests;
          behind = drop (suc place) requests;
          split = split_slice_get requests place r stands;
          has = answerable;
          none = next.none_before;
        };
        asked = of;
        given = given;
      } in
      let wants = wants-is id requests place r waiting.once stands of in
      let removed = removed-is-without id requests place r waiting.once stands of in
      let after : held clauses left fewer ≡ after_entry (Gave id result items) s =
      ap (held clauses left) (gone ∙ sym removed)
      ∙ ap (with_answered id) (leads ∙ ap (λ w. after_giving w result items s) (sym wants)) in
      let one_less : length fewer + 1 ≡ length requests =
      ap (λ rs. length rs + 1) gone ∙ length-remove requests place (slice_get_within requests place r stands) in
      let within = given-within TheFirst origin s r result items given in
      subst (λ es. IsHeld origin es clauses left m fewer) (sym grown)
      (held-push origin history clauses clauses rows left n m requests fewer (Gave id result items) h legal after
      (room_for_answer (weight history) (length requests) (length fewer) origin.budget (length items) h.light
      (omega (arith, one_less)) within)
      (omega (arith, ages)))
