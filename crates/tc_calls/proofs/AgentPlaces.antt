-- What the lists of all agents' calls have, and what a change of one of them does.
use Rattle.std.proofs.Common.{◌≡◌, ℕ, ◌<◌, ◌≤◌, ◌-◌, eqb, cond, map, true, false, ◌&&◌, All, List, [], length, get_or, set, Some, None, refl, sym, ap, subst, ◌∙◌, ⊎_elim, arith}
use Rattle.std.specs.Option.{MatchOption}
use Rattle.std.proofs.lemmas.Bool.{cases_Bool, cases_lt, both_ways, eqb-true}
use Rattle.std.specs.declared.vec.Vec.{Vec}
use Rattle.std.proofs.Math.Seq.{map-set_same}
use Rattle.std.proofs.lemmas.List.{get_or_default, get_or_past, get_or-map, get_or-set_same, length-map, length-set, map-set}
use Rattle.tc_lists.proofs.Sets.{get_or-set_cases}
use Rattle.tc_model.specs.Calls.{id_of, same_id, calls_of}
use Rattle.tc_model.specs.Run.{HasCall}
use Rattle.tc_model.specs.declared.calls.CallId.{CallId}
use Rattle.tc_model.specs.declared.entries.Entry.{Entry}
use Rattle.tc_model.proofs.NextEntry.{same_id-at, HasCall-other}
use Rattle.tc_calls.specs.Calls.{place_of, number_at, Rises, IsAbove, SetsPlace}
use Rattle.tc_calls.specs.Places.{calls_in, lists_of, place_in, room_in, IsToldAt, ArePlaces, Puts}
use Rattle.tc_calls.proofs.CallLists.{place_of-at}

module _ (id : CallId) (place : ℕ) (old new : List (List (ℕ × ℕ))) (puts : Puts id place old new) where
  calls-new : (agent : ℕ) → calls_in new agent ≡ cond (eqb id.agent agent) puts.calls (calls_in old agent)
  calls-new agent =
      ap (λ lists. calls_in lists agent) puts.lists ∙ get_or-set_cases old id.agent agent puts.calls [] puts.inside

  pub puts-place : (j : CallId) → place_in new j ≡ cond (same_id id j) (Some place) (place_in old j)
  puts-place j =
      ⊎_elim
      (λ (own : eqb id.agent j.agent ≡ true).
      let here : calls_in new j.agent ≡ puts.calls =
      calls-new j.agent ∙ ap (λ b. cond b puts.calls (calls_in old j.agent)) own in
      ap (λ calls. place_of calls j.number) here ∙ puts.sets j.number
      ∙ ap (λ agent. cond (eqb id.number j.number) (Some place) (place_of (calls_in old agent) j.number))
      (eqb-true id.agent j.agent own)
      ∙ ap (λ b. cond (b && eqb id.number j.number) (Some place) (place_in old j)) (sym own))
      (λ (other : eqb id.agent j.agent ≡ false).
      ap (λ calls. place_of calls j.number)
      (calls-new j.agent ∙ ap (λ b. cond b puts.calls (calls_in old j.agent)) other)
      ∙ ap (λ b. cond (b && eqb id.number j.number) (Some place) (place_in old j)) (sym other))
      (cases_Bool (eqb id.agent j.agent))

  pub puts-rise : ((agent : ℕ) → Rises (calls_in old agent)) → (agent : ℕ) → Rises (calls_in new agent)
  puts-rise rise agent =
      ⊎_elim
      (λ (own : eqb id.agent agent ≡ true).
      subst Rises (sym (calls-new agent ∙ ap (λ b. cond b puts.calls (calls_in old agent)) own)) puts.rises)
      (λ (other : eqb id.agent agent ≡ false).
      subst Rises (sym (calls-new agent ∙ ap (λ b. cond b puts.calls (calls_in old agent)) other)) (rise agent))
      (cases_Bool (eqb id.agent agent))

-- a number above those of the agent's entries is above those of its calls
pub calls-below : (lists : List (List (ℕ × ℕ))) (history : List Entry) (id : CallId) → ArePlaces lists history
    → All (λ d. (id_of d).number < id.number) (calls_of id.agent history) → IsAbove id.number (calls_in lists id.agent)
calls-below lists history id places above i d inside =
    let calls : List (ℕ × ℕ) = calls_in lists id.agent in
    let j : CallId = record { agent = id.agent; number = number_at calls i } in
    let there : place_in lists j ≡ Some (get_or calls i (0, 0)).1 =
    place_of-at calls j.number i (places.rise id.agent) (record { inside = inside; of = refl }) in
    let told : IsToldAt history j (get_or calls i (0, 0)).1 =
    subst (λ o. MatchOption o (HasCall j history → ⊥) (IsToldAt history j)) there (places.index j) in
    let below : j.number < id.number =
    ⊎_elim (λ (low : j.number < id.number). low)
    (λ (high : id.number ≤ j.number).
    absurd (both_ways (same_id j j) (HasCall-other history j j (λ k e within. omega (arith, above k e within, high)) told.called)
    (same_id-at j j refl)))
    (cases_lt j.number id.number) in
    subst (λ (call : ℕ × ℕ). call.0 < id.number) (get_or_default calls i (0, 0) d inside) below

-- lists without a call are the places of no history
pub places-none : (lists : List (List (ℕ × ℕ))) → All (λ calls. calls ≡ []) lists → ArePlaces lists []
places-none lists none =
    let empty : (agent : ℕ) → calls_in lists agent ≡ [] =
    λ agent. ⊎_elim (λ (inside : agent < length lists). none agent [] inside)
    (λ (past : length lists ≤ agent). get_or_past lists agent [] past) (cases_lt agent (length lists)) in
    record {
      index = λ id. subst (λ calls. MatchOption (place_of calls id.number) (HasCall id [] → ⊥) (IsToldAt [] id)) (sym (empty id.agent))
          (λ has. absurd (omega (arith, has.stands.1)));
      rise = λ agent. subst Rises (sym (empty agent)) (λ i j before inside. absurd (omega (arith, inside)));
    }

-- what one of the vectors holds, and what another in its place
module _ {S : Type 0} (places : List (Vec (ℕ × ℕ) S)) where
  pub room-inside : (agent : ℕ) → 0 < room_in places agent → agent < length places
  room-inside agent room =
      let spare : Vec (ℕ × ℕ) S → ℕ = λ v. v.cap - v.len in
      ⊎_elim (λ (inside : agent < length places). inside)
      (λ (past : length places ≤ agent).
      let none : room_in places agent ≡ 0 = get_or_past (map spare places) agent 0 (omega (arith, past, length-map places spare)) in
      absurd (omega (arith, room, none)))
      (cases_lt agent (length places))

  module _ (agent : ℕ) (old : Vec (ℕ × ℕ) S) (inside : agent < length places) (at : old ≡ get_or places agent old) where
    pub calls-at : calls_in (lists_of places) agent ≡ old.items
    calls-at = get_or-map (λ (v : Vec (ℕ × ℕ) S). v.items) places agent old [] inside ∙ ap (λ (v : Vec (ℕ × ℕ) S). v.items) (sym at)

    pub room-at : 0 < room_in places agent → old.len < old.cap
    room-at room =
        let there : room_in places agent ≡ old.cap - old.len =
        get_or-map (λ (v : Vec (ℕ × ℕ) S). v.cap - v.len) places agent old 0 inside ∙ ap (λ (v : Vec (ℕ × ℕ) S). v.cap - v.len) (sym at) in
        omega (arith, room, there)

    pub same-set : (new : Vec (ℕ × ℕ) S) → new.items ≡ old.items → lists_of (set places agent new) ≡ lists_of places
    same-set new same =
        map-set_same (λ (v : Vec (ℕ × ℕ) S). v.items) places agent new old (same ∙ ap (λ (v : Vec (ℕ × ℕ) S). v.items) at)

    pub room-set : (new : Vec (ℕ × ℕ) S) → new.len < new.cap → 0 < room_in (set places agent new) agent
    room-set new room =
        let there : room_in (set places agent new) agent ≡ new.cap - new.len =
        get_or-map (λ (v : Vec (ℕ × ℕ) S). v.cap - v.len) (set places agent new) agent old 0 (omega (arith, inside, length-set places agent new))
        ∙ ap (λ (v : Vec (ℕ × ℕ) S). v.cap - v.len) (get_or-set_same places agent new old inside) in
        omega (arith, room, there)

    pub puts-set : (number place : ℕ) (new : Vec (ℕ × ℕ) S) → SetsPlace number place old.items new.items → Rises new.items
        → Puts (record { agent = agent; number = number }) place (lists_of places) (lists_of (set places agent new))
    puts-set number place new sets rises = record {
      inside = omega (arith, inside, length-map places (λ (v : Vec (ℕ × ℕ) S). v.items));
      calls = new.items;
      lists = map-set (λ (v : Vec (ℕ × ℕ) S). v.items) places agent new;
      sets = subst (λ calls. SetsPlace number place calls new.items) (sym calls-at) sets;
      rises = rises;
    }

  -- what has a place is of an agent that has a list
  pub list-inside : (id : CallId) → (place_in (lists_of places) id ≡ None → ⊥) → id.agent < length places
  list-inside id there =
      ⊎_elim (λ (inside : id.agent < length places). inside)
      (λ (past : length places ≤ id.agent).
      absurd (there (ap (λ calls. place_of calls id.number)
      (get_or_past (lists_of places) id.agent [] (omega (arith, past, length-map places (λ (v : Vec (ℕ × ℕ) S). v.items)))))))
      (cases_lt id.agent (length places))
