-- What a turn makes of a pass.
use Rattle.std.proofs.Common.{◌≡◌, ℕ, ◌-◌, ◌<◌, ◌≤◌, List, [], ◌∷◌, ◌++◌, Bool, true, false, All, Some, Option, Ok, Err, IfOk, OnErr, is_ok, refl, sym, ap, ◌∙◌, subst, length}
use Rattle.std.specs.declared.result.Result.{Result}
use Rattle.std.proofs.lemmas.List.{append-nil}
use Rattle.std.proofs.lemmas.Bool.{true≢false}
use mathlib.Core.List.{IsPrefix}
use Rattle.tc_model.specs.Calls.{calls_of, id_of, call_of}
use Rattle.tc_model.specs.Run.{IsNext, HasCall}
use Rattle.tc_model.specs.Entries.{IsFull, pending_after}
use Rattle.tc_model.specs.Entries as entries
use Rattle.tc_model.specs.Replies.{reply_in}
use Rattle.tc_model.specs.State.{Origin}
use Rattle.tc_model.specs.declared.calls.Op.{Op}
use Rattle.tc_model.specs.declared.entries.Entry.{Entry}
use Rattle.tc_model.specs.declared.entries.Entry.TheVariants.{Called, Looked}
use Rattle.tc_centre.specs.Centre.{Centre, IsFullCentre, weight_in, waiting_in}
use Rattle.tc_calls.specs.Places.{IsGave}
use Rattle.tc_centre.specs.Turns.{Serves}
use Rattle.tc_centre.specs.Turns as centre
use Rattle.tc_centre.specs.Owners.{owner_of}
use Rattle.tc_centre.specs.declared.answers.Answer.{Answer}
use Rattle.tc_centre.specs.declared.answers.Poll.{Poll}
use Rattle.tc_centre.specs.declared.answers.PollFault.{PollFault}
use Rattle.tc_centre.specs.declared.answers.PollFault.TheVariants as poll
use Rattle.tc_shared.specs.declared.answers.SharedPollFault.{SharedPollFault}
use Rattle.tc_model.specs.declared.outcomes.Reply.{Reply}
use Rattle.std.proofs.lemmas.List.Elements.{All-nil}
use Rattle.tc_centre.specs.declared.answers.TurnFault.{TurnFault}
use Rattle.tc_centre.specs.declared.answers.TurnFault.TheVariants as turn
use Rattle.tc_shared.specs.declared.answers.CallFault.{CallFault}
use Rattle.tc_turn.specs.Owners.{entries_of, OthersOwnNone}
use Rattle.tc_turn.specs.Passes.{TurnstileState, PassState, Enters, Leaves}
use Rattle.tc_shared.specs.Passes.{IsPassOf, IsAtRest, IsPaused, IsPausedOf, IsCallRefused, IsSharedPollRefused, IsSameFault, IsSamePollFault, CallsInTurn, PollsInTurn, Sees, SeesFull, SeesRoom, after_turn}
use Rattle.tc_centre.proofs.Owned.{owned-calls}
use Rattle.tc_shared.proofs.Adding.{others-none, own-more, none-of-none}

-- whether the fault is Full
abbrev is-full : Result Answer TurnFault → Bool
is-full (Ok told) = false
is-full (Err (turn.Full weight pending)) = true
is-full (Err turn.NoMemory) = false

-- want of memory is told of no full centre
pub not-full : (r : Result Answer TurnFault) (weight pending : ℕ) → r ≡ Err turn.NoMemory → r ≡ Err (turn.Full weight pending) → ⊥
not-full r weight pending memory full = absurd (true≢false (sym (ap is-full full) ∙ ap is-full memory))

-- whether the fault is Full, and whether it is Stranger
abbrev is-full-poll : Result Poll PollFault → Bool
is-full-poll (Ok told) = false
is-full-poll (Err poll.Stranger) = false
is-full-poll (Err (poll.Full weight pending)) = true
is-full-poll (Err poll.NoMemory) = false

abbrev is-stranger : Result Poll PollFault → Bool
is-stranger (Ok told) = false
is-stranger (Err poll.Stranger) = true
is-stranger (Err (poll.Full weight pending)) = false
is-stranger (Err poll.NoMemory) = false

pub not-full-poll : (r : Result Poll PollFault) (weight pending : ℕ) → r ≡ Err poll.NoMemory → r ≡ Err (poll.Full weight pending) → ⊥
not-full-poll r weight pending memory full = absurd (true≢false (sym (ap is-full-poll full) ∙ ap is-full-poll memory))

pub not-stranger : (r : Result Poll PollFault) → r ≡ Err poll.NoMemory → r ≡ Err poll.Stranger → ⊥
not-stranger r memory stranger = absurd (true≢false (sym (ap is-stranger stranger) ∙ ap is-stranger memory))

-- an answer is no fault
pub ok-no-fault : (r : Result Answer TurnFault) (told : Answer) (why : TurnFault) → r ≡ Ok told → r ≡ Err why → ⊥
ok-no-fault r told why ok err = absurd (true≢false (ap (λ (x : Result Answer TurnFault). is_ok x) (sym ok ∙ err)))

pub poll-no-fault : (r : Result Poll PollFault) (told : Poll) (why : PollFault) → r ≡ Ok told → r ≡ Err why → ⊥
poll-no-fault r told why ok err = absurd (true≢false (ap (λ (x : Result Poll PollFault). is_ok x) (sym ok ∙ err)))

module _ (t : TurnstileState Origin) (p m q : PassState Entry Origin) (old new : Centre) (own : IsPassOf t p) (free : p.holds ≡ false)
    (origin : old.origin ≡ t.origin) (enters : Enters owner_of p old.history m) where
  -- the agent's next call
  pub is-next : (number : ℕ) → All (λ e. (id_of e).number < number) p.mine → IsNext old.origin old.history (call_of p.number number)
  is-next number below = record {
    agent = subst (λ (o : Origin). p.number < length o.agents) (sym origin) own.agent;
    number = subst (λ (es : List Entry). All (λ e. (id_of e).number < number) es) (sym enters.mine ∙ owned-calls p.number old.history) below;
  }

  seen-old : old.history ≡ m.seen
  seen-old = sym (ap (λ (x : PassState Entry Origin). x.seen) enters.state)

  number-same : m.number ≡ p.number
  number-same = ap (λ (x : PassState Entry Origin). x.number) enters.state

  -- what a turn adds: nothing, where it is refused
  pub adds : (number : ℕ) (op : Op) (served : Result Answer TurnFault)
      → IfOk served (Serves old new (call_of p.number number) op) → OnErr served (new ≡ old)
      → (more : List Entry) × (new.history ≡ m.seen ++ more) × OthersOwnNone owner_of m.number more
  adds number op (Ok told) serves same =
      let s : Serves old new (call_of p.number number) op told = serves in
      let e : Entry = Called (call_of p.number number) op s.result s.items in (
        e ∷ s.gaves,
        ap (λ (c : Centre). c.history) s.appended ∙ ap (λ (h : List Entry). h ++ e ∷ s.gaves) seen-old,
        others-none e m.number (ap (λ (n : ℕ). Some n) (sym number-same)) s.gaves s.answers,
      )
  adds number op (Err why) serves same = (
    [],
    ap (λ (c : Centre). c.history) same ∙ seen-old ∙ sym (append-nil m.seen),
    none-of-none m.number,
  )

  -- the pass after a turn that led to a history at rest
  own-after : (history mine : List Entry) → IsAtRest t.origin history → calls_of p.number history ≡ mine
      → IsPassOf t (after_turn p history mine)
  own-after history mine rest calls = record { own = own.own; agent = own.agent; rest = rest; mine = calls }

  -- the pass after its turn
  left : (history : List Entry) → Leaves owner_of m history q
      → q ≡ after_turn p history (entries_of owner_of p.number history)
  left history leaves =
      leaves
      ∙ ap (λ (x : PassState Entry Origin). record x { seen = history; mine = entries_of owner_of x.number history; holds = false })
      enters.state
      ∙ ap (λ (b : Bool). record p { turns = p.turns - 1; seen = history; mine = entries_of owner_of p.number history; holds = b })
      (sym free)

  pub makes : (number : ℕ) (op : Op) (told : Answer) → (IsFullCentre old → ⊥)
      → Serves old new (call_of p.number number) op told → IsAtRest new.origin new.history
      → Leaves owner_of m new.history q → CallsInTurn t p number op told q
  makes number op told room s rest leaves =
      let e : Entry = Called (call_of p.number number) op s.result s.items in
      let grown : new.history ≡ old.history ++ e ∷ s.gaves = ap (λ (c : Centre). c.history) s.appended in
      let same : new.origin ≡ t.origin = ap (λ (c : Centre). c.origin) s.appended ∙ origin in
      let mine : entries_of owner_of p.number new.history ≡ p.mine ++ e ∷ [] =
      ap (entries_of owner_of p.number) grown ∙ own-more e p.number refl s.gaves s.answers old.history
      ∙ ap (λ (es : List Entry). es ++ e ∷ []) enters.mine in
      let state : q ≡ after_turn p new.history (entries_of owner_of p.number new.history) = left new.history leaves in
      let owned : IsPassOf t q =
      subst (IsPassOf t) (sym state) (own-after new.history (entries_of owner_of p.number new.history)
      (subst (λ (o : Origin). IsAtRest o new.history) same rest) (sym (owned-calls p.number new.history))) in
      record {
        found = old.history;
        finds = record { own = owned; left = enters.left; known = enters.seen; floor = enters.floor };
        room = λ full. room (subst (λ (o : Origin). IsFull o old.history) (sym origin) full);
        result = s.result;
        items = s.items;
        gaves = s.gaves;
        answers = s.answers;
        after = state ∙ ap (λ (h : List Entry). after_turn p h (entries_of owner_of p.number new.history)) grown
            ∙ ap (after_turn p (old.history ++ e ∷ s.gaves)) mine;
        answer = subst (λ (h : List Entry). centre.IsAnswer (reply_in h (call_of p.number number)) told)
            (sym (ap (λ (x : PassState Entry Origin). x.seen) state)) s.answer;
      }

  -- a turn that added nothing
  pub sees : new ≡ old → IsAtRest new.origin new.history → Leaves owner_of m new.history q → Sees t p q
  sees same rest leaves =
      let grown : new.history ≡ old.history = ap (λ (c : Centre). c.history) same in
      let where_from : new.origin ≡ t.origin = ap (λ (c : Centre). c.origin) same ∙ origin in
      let mine : entries_of owner_of p.number new.history ≡ p.mine =
      ap (entries_of owner_of p.number) grown ∙ enters.mine in
      let state : q ≡ after_turn p new.history (entries_of owner_of p.number new.history) = left new.history leaves in
      let now : q.seen ≡ new.history = ap (λ (x : PassState Entry Origin). x.seen) state in
      let owned : IsPassOf t q =
      subst (IsPassOf t) (sym state) (own-after new.history (entries_of owner_of p.number new.history)
      (subst (λ (o : Origin). IsAtRest o new.history) where_from rest) (sym (owned-calls p.number new.history))) in
      record {
        finds = record {
          own = owned;
          left = enters.left;
          known = subst (IsPrefix p.seen) (sym (now ∙ grown)) enters.seen;
          floor = subst (λ (h : List Entry). p.floor ≤ length h) (sym (now ∙ grown)) enters.floor;
        };
        after = state ∙ ap (λ (h : List Entry). after_turn p h (entries_of owner_of p.number new.history)) (sym now)
            ∙ ap (after_turn p q.seen) mine;
      }

  found-seen : new ≡ old → Leaves owner_of m new.history q → old.history ≡ q.seen
  found-seen kept leaves =
      sym (ap (λ (c : Centre). c.history) kept) ∙ sym (ap (λ (x : PassState Entry Origin). x.seen) (left new.history leaves))

  -- the turn found the centre full
  sees-full : (weight pending : ℕ) → IsFullCentre old → weight ≡ entries.weight old.history
      → pending ≡ pending_after old.origin old.history → new ≡ old
      → IsAtRest new.origin new.history → Leaves owner_of m new.history q → SeesFull t p weight pending q
  sees-full weight pending full heavy many kept rest leaves =
      let now : old.history ≡ q.seen = found-seen kept leaves in
      record {
        sees = sees kept rest leaves;
        full = subst (λ (h : List Entry). IsFull t.origin h) now (subst (λ (o : Origin). IsFull o old.history) origin full);
        weight_is = heavy ∙ ap entries.weight now;
        pending_is = many ∙ ap (λ (o : Origin). pending_after o old.history) origin ∙ ap (pending_after t.origin) now;
      }

  -- the turn found room
  sees-room : (IsFullCentre old → ⊥) → new ≡ old
      → IsAtRest new.origin new.history → Leaves owner_of m new.history q → SeesRoom t p q
  sees-room room kept rest leaves = record {
    sees = sees kept rest leaves;
    room = λ full. room (subst (λ (o : Origin). IsFull o old.history) (sym origin)
        (subst (λ (h : List Entry). IsFull t.origin h) (sym (found-seen kept leaves)) full));
  }

  -- a look told the reply
  pub looks : (number agent : ℕ) (reply : Option Reply) → agent ≡ p.number
      → reply ≡ reply_in old.history (record { agent = agent; number = number }) → new ≡ old
      → IsAtRest new.origin new.history → Leaves owner_of m new.history q
      → Sees t p q × (reply ≡ reply_in q.seen (call_of p.number number))
  looks number agent reply same told kept rest leaves = (
    sees kept rest leaves,
    told ∙ ap (λ (k : ℕ). reply_in old.history (record { agent = k; number = number })) same
        ∙ ap (λ (h : List Entry). reply_in h (call_of p.number number)) (found-seen kept leaves),
  )

  -- why a turn was refused
  pub refuses : (r : Result Answer TurnFault) (why : TurnFault) (told : CallFault) → r ≡ Err why
      → (IsFullCentre old → r ≡ Err (turn.Full (weight_in old) (waiting_in old))) → centre.IsFullFault old why → IsSameFault why told → new ≡ old
      → IsAtRest new.origin new.history → Leaves owner_of m new.history q → IsCallRefused t p told q
  refuses r (turn.Full weight pending) told is full refused same kept rest leaves =
      subst (λ (f : CallFault). IsCallRefused t p f q) (sym same)
      (sees-full weight pending refused.0 refused.1 refused.2 kept rest leaves)
  refuses r turn.NoMemory told is full refused same kept rest leaves =
      subst (λ (f : CallFault). IsCallRefused t p f q) (sym same)
      (sees-room (λ f. not-full r (weight_in old) (waiting_in old) is (full f)) kept rest leaves)

  -- a turn that is held
  pub pauses : IsAtRest old.origin old.history → IsPaused t p old m
  pauses rest =
      let known : m.seen ≡ old.history = sym seen-old in
      let state : m ≡ record p { turns = p.turns - 1; seen = m.seen; holds = true } =
      enters.state ∙ ap (λ (h : List Entry). record p { turns = p.turns - 1; seen = h; holds = true }) (sym known) in
      let mine : calls_of p.number old.history ≡ p.mine = sym (owned-calls p.number old.history) ∙ enters.mine in
      let owned : IsPassOf t (record p { turns = p.turns - 1; seen = old.history; holds = true }) = record {
        own = own.own;
        agent = own.agent;
        rest = subst (λ (o : Origin). IsAtRest o old.history) origin rest;
        mine = mine;
      } in
      record {
        paused = record {
          own = subst (IsPassOf t) (sym enters.state) owned;
          holds = ap (λ (x : PassState Entry Origin). x.holds) enters.state;
          origin = origin;
          history = seen-old;
        };
        left = enters.left;
        known = subst (IsPrefix p.seen) seen-old enters.seen;
        floor = subst (λ (h : List Entry). p.floor ≤ length h) seen-old enters.floor;
        after = state;
      }

  -- what an earlier call came to was told
  pub tells : (number asked : ℕ) (told : Poll) → (HasCall (call_of p.number asked) old.history → IsFullCentre old → ⊥)
      → centre.Tells old new (call_of p.number number) asked told → IsAtRest new.origin new.history
      → Leaves owner_of m new.history q → PollsInTurn t p number asked told q
  tells number asked told room s rest leaves =
      let reply : Option Reply = reply_in old.history (call_of p.number asked) in
      let e : Entry = Looked (call_of p.number number) asked reply in
      let grown : new.history ≡ old.history ++ e ∷ [] = ap (λ (c : Centre). c.history) s.appended in
      let same : new.origin ≡ t.origin = ap (λ (c : Centre). c.origin) s.appended ∙ origin in
      let mine : entries_of owner_of p.number new.history ≡ p.mine ++ e ∷ [] =
      ap (entries_of owner_of p.number) grown ∙ own-more e p.number refl [] (All-nil IsGave) old.history
      ∙ ap (λ (es : List Entry). es ++ e ∷ []) enters.mine in
      let state : q ≡ after_turn p new.history (entries_of owner_of p.number new.history) = left new.history leaves in
      let owned : IsPassOf t q =
      subst (IsPassOf t) (sym state) (own-after new.history (entries_of owner_of p.number new.history)
      (subst (λ (o : Origin). IsAtRest o new.history) same rest) (sym (owned-calls p.number new.history))) in
      record {
        found = old.history;
        finds = record { own = owned; left = enters.left; known = enters.seen; floor = enters.floor };
        called = s.called;
        room = λ full. room s.called (subst (λ (o : Origin). IsFull o old.history) (sym origin) full);
        reply = reply;
        is = refl;
        after = state ∙ ap (λ (h : List Entry). after_turn p h (entries_of owner_of p.number new.history)) grown
            ∙ ap (after_turn p (old.history ++ e ∷ [])) mine;
        poll = s.poll;
      }

  -- what a look with an entry adds: nothing, where it is refused
  pub adds-look : (number asked : ℕ) (polled : Result Poll PollFault)
      → IfOk polled (λ told. centre.Tells old new (call_of p.number number) asked told) → OnErr polled (new ≡ old)
      → (more : List Entry) × (new.history ≡ m.seen ++ more) × OthersOwnNone owner_of m.number more
  adds-look number asked (Ok told) tells same =
      let s : centre.Tells old new (call_of p.number number) asked told = tells in
      let e : Entry = Looked (call_of p.number number) asked (reply_in old.history (call_of p.number asked)) in (
        e ∷ [],
        ap (λ (c : Centre). c.history) s.appended ∙ ap (λ (h : List Entry). h ++ e ∷ []) seen-old,
        others-none e m.number (ap (λ (n : ℕ). Some n) (sym number-same)) [] (All-nil IsGave),
      )
  adds-look number asked (Err why) tells same = (
    [],
    ap (λ (c : Centre). c.history) same ∙ seen-old ∙ sym (append-nil m.seen),
    none-of-none m.number,
  )

  -- why a look with an entry was refused
  pub refuses-look : (number asked : ℕ) (r : Result Poll PollFault) (why : PollFault) (told : SharedPollFault) → r ≡ Err why
      → ((HasCall (call_of p.number asked) old.history → ⊥) → r ≡ Err poll.Stranger)
      → (HasCall (call_of p.number asked) old.history → IsFullCentre old → r ≡ Err (poll.Full (weight_in old) (waiting_in old)))
      → centre.IsPollRefused old (call_of p.number number) asked why → IsSamePollFault why told → new ≡ old
      → IsAtRest new.origin new.history → Leaves owner_of m new.history q → IsSharedPollRefused t p asked told q
  refuses-look number asked r poll.Stranger told is strange full refused same kept rest leaves =
      subst (λ (f : SharedPollFault). IsSharedPollRefused t p asked f q) (sym same)
      (sees kept rest leaves, subst (λ (h : List Entry). HasCall (call_of p.number asked) h → ⊥) (found-seen kept leaves) refused)
  refuses-look number asked r (poll.Full weight pending) told is strange full refused same kept rest leaves =
      subst (λ (f : SharedPollFault). IsSharedPollRefused t p asked f q) (sym same) (
        sees-full weight pending refused.1 refused.2 refused.3 kept rest leaves,
        subst (λ (h : List Entry). HasCall (call_of p.number asked) h) (found-seen kept leaves) refused.0,
      )
  refuses-look number asked r poll.NoMemory told is strange full refused same kept rest leaves =
      let called : (HasCall (call_of p.number asked) old.history → ⊥) → ⊥ = λ none. not-stranger r is (strange none) in
      subst (λ (f : SharedPollFault). IsSharedPollRefused t p asked f q) (sym same) (
        sees-room (λ f. called (λ has. not-full-poll r (weight_in old) (waiting_in old) is (full has f))) kept rest leaves,
        subst (λ (h : List Entry). (HasCall (call_of p.number asked) h → ⊥) → ⊥) (found-seen kept leaves) called,
      )

-- a turn that was held is given back
module _ (t : TurnstileState Origin) (p q : PassState Entry Origin) (core : Centre) (paused : IsPausedOf t core p) where
  pub resumes-grown : (more : List Entry) × (core.history ≡ p.seen ++ more) × OthersOwnNone owner_of p.number more
  resumes-grown = ([], paused.history ∙ sym (append-nil p.seen), none-of-none p.number)

  pub resumes : Leaves owner_of p core.history q → q ≡ record p { holds = false }
  resumes leaves =
      leaves
      ∙ ap (λ (h : List Entry). record p { seen = h; mine = entries_of owner_of p.number h; holds = false }) paused.history
      ∙ ap (λ (es : List Entry). record p { seen = p.seen; mine = es; holds = false }) (owned-calls p.number p.seen ∙ paused.own.mine)

  pub resumes-own : Leaves owner_of p core.history q → IsPassOf t q
  resumes-own leaves =
      let back : IsPassOf t (record p { holds = false }) =
      record { own = paused.own.own; agent = paused.own.agent; rest = paused.own.rest; mine = paused.own.mine } in
      subst (IsPassOf t) (sym (resumes leaves)) back
