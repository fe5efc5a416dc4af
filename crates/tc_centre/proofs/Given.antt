-- The reactions of an answer are those that the table of answers asks for.
use Rattle.std.proofs.Common.{◌≡◌, ◌+◌, ◌*◌, ◌≤◌, ℕ, List, Option, Some, None, get_or, slice_get, length, refl, sym, ap, subst, ◌∙◌}
use Rattle.std.proofs.lemmas.Option.{same_Some, get_or_from_slice_get}
use Rattle.tc_lists.specs.Firsts.{IsFirst}
use Rattle.tc_term.specs.Tree.{Tree}
use Rattle.tc_bag.specs.Stock.{AddsYounger, Row, Stock, tuples_of, tuple_at}
use Rattle.tc_pending.specs.Answers.{IsNextAnswer, IsAnsweredBy, HasOldest}
use Rattle.tc_model.specs.Cascades.{IsWhole, IsOver}
use Rattle.tc_model.specs.Choices.{TheFirst}
use Rattle.tc_model.specs.Events.{Occurrence, success_event}
use Rattle.tc_model.specs.Reactions.{Rule}
use Rattle.tc_model.specs.State.{State, Origin, IsMatch, NoneMatches, WantsTuple, after_taking}
use Rattle.tc_model.specs.Tables.{setting_of, IsGiven, IsGivenFor, IsGivenTuple, asking_op}
use Rattle.tc_model.specs.declared.calls.CallId.{CallId}
use Rattle.tc_model.specs.declared.calls.Request.{Request}
use Rattle.tc_model.specs.declared.calls.Wants.{Wants}
use Rattle.tc_model.specs.declared.calls.Wants.TheVariants.{Take, Look, Absence}
use Rattle.tc_model.specs.declared.events.EventOp.TheVariants as op
use Rattle.tc_model.specs.declared.events.Phase.TheVariants.{Post}
use Rattle.tc_model.specs.declared.items.Item.{Item}
use Rattle.tc_model.specs.declared.outcomes.Outcome.{Outcome}
use Rattle.tc_model.specs.declared.outcomes.Outcome.TheVariants as outcome
use Rattle.tc_model.specs.declared.outcomes.Outcome.TheVariants.{Took, Absent}
use Rattle.tc_model.specs.declared.limits.TheConstants.{MOST_GOALS}
use Rattle.tc_cascade.specs.Ends.{items_of}
use Rattle.tc_cascade.specs.declared.cascade.Cascade.{Cascade}
use Rattle.tc_cascade.specs.declared.cascade.Cascade.TheVariants.{Whole, Over}
use Rattle.tc_phases.specs.Phases.{setting_in, Reacts, Overruns, IsPhase}
use Rattle.tc_phases.specs.declared.regime.Regime.{Regime}
use Rattle.tc_centre.specs.Held.{origin_of, held}
use Rattle.tc_centre.specs.Operations.{IsRegimeOf, after_giving, Gives}
use Rattle.tc_centre.specs.declared.founding.Founding.{Founding}
use Rattle.tc_centre.specs.declared.holdings.Holdings.{Holdings}

module _ (f : Founding) (clauses : List Rule) (id : CallId) (regime : Regime) (of : IsRegimeOf f clauses id regime)
    (e : Occurrence) (tuples : List Tree) (items : List Item) where
  pub reacts : Reacts regime e tuples items → IsWhole TheFirst clauses (setting_of (origin_of f) id) f.budget e tuples items
  reacts h =
      subst (λ cs. IsWhole TheFirst cs (setting_of (origin_of f) id) f.budget e tuples items) of.clauses_are
      (subst (λ s. IsWhole TheFirst regime.spec.now s f.budget e tuples items) of.setting
      (subst (λ b. IsWhole TheFirst regime.spec.now (setting_in regime) b e tuples items) of.budget h))

  pub overruns : Overruns regime e tuples items → IsOver TheFirst clauses (setting_of (origin_of f) id) f.budget e tuples items
  overruns h =
      subst (λ cs. IsOver TheFirst cs (setting_of (origin_of f) id) f.budget e tuples items) of.clauses_are
      (subst (λ s. IsOver TheFirst regime.spec.now s f.budget e tuples items) of.setting
      (subst (λ b. IsOver TheFirst regime.spec.now (setting_in regime) b e tuples items) of.budget h))

-- a tuple of an age answers a request that wants a tuple, and it is the oldest that matches
pub tuple-wanted : (rows : List Row) (w : Wants) (t : Tree) (age : ℕ) → IsAnsweredBy rows w t (Some age) → WantsTuple w
tuple-wanted rows Take t age answer = tt
tuple-wanted rows Look t age answer = tt
tuple-wanted rows Absence t age answer = absurd answer

pub tuple-oldest : (rows : List Row) (w : Wants) (t : Tree) (age : ℕ) → IsAnsweredBy rows w t (Some age) → HasOldest rows t age
tuple-oldest rows Take t age answer = answer
tuple-oldest rows Look t age answer = answer
tuple-oldest rows Absence t age answer = absurd answer

-- no age answers a request for absence, where no tuple matches
absence-wanted : (rows : List Row) (w : Wants) (t : Tree) → IsAnsweredBy rows w t None → w ≡ Absence
absence-wanted rows Take t answer = absurd answer
absence-wanted rows Look t answer = absurd answer
absence-wanted rows Absence t answer = refl

absence-none : (rows : List Row) (w : Wants) (t : Tree) → IsAnsweredBy rows w t None → NoneMatches (tuples_of rows) t
absence-none rows Take t answer = absurd answer
absence-none rows Look t answer = absurd answer
absence-none rows Absence t answer = answer

-- what the table has for requests for tuples, it has for one of them
given-tuple : (origin : Origin) (s : State) (w : Wants) (r : Request) (result : Outcome) (items : List Item) → WantsTuple w
    → IsGivenTuple TheFirst origin s r result items → IsGivenFor TheFirst origin s w r result items
given-tuple origin s Take r result items wanted given = given
given-tuple origin s Look r result items wanted given = given
given-tuple origin s Absence r result items wanted given = absurd wanted

-- what an answer comes to, by its cascade
abbrev pub given_outcome : Tree → Cascade → Outcome
given_outcome tuple (Whole items) = Took tuple
given_outcome tuple (Over items) = outcome.Over Post (Some tuple)

abbrev pub told_outcome : Cascade → Outcome
told_outcome (Whole items) = Absent
told_outcome (Over items) = outcome.Over Post None

-- the phase of an answer gives the outcome that the table of answers has
module _ (f : Founding) (clauses : List Rule) (regime : Regime) (r : Request) (of : IsRegimeOf f clauses r.id regime)
    (old new : Stock) (requests : List Request) where
  module _ (tuple : Tree) (first : IsFirst (IsMatch r.template) (tuples_of old.now) tuple) (wanted : WantsTuple r.wants) where
    pub phase-given : (c : Cascade)
        → IsPhase regime (success_event (asking_op r.wants) tuple) (after_taking r.wants tuple (tuples_of old.now)) old new c
        → IsGiven TheFirst (origin_of f) (held clauses old.now requests) r (given_outcome tuple c) (items_of c)
    phase-given (Whole items) h =
        given-tuple (origin_of f) (held clauses old.now requests) r.wants r (Took tuple) items wanted
        (first, reacts f clauses r.id regime of _ _ items h.0)
    phase-given (Over items) h =
        given-tuple (origin_of f) (held clauses old.now requests) r.wants r (outcome.Over Post (Some tuple)) items wanted
        (first, overruns f clauses r.id regime of _ _ items h.0)

    pub phase-state : (c : Cascade)
        → IsPhase regime (success_event (asking_op r.wants) tuple) (after_taking r.wants tuple (tuples_of old.now)) old new c
        → held clauses new.now requests ≡ after_giving r.wants (given_outcome tuple c) (items_of c) (held clauses old.now requests)
    phase-state (Whole items) h = ap (λ ts. record { tuples = ts; clauses = clauses; pending = requests }) h.1
    phase-state (Over items) h = ap (λ (s : Stock). held clauses s.now requests) h.1

  module _ (never : NoneMatches (tuples_of old.now) r.template) (wanted : r.wants ≡ Absence) where
    pub phase-told : (c : Cascade)
        → IsPhase regime (success_event op.No r.template) (tuples_of old.now) old new c
        → IsGiven TheFirst (origin_of f) (held clauses old.now requests) r (told_outcome c) (items_of c)
    phase-told (Whole items) h =
        subst (λ w. IsGivenFor TheFirst (origin_of f) (held clauses old.now requests) w r Absent items) (sym wanted)
        (never, reacts f clauses r.id regime of _ _ items h.0)
    phase-told (Over items) h =
        subst (λ w. IsGivenFor TheFirst (origin_of f) (held clauses old.now requests) w r (outcome.Over Post None) items) (sym wanted)
        (never, overruns f clauses r.id regime of _ _ items h.0)

    pub phase-told-state : (c : Cascade)
        → IsPhase regime (success_event op.No r.template) (tuples_of old.now) old new c
        → held clauses new.now requests ≡ after_giving r.wants (told_outcome c) (items_of c) (held clauses old.now requests)
    phase-told-state (Whole items) h = ap (λ ts. record { tuples = ts; clauses = clauses; pending = requests }) h.1
    phase-told-state (Over items) h = ap (λ (s : Stock). held clauses s.now requests) h.1

-- the request that was read at a place is the one that is answered next
module _ (old : Holdings) (place : ℕ) (age : Option ℕ) (next : IsNextAnswer old.bag.now old.pending.now place age)
    (read : List Request) (r : Request) (at : r ≡ get_or read place r) (same : read ≡ old.pending.now) where
  who : r ≡ next.request
  who =
      at ∙ ap (λ rs. get_or rs place r) same
      ∙ get_or_from_slice_get old.pending.now place next.request r next.stands

  pub read-stands : slice_get old.pending.now place ≡ Some r
  read-stands = next.stands ∙ ap Some (sym who)

  pub read-answer : IsAnsweredBy old.bag.now r.wants r.template age
  read-answer = subst (λ (q : Request). IsAnsweredBy old.bag.now q.wants q.template age) (sym who) next.answer

-- its answer, as the phase tells it
module _ (old new : Holdings) (place : ℕ) (r : Request) (stands : slice_get old.pending.now place ≡ Some r) (regime : Regime)
    (of : IsRegimeOf old.founding old.spec r.id regime) where
  pub gives : (age : ℕ) (t : Tree) (c k : Cascade) → IsAnsweredBy old.bag.now r.wants r.template (Some age)
      → tuple_at age old.bag.now ≡ Some t
      → IsPhase regime (success_event (asking_op r.wants) t) (after_taking r.wants t (tuples_of old.bag.now)) old.bag new.bag c
      → new.bag.next ≤ old.bag.next + 1 + MOST_GOALS * length (items_of c) → AddsYounger old.bag new.bag
      → c ≡ k → Gives place old new r.id (given_outcome t k) (items_of k)
  gives age t c k answer there phase ages kept is =
      let tuples : List Tree = tuples_of old.bag.now in
      let oldest : HasOldest old.bag.now r.template age = tuple-oldest old.bag.now r.wants r.template age answer in
      let wanted : WantsTuple r.wants = tuple-wanted old.bag.now r.wants r.template age answer in
      let first : IsFirst (IsMatch r.template) tuples t =
      subst (IsFirst (IsMatch r.template) tuples) (same_Some oldest.tuple t (sym oldest.found.there ∙ there)) oldest.found.first in
      subst (λ x. Gives place old new r.id (given_outcome t x) (items_of x)) is (record {
        request = r;
        stands = stands;
        of = refl;
        given = phase-given old.founding old.spec regime r of old.bag new.bag old.pending.now t first wanted c phase;
        state = phase-state old.founding old.spec regime r of old.bag new.bag old.pending.now t first wanted c phase;
        next = ages;
        keeps = kept;
      })

  pub tells : (c k : Cascade) → IsAnsweredBy old.bag.now r.wants r.template None
      → IsPhase regime (success_event op.No r.template) (tuples_of old.bag.now) old.bag new.bag c
      → new.bag.next ≤ old.bag.next + 1 + MOST_GOALS * length (items_of c) → AddsYounger old.bag new.bag
      → c ≡ k → Gives place old new r.id (told_outcome k) (items_of k)
  tells c k answer phase ages kept is =
      let wanted : r.wants ≡ Absence = absence-wanted old.bag.now r.wants r.template answer in
      let never : NoneMatches (tuples_of old.bag.now) r.template = absence-none old.bag.now r.wants r.template answer in
      subst (λ x. Gives place old new r.id (told_outcome x) (items_of x)) is (record {
        request = r;
        stands = stands;
        of = refl;
        given = phase-told old.founding old.spec regime r of old.bag new.bag old.pending.now never wanted c phase;
        state = phase-told-state old.founding old.spec regime r of old.bag new.bag old.pending.now never wanted c phase;
        next = ages;
        keeps = kept;
      })
