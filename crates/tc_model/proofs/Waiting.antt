-- Where no call may have to wait, nobody waits and nothing is given.
use Rattle.std.proofs.Common.{◌≡◌, ◌<◌, ◌≤◌, ℕ, zero, suc, add-one, List, [], ◌∷◌, ◌++◌, All}
use Rattle.std.proofs.Common.{length, get_or, take, refl, sym, ap, subst, ◌∙◌, arith}
use Rattle.std.proofs.lemmas.List.{take_more, take_all}
use Rattle.std.proofs.lemmas.Option.{slice_get-get_or}
use Rattle.tc_model.specs.Choices.{AnyOne}
use Rattle.tc_model.specs.State.{State, Origin, opening, reached_by, after_call, after_entry, after_history}
use Rattle.tc_model.specs.Run.{IsLegal, IsRun}
use Rattle.tc_model.specs.Waiting.{IsImmediate, NeverWaits, GivesNothing}
use Rattle.tc_model.specs.declared.calls.CallId.{CallId}
use Rattle.tc_model.specs.declared.calls.Op.{Op}
use Rattle.tc_model.specs.declared.calls.Op.TheVariants.{Out, In, Rd, Inp, Rdp, No, Nop, SetSpec, GetSpec}
use Rattle.tc_model.specs.declared.items.Item.{Item}
use Rattle.tc_model.specs.declared.outcomes.Outcome.{Outcome}
use Rattle.tc_model.specs.declared.outcomes.Outcome.TheVariants.{Done, Took, NoTuple, Absent, Found, Pending, Spec, Over}
use Rattle.tc_model.specs.declared.entries.Entry.{Entry}
use Rattle.tc_model.specs.declared.entries.Entry.TheVariants.{Called, Gave, Looked}
use Rattle.tc_model.proofs.Runs.{after_history-push}

reached-pending : (id : CallId) (op : Op) (result : Outcome) (items : List Item) (s : State)
    → IsImmediate op → (reached_by id op result items s).pending ≡ s.pending
reached-pending id (Out t) result items s immediate = refl
reached-pending id (In t) result items s immediate = absurd immediate
reached-pending id (Rd t) result items s immediate = absurd immediate
reached-pending id (Inp t) result items s immediate = refl
reached-pending id (Rdp t) result items s immediate = refl
reached-pending id (No t) result items s immediate = absurd immediate
reached-pending id (Nop t) result items s immediate = refl
reached-pending id (SetSpec clauses) result items s immediate = refl
reached-pending id GetSpec result items s immediate = refl

call-pending : (id : CallId) (op : Op) (result : Outcome) (items : List Item) (s : State)
    → IsImmediate op → (after_call id op result items s).pending ≡ s.pending
call-pending id op (Over phase tuple) items s immediate = refl
call-pending id op Done items s immediate = reached-pending id op Done items s immediate
call-pending id op (Took u) items s immediate = reached-pending id op (Took u) items s immediate
call-pending id op NoTuple items s immediate = reached-pending id op NoTuple items s immediate
call-pending id op Absent items s immediate = reached-pending id op Absent items s immediate
call-pending id op (Found u) items s immediate = reached-pending id op (Found u) items s immediate
call-pending id op Pending items s immediate = reached-pending id op Pending items s immediate
call-pending id op (Spec text) items s immediate = reached-pending id op (Spec text) items s immediate

-- a legal entry after which nobody waits, if nobody waited and it is no call that may wait
entry-pending : (origin : Origin) (history : List Entry) (s : State) (e : Entry)
    → IsLegal AnyOne origin history s e → NeverWaits e → s.pending ≡ []
    → ((after_entry e s).pending ≡ []) × GivesNothing e
entry-pending origin history s (Called id op result items) legal never none =
    (call-pending id op result items s never ∙ none, tt)
entry-pending origin history s (Gave id result items) legal never none =
    let within : legal.chosen.0.0 < length s.pending = legal.chosen.0.1 in
    absurd (omega (arith, within, ap length none))
entry-pending origin history s (Looked id asked reply) legal never none = (none, tt)

pending-take : (origin : Origin) (history : List Entry) (d : Entry) → IsRun origin history → All NeverWaits history
    → (n : ℕ) → n ≤ length history → (after_history (opening origin) (take n history)).pending ≡ []
pending-take origin history d run never zero within = refl
pending-take origin history d run never (suc n) within =
    let so_far : List Entry = take n history in
    let e : Entry = get_or history n d in
    let s : State = after_history (opening origin) so_far in
    let inside : n < length history = omega arith in
    let grown : take (suc n) history ≡ so_far ++ e ∷ [] =
    ap (λ m. take m history) (sym (add-one n)) ∙ take_more history n d inside in
    let before : s.pending ≡ [] = pending-take origin history d run never n (omega arith) in
    let legal : IsLegal AnyOne origin so_far s e = run n e (slice_get-get_or history n d inside) in
    ap (λ es. (after_history (opening origin) es).pending) grown
    ∙ ap (λ t. t.pending) (after_history-push (opening origin) so_far e)
    ∙ (entry-pending origin so_far s e legal (never n d inside) before).0

pub none_waits : (origin : Origin) (history : List Entry) → IsRun origin history
    → All NeverWaits history → (after_history (opening origin) history).pending ≡ []
none_waits origin [] run never = refl
none_waits origin (d ∷ history) run never =
    subst (λ es. (after_history (opening origin) es).pending ≡ [])
    (take_all (length (d ∷ history)) (d ∷ history) (omega arith))
    (pending-take origin (d ∷ history) d run never (length (d ∷ history)) (omega arith))

pub none_given : (origin : Origin) (history : List Entry) → IsRun origin history
    → All NeverWaits history → All GivesNothing history
none_given origin history run never k d inside =
    let e : Entry = get_or history k d in
    let so_far : List Entry = take k history in
    let s : State = after_history (opening origin) so_far in
    (entry-pending origin so_far s e (run k e (slice_get-get_or history k d inside)) (never k d inside)
    (pending-take origin history d run never k (omega (arith, inside)))).1
