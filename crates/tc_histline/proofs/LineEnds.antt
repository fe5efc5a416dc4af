-- A line has one line feed, at its end.
use Rattle.std.proofs.Common.{◌<◌, ◌^◌, ℕ, true, false, List, [], ◌∷◌, ◌++◌, codes, get_or, Option, Some, None, All, refl, sym, subst, arith}
use Rattle.std.specs.Fmt.{decimal}
use Rattle.std.proofs.lemmas.List.Elements.{All-head, All-tail}
use Rattle.tc_lists.specs.Texts.{joined}
use Rattle.tc_term.specs.Text.{atom_text, canonical, quoted}
use Rattle.tc_term.specs.Tree.{Tree, IsTuple}
use Rattle.tc_model.specs.Asks.{primitive_name}
use Rattle.tc_model.specs.Reactions.{clauses_text}
use Rattle.tc_model.specs.Typed.{IsTypedEffect, IsTypedId}
use Rattle.tc_model.specs.declared.asks.Primitive.{Primitive}
use Rattle.tc_model.specs.declared.asks.Primitive.TheVariants as primitive
use Rattle.tc_model.specs.declared.calls.CallId.{CallId}
use Rattle.tc_model.specs.declared.calls.Op.{Op}
use Rattle.tc_model.specs.declared.calls.Op.TheVariants.{Out, In, Rd, Inp, Rdp, No, Nop, SetSpec, GetSpec}
use Rattle.tc_model.specs.declared.entries.Entry.TheVariants.{Called, Gave, Looked}
use Rattle.tc_model.specs.declared.events.Phase.{Phase}
use Rattle.tc_model.specs.declared.events.Phase.TheVariants.{Pre, Post}
use Rattle.tc_model.specs.declared.faults.SpecCause.{SpecCause}
use Rattle.tc_model.specs.declared.faults.SpecCause.TheVariants.{Syntax, Size, Shape, Head, Goal, Count}
use Rattle.tc_model.specs.declared.items.Effect.{Effect}
use Rattle.tc_model.specs.declared.items.Effect.TheVariants.{Put, Took, Read}
use Rattle.tc_model.specs.declared.items.Item.TheVariants.{Fired, Failed}
use Rattle.tc_model.specs.declared.outcomes.Outcome.{Outcome}
use Rattle.tc_model.specs.declared.outcomes.Outcome.TheVariants as outcome
use Rattle.tc_model.specs.declared.outcomes.Reply.{Reply}
use Rattle.tc_model.specs.declared.outcomes.Reply.TheVariants as reply
use Rattle.tc_desk.specs.declared.rows.LogResult.{LogResult}
use Rattle.tc_desk.specs.declared.rows.LogResult.TheVariants.{Replied, Pending, Refused, Polled}
use Rattle.tc_desk.specs.declared.rows.Refusal.{Refusal}
use Rattle.tc_desk.specs.declared.rows.Refusal.TheVariants as refusal
use Rattle.tc_histline.specs.Lines.{EndsOnce, HasLine, HasNoFeed, IsRefusalIn, IsResultIn, line_text}
use Rattle.tc_histline.specs.Operations.{IsWrittenIn, written_op}
use Rattle.tc_histline.specs.Outcomes.{IsOutcomeIn, IsReplyIn, IsToldIn}
use Rattle.tc_histline.specs.Text.{applied_text, call_text, cause_text, effect_text, effects_text, op_text, outcome_text, over_text, refusal_text, reply_text, result_text, told_text}
use Rattle.tc_histline.specs.declared.lines.Line.{Line}
use Rattle.tc_histline.specs.declared.lines.Line.TheVariants as line
use Rattle.tc_histline.specs.declared.versions.Version.{Version}
use Rattle.tc_histline.specs.declared.versions.Version.TheVariants.{One, Two}
use Rattle.tc_histline.proofs.LineFeeds.{HaveNoFeed, feedless, feedless-append, feedless-atom, feedless-decimal, feedless-joined, feedless-pattern, feedless-quoted, feedless-tuple}
use Rattle.tc_histline.proofs.Repeated.{before, joined-before}

ends : (ps : List (List ℕ)) → HaveNoFeed ps → EndsOnce (before ps (codes "\n"))
ends ps all = record { front = joined ps; clean = feedless-joined ps all; ends = sym (joined-before ps (codes "\n")) }

-- a word, and a tuple or a text behind it
tuple-part : (word : List ℕ) (t : Tree) → HasNoFeed word → IsTuple t → HasNoFeed (word ++ canonical t)
tuple-part word t clean is = feedless-append word (canonical t) clean (feedless-tuple t is)

quote-part : (word text : List ℕ) → HasNoFeed word → HasNoFeed (word ++ quoted text)
quote-part word text clean = feedless-append word (quoted text) clean (feedless-quoted text)

-- operations

applied-part : (p : Primitive) (operand : List ℕ) → HasNoFeed (primitive_name p) → HasNoFeed operand → HasNoFeed (applied_text p operand)
applied-part p operand name is =
    feedless-joined (primitive_name p ∷ codes "(" ∷ operand ∷ codes ")" ∷ []) (name, (feedless (codes "(") refl, (is, (feedless (codes ")") refl, tt))))

op-part : (v : Version) (o : Op) → IsWrittenIn v (written_op o) → HasNoFeed (op_text o)
op-part v (Out t) is = applied-part primitive.Out (canonical t) (feedless (primitive_name primitive.Out) refl) (feedless-tuple t is)
op-part v (In t) is = applied-part primitive.In (canonical t) (feedless (primitive_name primitive.In) refl) (feedless-pattern t is)
op-part v (Rd t) is = applied-part primitive.Rd (canonical t) (feedless (primitive_name primitive.Rd) refl) (feedless-pattern t is)
op-part v (Inp t) is = applied-part primitive.Inp (canonical t) (feedless (primitive_name primitive.Inp) refl) (feedless-pattern t is)
op-part v (Rdp t) is = applied-part primitive.Rdp (canonical t) (feedless (primitive_name primitive.Rdp) refl) (feedless-pattern t is)
op-part One (No t) is = absurd is
op-part Two (No t) is = applied-part primitive.No (canonical t) (feedless (primitive_name primitive.No) refl) (feedless-pattern t is)
op-part One (Nop t) is = absurd is
op-part Two (Nop t) is = applied-part primitive.Nop (canonical t) (feedless (primitive_name primitive.Nop) refl) (feedless-pattern t is)
op-part v (SetSpec clauses) is =
    applied-part primitive.SetSpec (quoted (clauses_text clauses)) (feedless (primitive_name primitive.SetSpec) refl) (feedless-quoted (clauses_text clauses))
op-part v GetSpec is = feedless (primitive_name primitive.GetSpec) refl

-- outcomes and replies

over-part : (phase : Phase) → HasNoFeed (over_text phase)
over-part Pre = feedless (codes "over pre") refl
over-part Post = feedless (codes "over post") refl

outcome-part : (v : Version) (o : Outcome) → IsOutcomeIn v o → HasNoFeed (outcome_text o)
outcome-part v outcome.Done is = feedless (codes "done") refl
outcome-part v (outcome.Took t) is = tuple-part (codes "tuple ") t (feedless (codes "tuple ") refl) is
outcome-part v outcome.NoTuple is = feedless (codes "none") refl
outcome-part v outcome.Absent is = feedless (codes "absent") refl
outcome-part One (outcome.Found t) is = absurd is
outcome-part Two (outcome.Found t) is = tuple-part (codes "found ") t (feedless (codes "found ") refl) is
outcome-part v outcome.Pending is = feedless (codes "pending") refl
outcome-part v (outcome.Spec text) is = quote-part (codes "spec ") text (feedless (codes "spec ") refl)
outcome-part v (outcome.Over Pre None) is = feedless (codes "over pre") refl
outcome-part v (outcome.Over Pre (Some t)) is = absurd is
outcome-part v (outcome.Over Post None) is = feedless (codes "over post") refl
outcome-part v (outcome.Over Post (Some t)) is = tuple-part (codes "over post ") t (feedless (codes "over post ") refl) is

reply-part : (v : Version) (r : Reply) → IsReplyIn v r → HasNoFeed (reply_text r)
reply-part v reply.Done is = feedless (codes "done") refl
reply-part v (reply.Tuple t) is = tuple-part (codes "tuple ") t (feedless (codes "tuple ") refl) is
reply-part v reply.NoTuple is = feedless (codes "none") refl
reply-part v reply.Absent is = feedless (codes "absent") refl
reply-part One (reply.Found t) is = absurd is
reply-part Two (reply.Found t) is = tuple-part (codes "found ") t (feedless (codes "found ") refl) is
reply-part v (reply.Spec text) is = quote-part (codes "spec ") text (feedless (codes "spec ") refl)
reply-part v (reply.OverBudget phase) is = over-part phase

told-part : (v : Version) (told : Option Reply) → IsToldIn v told → HasNoFeed (told_text told)
told-part v (Some r) is = reply-part v r is
told-part v None is = feedless (codes "pending") refl

-- refusals and results

cause-part : (cause : SpecCause) → HasNoFeed (cause_text cause)
cause-part Syntax = feedless (codes "syntax") refl
cause-part Size = feedless (codes "size") refl
cause-part Shape = feedless (codes "shape") refl
cause-part Head = feedless (codes "head") refl
cause-part Goal = feedless (codes "goal") refl
cause-part Count = feedless (codes "count") refl

refusal-part : (v : Version) (why : Refusal) → IsRefusalIn v why → HasNoFeed (refusal_text v why)
refusal-part v refusal.UnknownCentre is = feedless (codes "unknown centre") refl
refusal-part v refusal.Waiting is = feedless (codes "waiting") refl
refusal-part v refusal.Denied is = feedless (codes "denied") refl
refusal-part v refusal.TooBig is = feedless (codes "too big") refl
refusal-part v refusal.NotGround is = feedless (codes "not ground") refl
refusal-part v (refusal.BadSpec bad) is =
    feedless-joined (codes "bad spec " ∷ decimal bad.clause ∷ codes " " ∷ cause_text bad.cause ∷ [])
    (feedless (codes "bad spec ") refl, (feedless-decimal bad.clause (omega (arith, is)), (feedless (codes " ") refl, (cause-part bad.cause, tt))))
refusal-part v refusal.TurnsSpent is = feedless (codes "turns spent") refl
refusal-part One (refusal.Full weight pending) is = feedless (codes "full") refl
refusal-part Two (refusal.Full weight pending) is =
    feedless-joined (codes "full " ∷ decimal weight ∷ codes " " ∷ decimal pending ∷ [])
    (feedless (codes "full ") refl, (feedless-decimal weight is.0, (feedless (codes " ") refl, (feedless-decimal pending is.1, tt))))
refusal-part v refusal.NoMemory is = absurd is

result-part : (v : Version) (r : LogResult) → IsResultIn v r → HasNoFeed (result_text v r)
result-part v (Replied r) is = reply-part v r is
result-part v Pending is = feedless (codes "pending") refl
result-part v (Refused why) is = refusal-part v why is
result-part v (Polled told) is = feedless-append (codes "poll ") (told_text told) (feedless (codes "poll ") refl) (told-part v told is)

-- effects

effect-part : (e : Effect) → IsTypedEffect e → HasNoFeed (effect_text e)
effect-part (Put t) is = tuple-part (codes " put ") t (feedless (codes " put ") refl) is
effect-part (Took t) is = tuple-part (codes " took ") t (feedless (codes " took ") refl) is
effect-part (Read t) is = tuple-part (codes " read ") t (feedless (codes " read ") refl) is

effects-part : (es : List Effect) → All IsTypedEffect es → HasNoFeed (effects_text es)
effects-part [] all = feedless [] refl
effects-part (e ∷ es) all =
    feedless-append (effect_text e) (effects_text es) (effect-part e (All-head IsTypedEffect e es all)) (effects-part es (All-tail IsTypedEffect e es all))

place-part : (n : ℕ) → n < 2 ^ 32 → HasNoFeed (decimal n)
place-part n small = feedless-decimal n (omega (arith, small))

-- lines

call-part : (agents : List (List ℕ)) (id : CallId) → IsTypedId id → HasNoFeed (call_text agents id)
call-part agents id is =
    feedless-joined (atom_text (get_or agents id.agent []) ∷ codes " " ∷ decimal id.number ∷ [])
    (feedless-atom (get_or agents id.agent []), (feedless (codes " ") refl, (feedless-decimal id.number is.number, tt)))

pub line-ends : (v : Version) (agents : List (List ℕ)) (l : Line) → HasLine v agents l → EndsOnce (line_text v agents l)
line-ends v agents (line.First One) is = ends (codes "tucson 1" ∷ []) (feedless (codes "tucson 1") refl, tt)
line-ends v agents (line.First Two) is = ends (codes "tucson 2" ∷ []) (feedless (codes "tucson 2") refl, tt)
line-ends v agents (line.End true) is = ends (codes "end blocked" ∷ []) (feedless (codes "end blocked") refl, tt)
line-ends v agents (line.End false) is = ends (codes "end ended" ∷ []) (feedless (codes "end ended") refl, tt)
line-ends v agents (line.Centre name) is =
    ends (codes "centre " ∷ atom_text name ∷ []) (feedless (codes "centre ") refl, (feedless-atom name, tt))
line-ends v agents (line.Agent name) is =
    ends (codes "agent " ∷ atom_text name ∷ []) (feedless (codes "agent ") refl, (feedless-atom name, tt))
line-ends v agents (line.Reaction (Fired p c es)) is =
    ends (codes "  " ∷ decimal p ∷ codes " fired " ∷ decimal c ∷ effects_text es ∷ [])
    (feedless (codes "  ") refl, (place-part p is.0.0, (feedless (codes " fired ") refl, (place-part c is.0.1, (effects-part es is.0.2, tt)))))
line-ends v agents (line.Reaction (Failed p c g es)) is =
    ends (codes "  " ∷ decimal p ∷ codes " failed " ∷ decimal c ∷ codes " at " ∷ decimal g ∷ effects_text es ∷ []) (feedless (codes "  ") refl, (place-part p is.0.0, (feedless (codes " failed ") refl, (place-part c is.0.1, (feedless (codes " at ") refl, (place-part g is.0.2, (effects-part es is.0.3, tt)))))))
line-ends v agents (line.Row row) is =
    ends (decimal row.number ∷ codes " " ∷ atom_text row.centre ∷ codes " " ∷ result_text v row.result ∷ [])
    (feedless-decimal row.number is.number, (feedless (codes " ") refl, (feedless-atom row.centre, (feedless (codes " ") refl, (result-part v row.result is.written, tt)))))
line-ends v agents (line.Entry (Called id o r items)) is =
    subst (λ es. EndsOnce (line_text v agents (line.Entry (Called id o r es)))) (sym is.written.2)
    (ends (codes "call " ∷ call_text agents id ∷ codes " " ∷ op_text o ∷ codes " = " ∷ outcome_text r ∷ []) (feedless (codes "call ") refl, (call-part agents id is.typed.0, (feedless (codes " ") refl, (op-part v o is.written.0, (feedless (codes " = ") refl, (outcome-part v r is.written.1, tt)))))))
line-ends v agents (line.Entry (Gave id r items)) is =
    subst (λ es. EndsOnce (line_text v agents (line.Entry (Gave id r es)))) (sym is.written.1)
    (ends (codes "give " ∷ call_text agents id ∷ codes " = " ∷ outcome_text r ∷ [])
    (feedless (codes "give ") refl, (call-part agents id is.typed.0, (feedless (codes " = ") refl, (outcome-part v r is.written.0, tt)))))
line-ends v agents (line.Entry (Looked id asked told)) is =
    ends (codes "look " ∷ call_text agents id ∷ codes " " ∷ decimal asked ∷ codes " = " ∷ told_text told ∷ []) (feedless (codes "look ") refl, (call-part agents id is.typed.0, (feedless (codes " ") refl, (feedless-decimal asked is.typed.1, (feedless (codes " = ") refl, (told-part v told is.written, tt))))))
