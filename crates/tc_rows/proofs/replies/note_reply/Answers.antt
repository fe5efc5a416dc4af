use Rattle.std.proofs.Common.{◌≡◌, ◌+◌, Some, length, slice_get, take, refl, sym, subst, ap, ◌∙◌}
use Rattle.std.proofs.lemmas.Option.{same_Some, slice_get_read}
use Rattle.tc_model.specs.declared.entries.Entry.{Entry}
use Rattle.tc_calls.specs.Places.{IsGave, lists_of}
use Rattle.tc_rows.specs.Made.{IsMaker}
use Rattle.tc_rows.proofs.Looking.{looked-places, some-run}
use Rattle.tc_rows.proofs.Making.{maker-inside}
use Rattle.tc_rows.proofs.replies.note_reply.Goals as goal

pub make_room-requires : goal.make_room-requires
make_room-requires c =
    let h = c.args.history.now in
    let e = c.index-history-place.result in
    let at : slice_get h c.args.place ≡ Some e = slice_get_read h (length h) c.args.place e refl c.requires.inside c.index-history-place.is in
    maker-inside (length c.args.places.now.items) h c.requires.run c.args.place e at c.in-Called.id
    (subst (λ (x : Entry). IsMaker x c.in-Called.id) (sym c.in-Called.is) refl)

pub note_call-requires-clause-run : goal.note_call-requires-clause-run
note_call-requires-clause-run c = some-run (length c.args.places.now.items) c.args.history.now c.requires.run (c.args.place + 1)

pub note_call-requires-clause-called : goal.note_call-requires-clause-called
note_call-requires-clause-called c =
    let h = c.args.history.now in
    let e = c.index-history-place.result in
    let at : slice_get h c.args.place ≡ Some e = slice_get_read h (length h) c.args.place e refl c.requires.inside c.index-history-place.is in
    record { op = c.in-Called.op; result = c.in-Called.outcome; items = c.in-Called.items; stands = at ∙ ap Some c.in-Called.is }

pub note_answer-requires-clause-run : goal.note_answer-requires-clause-run
note_answer-requires-clause-run c = some-run (length c.args.places.now.items) c.args.history.now c.requires.run (c.args.place + 1)

pub note_answer-requires-clause-answer : goal.note_answer-requires-clause-answer
note_answer-requires-clause-answer c = λ x at.
    let h = c.args.history.now in
    let e = c.index-history-place.result in
    let here : slice_get h c.args.place ≡ Some e = slice_get_read h (length h) c.args.place e refl c.requires.inside c.index-history-place.is in
    subst IsGave (sym c.in-Gave.is ∙ same_Some e x (sym here ∙ at)) tt

pub note_call-requires-clause-places : goal.note_call-requires-clause-places
note_call-requires-clause-places c =
    c.make_room.ensures.kept (take c.args.place c.args.history.now) c.requires.places

pub returns-in-Looked-clause-places : goal.returns-in-Looked-clause-places
returns-in-Looked-clause-places c =
    let h = c.args.history.now in
    let e = c.index-history-place.result in
    let at : slice_get h c.args.place ≡ Some e = slice_get_read h (length h) c.args.place e refl c.requires.inside c.index-history-place.is in
    looked-places (length c.args.places.now.items) h c.requires.run c.args.place e at c.in-Looked.id c.in-Looked.asked c.in-Looked.reply
    c.in-Looked.is (lists_of c.args.places.now.items) c.requires.places
