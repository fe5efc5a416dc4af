use Rattle.std.proofs.Common.{sym, subst, take, ◌∙◌, arith}
use Rattle.std.proofs.lemmas.Option.{same_Some}
use Rattle.tc_model.specs.declared.entries.Entry.TheVariants.{Called, Gave, Looked}
use Rattle.tc_calls.specs.Places.{IsGave, lists_of}
use Rattle.tc_audit.specs.Beginnings.{origin_in}
use Rattle.tc_audit.proofs.Marking.{called-agent, called-last, gave-last, looked-agent, looked-last, looked-places, read-at}
use Rattle.tc_audit.proofs.noted.note.Goals as goal

pub make_room-requires : goal.make_room-requires
make_room-requires c =
    let agent = called-agent (origin_in c.args.beginning.now) c.args.history.now c.args.place c.requires.run c.in-Called.id
    c.in-Called.op c.in-Called.outcome c.in-Called.items
    (read-at c.args.history.now c.args.place c.index-history-place.result
    (Called c.in-Called.id c.in-Called.op c.in-Called.outcome c.in-Called.items) c.requires.inside c.index-history-place.is c.in-Called.is) in
    omega (arith, agent, c.requires.noted.lists)

pub note_call-requires-clause-called : goal.note_call-requires-clause-called
note_call-requires-clause-called c = record {
  op = c.in-Called.op;
  result = c.in-Called.outcome;
  items = c.in-Called.items;
  stands = read-at c.args.history.now c.args.place c.index-history-place.result
      (Called c.in-Called.id c.in-Called.op c.in-Called.outcome c.in-Called.items) c.requires.inside c.index-history-place.is c.in-Called.is;
}

pub note_call-requires-clause-places : goal.note_call-requires-clause-places
note_call-requires-clause-places c =
    c.in_ok-make_room-in-Called.ensures.kept (take c.args.place c.args.history.now) c.requires.noted.places

pub note_answer-requires-clause-answer : goal.note_answer-requires-clause-answer
note_answer-requires-clause-answer c = λ e at.
    subst IsGave
    (same_Some (Gave c.in-Gave.id c.in-Gave.outcome c.in-Gave.items) e
    (sym (read-at c.args.history.now c.args.place c.index-history-place.result (Gave c.in-Gave.id c.in-Gave.outcome c.in-Gave.items)
    c.requires.inside c.index-history-place.is c.in-Gave.is) ∙ at)) tt

pub note_number-requires-in-Looked : goal.note_number-requires-in-Looked
note_number-requires-in-Looked c =
    let agent = looked-agent (origin_in c.args.beginning.now) c.args.history.now c.args.place c.requires.run c.in-Looked.id
    c.in-Looked.asked c.in-Looked.reply
    (read-at c.args.history.now c.args.place c.index-history-place.result (Looked c.in-Looked.id c.in-Looked.asked c.in-Looked.reply)
    c.requires.inside c.index-history-place.is c.in-Looked.is) in
    omega (arith, agent, c.requires.noted.numbers)

pub returns-in_ok-make_room-in-Called : goal.returns-in_ok-make_room-in-Called
returns-in_ok-make_room-in-Called c =
    let at = read-at c.args.history.now c.args.place c.index-history-place.result
    (Called c.in-Called.id c.in-Called.op c.in-Called.outcome c.in-Called.items) c.requires.inside c.index-history-place.is c.in-Called.is in
    record {
      places = c.note_call.ensures.places;
      lists = c.note_call.ensures.agents ∙ (c.make_room.ensures.agents ∙ c.requires.noted.lists);
      last = called-last (origin_in c.args.beginning.now) c.args.history.now c.args.place c.requires.run c.args.noted.now.numbers.items
          c.requires.noted.last c.in-Called.id c.in-Called.op c.in-Called.outcome c.in-Called.items c.note_number.new.numbers.items at
          c.note_number.ensures.noted;
      numbers = c.note_number.ensures.agents ∙ c.requires.noted.numbers;
    }

pub returns-in-Gave : goal.returns-in-Gave
returns-in-Gave c =
    let at = read-at c.args.history.now c.args.place c.index-history-place.result (Gave c.in-Gave.id c.in-Gave.outcome c.in-Gave.items)
    c.requires.inside c.index-history-place.is c.in-Gave.is in
    record {
      places = c.note_answer.ensures.places;
      lists = c.note_answer.ensures.agents ∙ c.requires.noted.lists;
      last = gave-last (origin_in c.args.beginning.now) c.args.history.now c.args.place c.requires.run c.args.noted.now.numbers.items
          c.requires.noted.last c.in-Gave.id c.in-Gave.outcome c.in-Gave.items at;
      numbers = c.requires.noted.numbers;
    }

pub returns-in-Looked : goal.returns-in-Looked
returns-in-Looked c =
    let at = read-at c.args.history.now c.args.place c.index-history-place.result
    (Looked c.in-Looked.id c.in-Looked.asked c.in-Looked.reply) c.requires.inside c.index-history-place.is c.in-Looked.is in
    record {
      places = looked-places (origin_in c.args.beginning.now) c.args.history.now c.args.place c.requires.run
          (lists_of c.args.noted.now.places.items) c.in-Looked.id c.in-Looked.asked c.in-Looked.reply at c.requires.noted.places;
      lists = c.requires.noted.lists;
      last = looked-last (origin_in c.args.beginning.now) c.args.history.now c.args.place c.requires.run c.args.noted.now.numbers.items
          c.requires.noted.last c.in-Looked.id c.in-Looked.asked c.in-Looked.reply c.note_number-in-Looked.new.numbers.items at
          c.note_number-in-Looked.ensures.noted;
      numbers = c.note_number-in-Looked.ensures.agents ∙ c.requires.noted.numbers;
    }
