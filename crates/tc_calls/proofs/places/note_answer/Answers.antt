use Rattle.std.proofs.Common.{Some, sym, ap, ◌∙◌}
use Rattle.std.proofs.lemmas.Option.{slice_get-get_or}
use Rattle.tc_calls.specs.Places.{lists_of}
use Rattle.tc_calls.proofs.Noting.{answered-there, no-other, noted-answer}
use Rattle.tc_calls.proofs.places.note_answer.Goals as goal

pub replace-requires-clause-there : goal.replace-requires-clause-there
replace-requires-clause-there c =
    answered-there c.args.history.now c.args.place c.requires.run c.index-history-place.result
    (slice_get-get_or c.args.history.now c.args.place c.index-history-place.result c.requires.inside
    ∙ ap Some (sym c.index-history-place.is))
    (lists_of c.args.places.now.items) c.requires.places c.in-Gave.id c.in-Gave.outcome c.in-Gave.items c.in-Gave.is

pub returns-clause-places : goal.returns-clause-places
returns-clause-places c =
    noted-answer c.args.history.now c.args.place c.requires.run c.index-history-place.result
    (slice_get-get_or c.args.history.now c.args.place c.index-history-place.result c.requires.inside
    ∙ ap Some (sym c.index-history-place.is))
    (lists_of c.args.places.now.items) (lists_of c.replace.new.places.items) c.requires.places
    c.in-Gave.id c.in-Gave.outcome c.in-Gave.items c.in-Gave.is c.replace.ensures.puts

pub unreachable-requires : goal.unreachable-requires
unreachable-requires c =
    no-other c.index-history-place.result
    (c.requires.answer c.index-history-place.result
    (slice_get-get_or c.args.history.now c.args.place c.index-history-place.result c.requires.inside
    ∙ ap Some (sym c.index-history-place.is)))
    c.in-Called.is
