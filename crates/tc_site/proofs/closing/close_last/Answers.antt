use Rattle.std.proofs.Common.{Vec, sym, ◌∙◌}
use Rattle.std.specs.Global.{Global}
use Rattle.std.proofs.lemmas.List.{length-map}
use Rattle.tc_model.specs.State.{Origin}
use Rattle.tc_model.specs.declared.entries.Entry.{Entry}
use Rattle.tc_turn.specs.Passes.{PassState}
use Rattle.tc_site.specs.Columns.{columns_of}
use Rattle.tc_site.proofs.Taken.{closed-over, taken-own, taken-whole}
use Rattle.tc_site.proofs.closing.close_last.Goals as goal

pub close-core-requires-clause-own : goal.close-core-requires-clause-own
close-core-requires-clause-own c =
    taken-own c.args.centre (columns_of c.args.columns.now) c.in_ok-row.row.items (columns_of c.end_last.new.columns) c.in_ok-row.ensures

pub close-core-requires-clause-whole : goal.close-core-requires-clause-whole
close-core-requires-clause-whole c =
    taken-whole c.args.centre (columns_of c.args.columns.now) c.in_ok-row.row.items (columns_of c.end_last.new.columns) c.in_ok-row.ensures
    (c.requires.whole ∙ sym (length-map c.args.columns.now (λ (v : Vec (PassState Entry Origin) Global). v.items)))

pub returns : goal.returns
returns c =
    closed-over c.args.centre (columns_of c.args.columns.now) c.in_ok-row.row.items (columns_of c.end_last.new.columns) c.in_ok-row.ensures
    c.close-core.result c.close-core.ensures.origin c.vouch.ensures c.close-core.ensures.seen c.close-core.ensures.others
