use Rattle.std.proofs.Common.{◌+◌, List, [], ◌∷◌, ◌++◌, Vec, length, sym, ap, ◌∙◌, subst, arith}
use Rattle.std.specs.Global.{Global}
use Rattle.std.proofs.lemmas.List.{length-map, map-set}
use Rattle.tc_lists.proofs.Sets.{slice_get-map_read}
use Rattle.tc_model.specs.State.{Origin}
use Rattle.tc_model.specs.declared.entries.Entry.{Entry}
use Rattle.tc_turn.specs.Passes.{PassState}
use Rattle.tc_site.specs.Columns.{columns_of}
use Rattle.tc_site.proofs.Dealt.{AreDealt-all, HasGot, dealing-at, dealing-more}
use Rattle.tc_site.proofs.Sweeps.{Swept, swept-step}
use Rattle.tc_site.proofs.sharing.deal.Goals as goal

abbrev items_of : Vec (PassState Entry Origin) Global → List (PassState Entry Origin)
items_of v = v.items

pub loop-column-preserved : goal.loop-column-preserved
loop-column-preserved c =
    let passes = c.args.passes.items in
    let olds = columns_of c.args.columns.now in
    let columns = c.loop-column.columns in
    let i = c.loop-column.column-index in
    let left = c.loop-column.rest.rest.items in
    let next = c.next.new.self.rest.items in
    let pass = c.in-Some.pass in
    let dealing = c.loop-column.invariant.left in
    let at = slice_get-map_read items_of columns (length c.args.columns.now) i c.column-item.result c.loop-column-test.true c.loop-column.auto.columns c.column-item.is in
    record {
      left = dealing-more passes left next pass i dealing c.in-Some.ensures.items;
      swept = subst (λ ns. Swept (HasGot passes) olds ns (i + 1)) (sym (map-set items_of columns i c.push.new.self))
          (swept-step (HasGot passes) olds (columns_of columns) i c.column-item.result.items c.push.new.self.items c.loop-column.invariant.swept at (
            pass,
            dealing-at passes left next pass i dealing c.in-Some.ensures.items,
            c.in_ok-push.ensures.items
                ∙ ap (λ (v : Vec (PassState Entry Origin) Global). v.items ++ pass ∷ []) (sym c.column-item.is),
          ));
    }

pub returns : goal.returns
returns c =
    let many = length-map c.args.columns.now (λ (v : Vec (PassState Entry Origin) Global). v.items) in
    AreDealt-all (columns_of c.args.columns.now) c.args.passes.items (columns_of c.loop-column.columns) c.loop-column.column-index
    c.loop-column.invariant.swept (omega (arith, many, c.loop-column-test.false))
