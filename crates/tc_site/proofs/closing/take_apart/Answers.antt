use Rattle.std.proofs.Common.{◌≡◌, List, [], ◌∷◌, ◌++◌, Vec, map, sym, ap, ◌∙◌, subst}
use Rattle.std.specs.Global.{Global}
use Rattle.std.specs.List.{AllZip}
use Rattle.std.proofs.lemmas.List.{map_push}
use Rattle.std.proofs.lemmas.Slice.Zip.{all_zipped_more}
use Rattle.tc_desk.specs.declared.rows.LogRow.{LogRow}
use Rattle.tc_model.specs.State.{Origin}
use Rattle.tc_model.specs.declared.entries.Entry.{Entry}
use Rattle.tc_turn.specs.Passes.{PassState}
use Rattle.tc_site.specs.Columns.{columns_of}
use Rattle.tc_desk.specs.Logs.{rows_of}
use Rattle.tc_site.specs.Sites.{EndedDeskState, IsEndedDesk}
use Rattle.tc_site.proofs.closing.take_apart.Goals as goal

pub loop-desk-preserved : goal.loop-desk-preserved
loop-desk-preserved g c =
    let before = c.loop-desk.invariant in
    let yielded = c.loop-desk.yielded in
    let desk = c.in-Some.desk in
    let inside = c.desk.inside in
    let columns : columns_of c.push.new.self.items ≡ columns_of c.loop-desk.columns.items ++ inside.passes.items ∷ [] =
    ap columns_of c.in_ok-push.ensures.items
    ∙ map_push (λ (v : Vec (PassState Entry Origin) Global). v.items) c.loop-desk.columns.items inside.passes in
    let ended : IsEndedDesk desk inside.passes.items =
    subst (λ (e : EndedDeskState g.row.W.Denot). IsEndedDesk e inside.passes.items) c.desk.view_is c.desk.invariant in
    record {
      columns = subst (λ cs. AllZip (λ (e : EndedDeskState g.row.W.Denot) (passes : List (PassState Entry Origin)). IsEndedDesk e passes) (yielded ++ desk ∷ []) cs)
          (sym columns)
          (all_zipped_more (λ (e : EndedDeskState g.row.W.Denot) (passes : List (PassState Entry Origin)). IsEndedDesk e passes) yielded
          (columns_of c.loop-desk.columns.items) desk inside.passes.items before.columns ended);
      logs = ap rows_of c.in_ok-push-2.ensures.items
          ∙ map_push (λ (v : Vec LogRow Global). v.items) c.loop-desk.logs.items inside.log
          ∙ ap (λ (ls : List (List LogRow)). ls ++ inside.log.items ∷ []) before.logs
          ∙ ap (λ (e : EndedDeskState g.row.W.Denot). map (λ (d : EndedDeskState g.row.W.Denot). d.log) yielded ++ e.log ∷ [])
          c.desk.view_is
          ∙ sym (map_push (λ (d : EndedDeskState g.row.W.Denot). d.log) yielded desk);
    }
