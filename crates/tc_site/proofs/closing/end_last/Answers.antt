use Rattle.std.proofs.Common.{◌≡◌, ◌+◌, List, [], ◌∷◌, ◌++◌, Vec, length, sym, ap, ◌∙◌, subst, arith}
use Rattle.std.specs.Global.{Global}
use Rattle.std.proofs.Math.ListN.{set}
use Rattle.std.proofs.lemmas.List.{length-map, length_push, map-set}
use Rattle.tc_lists.proofs.Sets.{slice_get-map_read}
use Rattle.tc_model.specs.State.{Origin}
use Rattle.tc_model.specs.declared.entries.Entry.{Entry}
use Rattle.tc_turn.specs.Passes as turnstile
use Rattle.tc_turn.specs.Passes.{PassState, end_of}
use Rattle.tc_site.specs.Columns.{columns_of}
use Rattle.tc_site.proofs.Sweeps.{Swept}
use Rattle.tc_site.proofs.Taken.{AreTaken-all, HasLost, losing-more, losing-own, losing-some}
use Rattle.tc_site.proofs.closing.end_last.Goals as goal

abbrev items_of : Vec (PassState Entry Origin) Global → List (PassState Entry Origin)
items_of v = v.items

pub unreachable-requires : goal.unreachable-requires
unreachable-requires c =
    let columns = c.loop-column.columns in
    let at = slice_get-map_read items_of columns (length c.args.columns.now) c.loop-column.column-index c.column-item.result c.loop-column-test.true c.loop-column.auto.columns c.column-item.is in
    let some = losing-some c.args.centre.now c.loop-column.row.items (columns_of c.args.columns.now) (columns_of columns) c.loop-column.column-index
    c.column-item.result.items c.requires c.loop-column.invariant.swept at in
    let none : length c.column-item.result.items ≡ 0 = sym c.column-item.result.ok.0 ∙ ap (λ (v : Vec (PassState Entry Origin) Global). v.len) c.column-item.is
    ∙ c.in_default.ensures.cases.0 in
    omega (arith, some, none)

pub end-requires-clause-own : goal.end-requires-clause-own
end-requires-clause-own c =
    let columns = c.loop-column.columns in
    let at = slice_get-map_read items_of columns (length c.args.columns.now) c.loop-column.column-index c.column-item.result c.loop-column-test.true c.loop-column.auto.columns c.column-item.is in
    (losing-own c.args.centre.now c.loop-column.row.items (columns_of c.args.columns.now) (columns_of columns) c.loop-column.column-index
    c.column-item.result.items c.pop.new.self.items c.in-Some.pass c.requires c.loop-column.invariant.swept at
    (ap (λ (v : Vec (PassState Entry Origin) Global). v.items) c.column-item.is ∙ c.in-Some.ensures.items)).0.own

pub end-requires-clause-free : goal.end-requires-clause-free
end-requires-clause-free c =
    let columns = c.loop-column.columns in
    let at = slice_get-map_read items_of columns (length c.args.columns.now) c.loop-column.column-index c.column-item.result c.loop-column-test.true c.loop-column.auto.columns c.column-item.is in
    (losing-own c.args.centre.now c.loop-column.row.items (columns_of c.args.columns.now) (columns_of columns) c.loop-column.column-index
    c.column-item.result.items c.pop.new.self.items c.in-Some.pass c.requires c.loop-column.invariant.swept at
    (ap (λ (v : Vec (PassState Entry Origin) Global). v.items) c.column-item.is ∙ c.in-Some.ensures.items)).1

pub loop-column-preserved : goal.loop-column-preserved
loop-column-preserved c =
    let t = c.args.centre.now in
    let olds = columns_of c.args.columns.now in
    let columns = c.loop-column.columns in
    let i = c.loop-column.column-index in
    let row = c.loop-column.row.items in
    let pass = c.in-Some.pass in
    let at = slice_get-map_read items_of columns (length c.args.columns.now) i c.column-item.result c.loop-column-test.true c.loop-column.auto.columns c.column-item.is in
    let row_is : c.push.new.self.items ≡ row ++ end_of pass ∷ [] =
    c.in_ok-push.ensures.items ∙ ap (λ (e : turnstile.EndedState Entry). row ++ e ∷ []) c.end.ensures in
    let swept : Swept (HasLost t (row ++ end_of pass ∷ [])) olds (set (columns_of columns) i c.pop.new.self.items) (i + 1) =
    losing-more t row olds (columns_of columns) i c.column-item.result.items c.pop.new.self.items pass c.requires c.loop-column.invariant.swept
    c.loop-column.invariant.wide at (ap (λ (v : Vec (PassState Entry Origin) Global). v.items) c.column-item.is ∙ c.in-Some.ensures.items) in
    record {
      wide = ap length row_is ∙ length_push row (end_of pass) ∙ ap (λ n. n + 1) c.loop-column.invariant.wide;
      swept = subst (λ r. Swept (HasLost t r) olds (columns_of (set columns i c.pop.new.self)) (i + 1)) (sym row_is)
          (subst (λ ns. Swept (HasLost t (row ++ end_of pass ∷ [])) olds ns (i + 1)) (sym (map-set items_of columns i c.pop.new.self)) swept);
    }

pub returns : goal.returns
returns c =
    let olds = columns_of c.args.columns.now in
    let many = length-map c.args.columns.now (λ (v : Vec (PassState Entry Origin) Global). v.items) in
    let end = c.loop-column.auto.column-index-end in
    AreTaken-all c.args.centre.now c.loop-column.row.items olds (columns_of c.loop-column.columns) c.loop-column.column-index
    c.loop-column.invariant.swept c.loop-column.invariant.wide
    (omega (arith, many, c.loop-column-test.false)) (omega (arith, many, end))
