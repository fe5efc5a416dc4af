use Rattle.std.proofs.Common.{◌≡◌, List, map}
use Rattle.std.specs.List.{AllZip}
use Rattle.tc_model.specs.State.{Origin}
use Rattle.tc_model.specs.declared.entries.Entry.{Entry}
use Rattle.tc_turn.specs.Passes.{PassState}
use Rattle.tc_site.specs.Columns.{columns_of}
use Rattle.tc_desk.specs.Logs.{rows_of}
use Rattle.tc_site.specs.Sites.{EndedDeskState, IsEndedDesk}
use Rattle.tc_site.proofs.closing.take_apart.Given as goal

-- the desks so far are taken apart
abbrev pub invariant-loop-desk : goal.invariant-loop-desk
invariant-loop-desk g l = record {
  columns : AllZip (λ (e : EndedDeskState _) (passes : List (PassState Entry Origin)). IsEndedDesk e passes) l.yielded (columns_of l.columns.items);
  logs : rows_of l.logs.items ≡ map (λ (e : EndedDeskState _). e.log) l.yielded;
}
