-- A list of requests that wait, as contracts see it.
use Rattle.std.specs.Prelude.{List}
use Rattle.tc_lists.specs.Marks.{with_mark}
use Rattle.tc_model.specs.declared.calls.Request.{Request}

-- the requests now, oldest first, and those that there were at each mark, the latest mark last
pub record Waiting : Type 0 where
  pub now : List Request
  pub saved : List (List Request)

-- with one more mark
abbrev pub marked_requests : Waiting → Waiting
marked_requests w = record w { saved = with_mark w.saved w.now }
