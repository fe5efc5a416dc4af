-- What is left for parts of the agents.
use Rattle.std.proofs.Common.{◌≡◌, ℕ, ◌≤◌, List, ◌++◌, take, drop, ap, arith}
use Rattle.std.proofs.lemmas.List.{take-append-drop}
use Rattle.std.proofs.lemmas.List.Sums.{sum_by-append, sum_by-take-le}
use Rattle.tc_desk.specs.Desks.{DeskState}
use Rattle.tc_sched.specs.Clients.{Client}
use Rattle.tc_sched.specs.Steps.{left_in, left_of}

module _ {D : Type 0} (state : D → DeskState) where
  -- a part of the agents has no more left than all of them
  pub left-part : (size start : ℕ) (cs : List (Client D)) → left_in state (take size (drop start cs)) ≤ left_in state cs
  left-part size start cs =
      let most = sum_by-take-le (left_of state) (drop start cs) size in
      let parts = sum_by-append (left_of state) (take start cs) (drop start cs) in
      let whole : left_in state (take start cs ++ drop start cs) ≡ left_in state cs = ap (left_in state) (take-append-drop start cs) in
      omega (arith, most, parts, whole)
