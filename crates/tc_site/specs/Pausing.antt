-- A turn that a desk holds.
use Rattle.std.specs.Prelude.{◌≡◌, ℕ, List, None, Some, false, set, slice_get}
use Rattle.tc_centre.specs.Centre.{Centre}
use Rattle.tc_desk.specs.Desks.{TakesTurn}
use Rattle.tc_model.specs.State.{Origin}
use Rattle.tc_model.specs.declared.entries.Entry.{Entry}
use Rattle.tc_shared.specs.Passes.{IsPaused, IsPausedOf}
use Rattle.tc_turn.specs.Passes.{TurnstileState, PassState}
use Rattle.tc_site.specs.Desks.{AgentState, desk_of}

-- the desk holds a turn at the centre of this place, whose core is this one
pub record HoldsTurn {W : Type 0} (d : AgentState W) (place : ℕ) (core : Centre) : Type 0 where
  pub held_is : d.held ≡ Some place
  pub t : TurnstileState Origin
  pub p : PassState Entry Origin
  pub at_centre : slice_get d.site.centres place ≡ Some t
  pub at_pass : slice_get d.passes place ≡ Some p
  pub paused : IsPausedOf t core p

-- the desk took one turn at the centre of this place, and holds it, with this core; of its passes
-- this one alone has gone on, and all else is as it was
pub record Pauses {W : Type 0} (d : AgentState W) (place : ℕ) (core : Centre) (e : AgentState W)
    : Type 0 where
  pub t : TurnstileState Origin
  pub p : PassState Entry Origin
  pub q : PassState Entry Origin
  pub at_centre : slice_get d.site.centres place ≡ Some t
  pub at_pass : slice_get d.passes place ≡ Some p
  pub took : IsPaused t p core q
  pub after : e ≡ record d { passes = set d.passes place q; held = Some place }
  pub centre : List ℕ
  pub named : slice_get d.site.names place ≡ Some centre
  pub turn : TakesTurn (desk_of d) centre (desk_of e)

-- no turn is left at the centre of this place, and the desk is as it was
pub record HasNoneLeft {W : Type 0} (d : AgentState W) (place : ℕ) (e : AgentState W)
    : Type 0 where
  pub p : PassState Entry Origin
  pub at_pass : slice_get d.passes place ≡ Some p
  pub none : p.turns ≡ 0
  pub same : e ≡ d

-- the turn that was held at a place was given back; all else is as it was
pub record Resumes {W : Type 0} (d e : AgentState W) : Type 0 where
  pub place : ℕ
  pub p : PassState Entry Origin
  pub held_is : d.held ≡ Some place
  pub at_pass : slice_get d.passes place ≡ Some p
  pub after : e
      ≡ record d { passes = set d.passes place (record p { holds = false }); held = None }
