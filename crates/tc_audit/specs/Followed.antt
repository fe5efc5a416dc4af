-- A history that was followed to where it leads.
use Rattle.std.specs.Prelude.{◌≡◌, List, length}
use Rattle.tc_model.specs.Run.{IsRun}
use Rattle.tc_model.specs.State.{Origin, opening, after_history}
use Rattle.tc_model.specs.declared.entries.Entry.{Entry}
use Rattle.tc_audit.specs.Noted.{IsNoted}
use Rattle.tc_audit.specs.Reached.{IsSound, state_of}
use Rattle.tc_audit.specs.declared.noted.Noted.{Noted}
use Rattle.tc_audit.specs.declared.reached.Reached.{Reached}

-- the history is a run, this is what it has led to, and what is noted is that of the history
pub record IsFollowed (origin : Origin) (history : List Entry) (reached : Reached) (noted : Noted)
    : Type 0 where
  pub run : IsRun origin history
  pub state : state_of reached ≡ after_history (opening origin) history
  pub sound : IsSound reached
  pub notes : IsNoted (length origin.agents) history noted
