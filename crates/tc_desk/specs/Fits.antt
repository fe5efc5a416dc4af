-- Which results fit an ask.
use Rattle.tc_term.specs.Tree.{Tree}
use Rattle.tc_term.specs.TreeView.{tree_of}
use Rattle.tc_term.specs.Variables.{renumbered}
use Rattle.tc_model.specs.State.{IsMatch}
use Rattle.tc_model.specs.declared.asks.Ask.{Ask}
use Rattle.tc_model.specs.declared.asks.Ask.TheVariants.{Out, In, Rd, Inp, Rdp, No, Nop}
use Rattle.tc_model.specs.declared.asks.Ask.TheVariants.{SetSpec, GetSpec}
use Rattle.tc_model.specs.declared.outcomes.Reply.{Reply}
use Rattle.tc_model.specs.declared.outcomes.Reply.TheVariants as reply
use Rattle.tc_desk.specs.declared.rows.LogResult.{LogResult}
use Rattle.tc_desk.specs.declared.rows.LogResult.TheVariants.{Replied, Pending, Refused, Polled}

-- the reply to a tuple that was put
abbrev pub FitsPut : Reply → Type 0
FitsPut reply.Done = Unit {0}
FitsPut (reply.OverBudget phase) = Unit {0}
FitsPut r = ⊥

-- the reply to a template that waits for a tuple
abbrev pub FitsRequest : Tree → Reply → Type 0
FitsRequest template (reply.Tuple u) = IsMatch template u
FitsRequest template (reply.OverBudget phase) = Unit {0}
FitsRequest template r = ⊥

-- the reply to a template that doesn't wait
abbrev pub FitsSearch : Tree → Reply → Type 0
FitsSearch template (reply.Tuple u) = IsMatch template u
FitsSearch template reply.NoTuple = Unit {0}
FitsSearch template (reply.OverBudget phase) = Unit {0}
FitsSearch template r = ⊥

-- the reply to a template that waits until no tuple matches it
abbrev pub FitsAbsence : Reply → Type 0
FitsAbsence reply.Absent = Unit {0}
FitsAbsence (reply.OverBudget phase) = Unit {0}
FitsAbsence r = ⊥

-- the reply to who asks whether no tuple matches the template
abbrev pub FitsTest : Tree → Reply → Type 0
FitsTest template reply.Absent = Unit {0}
FitsTest template (reply.Found u) = IsMatch template u
FitsTest template (reply.OverBudget phase) = Unit {0}
FitsTest template r = ⊥

-- the reply to clauses that were replaced
abbrev pub FitsReplacing : Reply → Type 0
FitsReplacing reply.Done = Unit {0}
FitsReplacing r = ⊥

-- the reply to who asks for the clauses
abbrev pub FitsReading : Reply → Type 0
FitsReading (reply.Spec text) = Unit {0}
FitsReading r = ⊥

-- the reply fits the ask
abbrev pub FitsReply : Ask → Reply → Type 0
FitsReply (Out t) r = FitsPut r
FitsReply (In t) r = FitsRequest (renumbered (tree_of t)) r
FitsReply (Rd t) r = FitsRequest (renumbered (tree_of t)) r
FitsReply (Inp t) r = FitsSearch (renumbered (tree_of t)) r
FitsReply (Rdp t) r = FitsSearch (renumbered (tree_of t)) r
FitsReply (No t) r = FitsAbsence r
FitsReply (Nop t) r = FitsTest (renumbered (tree_of t)) r
FitsReply (SetSpec t) r = FitsReplacing r
FitsReply GetSpec r = FitsReading r

-- the ask is one that may have to wait
abbrev pub MayWait : Ask → Type 0
MayWait (In t) = Unit {0}
MayWait (Rd t) = Unit {0}
MayWait (No t) = Unit {0}
MayWait (Out t) = ⊥
MayWait (Inp t) = ⊥
MayWait (Rdp t) = ⊥
MayWait (Nop t) = ⊥
MayWait (SetSpec t) = ⊥
MayWait GetSpec = ⊥

-- the result of a call that was served fits its ask
abbrev pub FitsAsk : Ask → LogResult → Type 0
FitsAsk ask (Replied r) = FitsReply ask r
FitsAsk ask Pending = MayWait ask
FitsAsk ask (Refused why) = ⊥
FitsAsk ask (Polled told) = ⊥
