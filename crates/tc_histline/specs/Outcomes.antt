-- Outcomes, and what agents are told, at the front of bytes.
use Rattle.std.specs.Prelude.{ℕ, List, ◌++◌, codes, IfSome, Some, None}
use Rattle.std.specs.declared.option.Option.{Option}
use Rattle.tc_lists.specs.AtFront.{Front, behind, closed_by, made, or_else, word_for}
use Rattle.tc_lists.specs.Texts.{after}
use Rattle.tc_term.specs.Tree.{Tree, IsTuple}
use Rattle.tc_model.specs.declared.events.Phase.TheVariants.{Pre, Post}
use Rattle.tc_model.specs.declared.items.Effect.{Effect}
use Rattle.tc_model.specs.declared.items.Effect.TheVariants.{Put, Took, Read}
use Rattle.tc_model.specs.declared.outcomes.Outcome.{Outcome}
use Rattle.tc_model.specs.declared.outcomes.Outcome.TheVariants as outcome
use Rattle.tc_model.specs.declared.outcomes.Reply.{Reply}
use Rattle.tc_model.specs.declared.outcomes.Reply.TheVariants as reply
use Rattle.tc_histline.specs.Operations.{since_two}
use Rattle.tc_histline.specs.Words.{quote_at, tuple_at}
use Rattle.tc_histline.specs.declared.versions.Version.{Version}
use Rattle.tc_histline.specs.declared.versions.Version.TheVariants.{One, Two}

-- the outcome has a text in this version: a tuple where it tells one, and none where the reactions
-- to a request went over the budget
abbrev pub IsOutcomeIn : Version → Outcome → Type 0
IsOutcomeIn v outcome.Done = Unit {0}
IsOutcomeIn v (outcome.Took tuple) = IsTuple tuple
IsOutcomeIn v outcome.NoTuple = Unit {0}
IsOutcomeIn v outcome.Absent = since_two v (Unit {0})
IsOutcomeIn v (outcome.Found tuple) = since_two v (IsTuple tuple)
IsOutcomeIn v outcome.Pending = Unit {0}
IsOutcomeIn v (outcome.Spec text) = Unit {0}
IsOutcomeIn v (outcome.Over Pre None) = Unit {0}
IsOutcomeIn v (outcome.Over Pre (Some tuple)) = ⊥
IsOutcomeIn v (outcome.Over Post None) = Unit {0}
IsOutcomeIn v (outcome.Over Post (Some tuple)) = IsTuple tuple

-- the reply has a text in this version
abbrev pub IsReplyIn : Version → Reply → Type 0
IsReplyIn v reply.Done = Unit {0}
IsReplyIn v (reply.Tuple tuple) = IsTuple tuple
IsReplyIn v reply.NoTuple = Unit {0}
IsReplyIn v reply.Absent = since_two v (Unit {0})
IsReplyIn v (reply.Found tuple) = since_two v (IsTuple tuple)
IsReplyIn v (reply.Spec text) = Unit {0}
IsReplyIn v (reply.OverBudget phase) = Unit {0}

-- what an agent is told has a text in this version
abbrev pub IsToldIn : Version → Option Reply → Type 0
IsToldIn v told = IfSome told (IsReplyIn v)

-- up to the end of the line
abbrev pub ended : {X : Type 0} → (List ℕ → Front X) → List ℕ → Front X
ended read bytes = closed_by (codes "\n") (read bytes)

abbrev pub ended_text : {X : Type 0} → (X → List ℕ) → X → List ℕ
ended_text text x = text x ++ codes "\n"

-- a tuple behind a word
abbrev pub tuple_behind : List ℕ → List ℕ → Front Tree
tuple_behind word bytes = behind (after word bytes) tuple_at

-- a text in quotes behind a word
abbrev pub quote_behind : List ℕ → List ℕ → Front (List ℕ)
quote_behind word bytes = behind (after word bytes) quote_at

-- that the reactions to an answer went over the budget, for which this tuple had been chosen
abbrev pub over_with : Tree → Outcome
over_with t = outcome.Over Post (Some t)

-- an outcome that each version has
abbrev pub common_outcome_at : List ℕ → Front Outcome
common_outcome_at bytes =
    or_else (word_for outcome.Done (codes "done") bytes)
    (or_else (made outcome.Took (tuple_behind (codes "tuple ") bytes))
    (or_else (word_for outcome.NoTuple (codes "none") bytes)
    (or_else (word_for outcome.Pending (codes "pending") bytes)
    (or_else (made outcome.Spec (quote_behind (codes "spec ") bytes))
    (or_else (word_for (outcome.Over Pre None) (codes "over pre") bytes)
    (or_else (made over_with (tuple_behind (codes "over post ") bytes))
    (word_for (outcome.Over Post None) (codes "over post") bytes)))))))

-- an outcome that version 2 has besides
abbrev pub further_outcome_at : List ℕ → Front Outcome
further_outcome_at bytes =
    or_else (word_for outcome.Absent (codes "absent") bytes)
    (made outcome.Found (tuple_behind (codes "found ") bytes))

-- an outcome
abbrev pub outcome_at : Version → List ℕ → Front Outcome
outcome_at One bytes = common_outcome_at bytes
outcome_at Two bytes = or_else (common_outcome_at bytes) (further_outcome_at bytes)

-- a reply that each version has
abbrev pub common_reply_at : List ℕ → Front Reply
common_reply_at bytes =
    or_else (word_for reply.Done (codes "done") bytes)
    (or_else (made reply.Tuple (tuple_behind (codes "tuple ") bytes))
    (or_else (word_for reply.NoTuple (codes "none") bytes)
    (or_else (made reply.Spec (quote_behind (codes "spec ") bytes))
    (or_else (word_for (reply.OverBudget Pre) (codes "over pre") bytes)
    (word_for (reply.OverBudget Post) (codes "over post") bytes)))))

-- a reply that version 2 has besides
abbrev pub further_reply_at : List ℕ → Front Reply
further_reply_at bytes =
    or_else (word_for reply.Absent (codes "absent") bytes)
    (made reply.Found (tuple_behind (codes "found ") bytes))

-- a reply
abbrev pub reply_at : Version → List ℕ → Front Reply
reply_at One bytes = common_reply_at bytes
reply_at Two bytes = or_else (common_reply_at bytes) (further_reply_at bytes)

-- what an agent is told that asks
abbrev pub told_at : Version → List ℕ → Front (Option Reply)
told_at v bytes = or_else (made Some (reply_at v bytes)) (word_for None (codes "pending") bytes)

-- an effect, behind a space
abbrev pub effect_at : List ℕ → Front Effect
effect_at bytes =
    or_else (made Put (tuple_behind (codes " put ") bytes))
    (or_else (made Took (tuple_behind (codes " took ") bytes))
    (made Read (tuple_behind (codes " read ") bytes)))
