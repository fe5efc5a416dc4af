-- The entries of a run are of its centre's agents.
use Rattle.std.proofs.Common.{◌<◌, List, All, length, subst}
use Rattle.std.proofs.lemmas.List.Elements.{All-contains, All-nil, All-push}
use Rattle.tc_model.proofs.Runs.{EachEntry-keeps, EachEntry-none, EachEntry-push}
use Rattle.tc_model.proofs.WaitingCalls.{waiting-run}
use Rattle.tc_model.specs.Calls.{id_of, IsCallOf}
use Rattle.tc_model.specs.Choices.{AnyOne}
use Rattle.tc_model.specs.Run.{HasCall, IsLegal, IsRun}
use Rattle.tc_model.specs.State.{Origin, opening, after_history}
use Rattle.tc_model.specs.declared.calls.CallId.{CallId}
use Rattle.tc_model.specs.declared.calls.Request.{Request}
use Rattle.tc_model.specs.declared.entries.Entry.{Entry}
use Rattle.tc_model.specs.declared.entries.Entry.TheVariants.{Called, Gave, Looked}

module _ (origin : Origin) where
  abbrev IsOurs : Entry → Type 0
  IsOurs e = (id_of e).agent < length origin.agents

  -- an id whose call is among entries of the centre's agents
  ours-called : (id : CallId) (e : Entry) → IsCallOf id e → IsOurs e → id.agent < length origin.agents
  ours-called id (Called i op result items) is ours = subst (λ (j : CallId). j.agent < length origin.agents) is ours
  ours-called id (Gave i result items) is ours = absurd is
  ours-called id (Looked i asked reply) is ours = absurd is

  ours-legal : (before : List Entry) (e : Entry) → IsRun origin before → All IsOurs before
      → IsLegal AnyOne origin before (after_history (opening origin) before) e → IsOurs e
  ours-legal before (Called id op result items) run ours legal = legal.1.agent
  ours-legal before (Gave id result items) run ours legal =
      let P : Request → Type 0 = λ r. HasCall r.id before in
      let called : HasCall legal.request.id before =
      All-contains P (after_history (opening origin) before).pending legal.request (waiting-run origin before run).called legal.chosen.0 in
      subst (λ (i : CallId). i.agent < length origin.agents) legal.asked
      (ours-called legal.request.id called.entry called.call (All-contains IsOurs before called.entry ours called.stands))
  ours-legal before (Looked id asked reply) run ours legal = legal.1.agent

  pub ours-run : (history : List Entry) → IsRun origin history → All IsOurs history
  ours-run history run =
      (EachEntry-keeps (IsLegal AnyOne origin) (opening origin) (λ es. IsRun origin es × All IsOurs es)
      (EachEntry-none (IsLegal AnyOne origin) (opening origin), All-nil IsOurs)
      (λ before e so_far legal. (
        EachEntry-push (IsLegal AnyOne origin) (opening origin) before e so_far.0 legal,
        All-push IsOurs before e so_far.1 (ours-legal before e so_far.0 so_far.1 legal),
      ))
      history run).1
