use Rattle.std.proofs.Common.{◌≡◌, ◌∙◌, sym}
use Rattle.std.proofs.lemmas.List.Elements.{All-weaker}
use Rattle.tc_model.specs.Calls.{calls_of}
use Rattle.tc_model.specs.declared.entries.Entry.{Entry}
use Rattle.tc_centre.specs.Owners.{owner_of}
use Rattle.tc_centre.proofs.Owned.{owned-calls}
use Rattle.tc_turn.specs.Passes.{EndedState, AgreesWith}
use Rattle.tc_shared.proofs.centre.SharedCentre.close.Goals as goal

pub returns-clause-calls : goal.returns-clause-calls
returns-clause-calls g =
    let history = g.close.result.history in
    All-weaker (AgreesWith owner_of history) (λ (e : EndedState Entry). calls_of e.number history ≡ e.mine)
    (λ e agrees. sym (owned-calls e.number history) ∙ agrees.1) g.args.ended.items g.close.ensures.seen
