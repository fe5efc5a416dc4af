use Rattle.std.proofs.Common.{◌<◌, ℕ, List, All, arith, length, sym, subst}
use Rattle.tc_histtext.proofs.Agents.{ours-run}
use Rattle.tc_model.specs.Calls.{id_of}
use Rattle.tc_model.specs.declared.entries.Entry.{Entry}
use Rattle.test_session_rows.proofs.writing.write_core.Goals as goal

pub write_history-requires : goal.write_history-requires
write_history-requires g c =
    let core = c.args.core.now in
    let ours = ours-run core.origin core.history c.history.ensures.run in (
      search (c.type_bounds.sync-R),
      (
        omega arith,
        subst (λ (h : List Entry). All (λ e. (id_of e).agent < length c.agents.result.now) h) (sym c.history.ensures.history)
            (subst (λ (agents : List (List ℕ)). All (λ e. (id_of e).agent < length agents) core.history) (sym c.agents.ensures) ours),
      ),
    )
