use Rattle.std.proofs.Common.{◌≡◌, ◌++◌, ◌∷◌, set, sym, subst}
use Rattle.tc_desk.specs.Desks.{replied}
use Rattle.tc_desk.specs.declared.rows.LogRow.{LogRow}
use Rattle.tc_desk.proofs.Logs.{put-set}
use Rattle.tc_desk.proofs.rows.put_reply.Goals as goal

pub returns : goal.returns
returns c front row back from here =
    subst (λ (r : LogRow). set c.args.log.now.items c.args.place r ≡ front ++ replied row c.args.reply ∷ back) (sym c.answer.ensures)
    (put-set c.args.log.now.items front row c.index_mut.result.now back c.args.reply c.args.place from here c.index_mut.ensures.value)
