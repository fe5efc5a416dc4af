use Rattle.std.proofs.Common.{◌≡◌, ◌<◌, ◌≤◌, ◌+◌, ℕ, [], ◌∷◌, ◌++◌, Some, length, slice_get, take_all, refl, sym, subst, ap, ◌∙◌, ⊎_elim, arith}
use Rattle.std.proofs.lemmas.Bool.{cases_lt, false≢true}
use Rattle.std.proofs.lemmas.Option.{same_Some, slice_get_read}
use Rattle.tc_asks.specs.Progress.{HasTakenIn}
use Rattle.tc_asks.proofs.Taken.{taken_longer}
use Rattle.tc_config.specs.declared.configs.AgentConf.{AgentConf}
use Rattle.tc_desk.specs.Logs.{any_pending}
use Rattle.tc_histline.specs.declared.lines.TextRow.{TextRow}
use Rattle.tc_rows.specs.Rows.{IsSoundRow, logged}
use Rattle.tc_rows.proofs.Faults.{all-sound, first-end, first-row, log-length, log-more, sound-items, sound-settled}
use Rattle.tc_rows.proofs.rows.first_faulty.Goals as goal

pub loop-row-init : goal.loop-row-init
loop-row-init c =
    let config = c.args.config.now in
    let conf = c.index-agents-agent.result in
    let here : slice_get config.agents c.args.agent ≡ Some conf =
    subst (λ all. slice_get all c.args.agent ≡ Some conf) c.agents.ensures.agents
    (slice_get_read c.agents.result.now (length c.agents.result.now) c.args.agent conf refl
    (omega (arith, c.requires.inside, ap length c.agents.ensures.agents)) c.index-agents-agent.is) in
    record {
      log = c.in_ok-log.ensures.items;
      taken = λ a at.
          let conf_is : conf ≡ a = same_Some conf a (sym here ∙ at) in
          let scripts_is = c.items.ensures ∙ (ap (λ (x : AgentConf). x.scripts) (sym c.index-agents-agent.is)
          ∙ ap (λ (x : AgentConf). x.scripts) conf_is) in
          subst (λ s. HasTakenIn s c.in_ok-log.log.items c.in_ok-asker.asker) scripts_is (c.in_ok-asker.ensures c.in_ok-log.log.items);
      before = λ a k row at below there. absurd (omega (arith, below));
      settled = λ some. ap any_pending c.in_ok-log.ensures.items;
    }

pub is_next_sound-requires-clause-taken : goal.is_next_sound-requires-clause-taken
is_next_sound-requires-clause-taken c = λ a at.
    subst (λ l. HasTakenIn a.scripts l c.loop-row.asker) (sym c.deref.ensures.value) (c.loop-row.invariant.taken a at)

pub returns-then-not-sound-clause-faulty : goal.returns-then-not-sound-clause-faulty
returns-then-not-sound-clause-faulty c = λ a ata.
    let hs = c.args.histories.now in
    let rows = c.args.rows.now in
    let i = c.loop-row.row-index in
    let old = c.loop-row.log.items in
    let inv = c.loop-row.invariant in
    let x = c.row-item.result in
    let inside : i < length rows = omega arith in
    let atx : slice_get rows i ≡ Some x = slice_get_read rows (length rows) i x refl inside c.row-item.is in
    let long : length c.deref.result.now ≡ i = ap length c.deref.ensures.value ∙ log-length rows i old (omega arith) inv.log in
    let fails : IsSoundRow c.args.version c.args.config.now hs c.args.agent a rows i x → ⊥ =
    λ sound.
    false≢true
    (sym c.if-not-sound.true
    ∙ (c.in_ok-sound.ensures.sound a x ata (ap (slice_get rows) long ∙ atx)).1
    (subst (λ n. IsSoundRow c.args.version c.args.config.now hs c.args.agent a rows n x) (sym long) sound)) in
    first-row c.args.version c.args.config.now hs c.args.agent a rows i x (c.len.result + 1)
    (omega (arith, c.len.ensures, c.loop-row.log.ok.0, log-length rows i old (omega arith) inv.log)) atx fails
    (λ j r below at. inv.before a j r ata below at)

pub loop-row-preserved : goal.loop-row-preserved
loop-row-preserved c =
    let config = c.args.config.now in
    let conf = c.index-agents-agent.result in
    let here : slice_get config.agents c.args.agent ≡ Some conf =
    subst (λ all. slice_get all c.args.agent ≡ Some conf) c.agents.ensures.agents
    (slice_get_read c.agents.result.now (length c.agents.result.now) c.args.agent conf refl
    (omega (arith, c.requires.inside, ap length c.agents.ensures.agents)) c.index-agents-agent.is) in
    let hs = c.args.histories.now in
    let rows = c.args.rows.now in
    let i = c.loop-row.row-index in
    let old = c.loop-row.log.items in
    let inv = c.loop-row.invariant in
    let x = c.row-item.result in
    let inside : i < length rows = omega arith in
    let atx : slice_get rows i ≡ Some x = slice_get_read rows (length rows) i x refl inside c.row-item.is in
    let long : length c.deref.result.now ≡ i = ap length c.deref.ensures.value ∙ log-length rows i old (omega arith) inv.log in
    let new = c.push.new.self.items in
    let row_is = c.in_ok-log_row.ensures in
    let pushed = c.in_ok-push.ensures.items in
    let sound : (a : AgentConf) → slice_get config.agents c.args.agent ≡ Some a
    → IsSoundRow c.args.version config hs c.args.agent a rows i x =
    λ a ata.
    subst (λ n. IsSoundRow c.args.version config hs c.args.agent a rows n x) long
    ((c.in_ok-sound.ensures.sound a x ata (ap (slice_get rows) long ∙ atx)).0 c.if-not-sound.false) in
    record {
      log = log-more rows i x old new c.in_ok-log_row.field-0 inside c.row-item.is inv.log row_is pushed;
      taken = λ a at.
          subst (λ l. HasTakenIn a.scripts l c.is_next_sound.new.asker) (sym pushed)
          (taken_longer a.scripts old (c.in_ok-log_row.field-0 ∷ []) c.is_next_sound.new.asker
          (subst (λ l. HasTakenIn a.scripts l c.is_next_sound.new.asker) c.deref.ensures.value (c.is_next_sound.ensures.taken a at)));
      before = λ a k r ata below at.
          ⊎_elim (λ (less : k < i). inv.before a k r ata less at)
          (λ (from : i ≤ k).
          let same : i ≡ k = omega (arith, below, from) in
          let is : x ≡ r = same_Some x r (sym atx ∙ (ap (slice_get rows) same ∙ at)) in
          subst (λ (z : TextRow). IsSoundRow c.args.version config hs c.args.agent a rows k z) is
          (subst (λ n. IsSoundRow c.args.version config hs c.args.agent a rows n x) same (sound a ata)))
          (cases_lt k i);
      settled = λ more.
          sound-settled c.args.version config hs c.args.agent conf rows i x old new (sound conf here) more (inv.settled inside)
          (pushed ∙ ap (λ y. old ++ y ∷ []) row_is);
    }

pub is_wrong_end-requires-clause-items : goal.is_wrong_end-requires-clause-items
is_wrong_end-requires-clause-items c = λ a ata.
    let hs = c.args.histories.now in
    let rows = c.args.rows.now in
    let i = c.loop-row.row-index in
    let old = c.loop-row.log.items in
    let inv = c.loop-row.invariant in
    let same : i ≡ length rows = omega arith in
    let before = λ (j : ℕ) (r : TextRow) (below : j < length rows) (at : slice_get rows j ≡ Some r).
    inv.before a j r ata (omega (arith, below, same)) at in
    omega (
      arith,
      sound-items c.args.version c.args.config.now hs c.args.agent a rows (length rows) (omega arith) before,
      ap length c.deref-2.ensures.value,
      log-length rows i old (omega arith) inv.log,
      same,
    )

pub is_wrong_end-requires-clause-taken : goal.is_wrong_end-requires-clause-taken
is_wrong_end-requires-clause-taken c = λ a at.
    subst (λ l. HasTakenIn a.scripts l c.loop-row.asker) (sym c.deref-2.ensures.value) (c.loop-row.invariant.taken a at)

pub returns-then-branch-clause-faulty : goal.returns-then-branch-clause-faulty
returns-then-branch-clause-faulty c = λ a ata.
    let hs = c.args.histories.now in
    let rows = c.args.rows.now in
    let i = c.loop-row.row-index in
    let old = c.loop-row.log.items in
    let inv = c.loop-row.invariant in
    let same : i ≡ length rows = omega arith in
    let before = λ (j : ℕ) (r : TextRow) (below : j < length rows) (at : slice_get rows j ≡ Some r).
    inv.before a j r ata (omega (arith, below, same)) at in
    let log_is : c.deref-2.result.now ≡ logged rows =
    c.deref-2.ensures.value ∙ (inv.log ∙ ap logged (take_all i rows (omega (arith, same)))) in
    first-end c.args.version c.args.config.now hs c.args.agent a rows
    ((c.in_ok-is_wrong_end.ensures a rows ata log_is).0 c.if-branch.true) before

pub returns-clause-sound : goal.returns-clause-sound
returns-clause-sound c = λ a ata.
    let hs = c.args.histories.now in
    let rows = c.args.rows.now in
    let i = c.loop-row.row-index in
    let old = c.loop-row.log.items in
    let inv = c.loop-row.invariant in
    let same : i ≡ length rows = omega arith in
    let before = λ (j : ℕ) (r : TextRow) (below : j < length rows) (at : slice_get rows j ≡ Some r).
    inv.before a j r ata (omega (arith, below, same)) at in
    let log_is : c.deref-2.result.now ≡ logged rows =
    c.deref-2.ensures.value ∙ (inv.log ∙ ap logged (take_all i rows (omega (arith, same)))) in
    all-sound c.args.version c.args.config.now hs c.args.agent a rows
    (λ wrong. false≢true (sym c.if-branch.false ∙ (c.in_ok-is_wrong_end.ensures a rows ata log_is).1 wrong)) before
