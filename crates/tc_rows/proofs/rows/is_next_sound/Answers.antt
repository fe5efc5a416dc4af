use Rattle.std.proofs.Common.{◌≡◌, ◌+◌, true, Bool, eqb, Some, length, slice_get, refl, sym, subst, ap, ◌∙◌, arith}
use Rattle.std.proofs.lemmas.Bool.{eqb-true}
use Rattle.std.proofs.lemmas.Bool.Decides.{Decides-eqb}
use Rattle.std.proofs.lemmas.Option.{same_Some, slice_get_read}
use Rattle.std.proofs.lemmas.Result.{IfOk-weaker}
use Rattle.tc_lists.proofs.Options.{IfSome-at}
use Rattle.tc_asks.specs.Nexts.{IsNextAsk}
use Rattle.tc_asks.specs.Progress.{HasTakenIn}
use Rattle.tc_config.specs.declared.configs.AgentConf.{AgentConf}
use Rattle.tc_histline.specs.declared.lines.TextRow.{TextRow}
use Rattle.tc_rows.specs.Rows.{IsSoundRow}
use Rattle.tc_rows.proofs.Rowing.{from-row, to-row}
use Rattle.tc_rows.proofs.Sounding.{index-made}
use Rattle.tc_rows.proofs.Stepping.{step-placed}
use Rattle.tc_rows.proofs.rows.is_next_sound.Goals as goal

pub is_sound-requires-clause-there : goal.is_sound-requires-clause-there
is_sound-requires-clause-there c =
    let config = c.args.config.now in
    let conf = c.index-agents-agent.result in
    let here : slice_get config.agents c.args.agent ≡ Some conf =
    subst (λ all. slice_get all c.args.agent ≡ Some conf) c.agents.ensures.agents
    (slice_get_read c.agents.result.now (length c.agents.result.now) c.args.agent conf refl
    (omega (arith, c.requires.inside, ap length c.agents.ensures.agents)) c.index-agents-agent.is) in
    let scripts_is : c.items-scripts.result.now ≡ conf.scripts =
    c.items-scripts.ensures ∙ ap (λ (x : AgentConf). x.scripts) (sym c.index-agents-agent.is) in
    let nx : IsNextAsk conf.scripts c.args.log.now c.in-Some.next =
    subst (λ s. IsNextAsk s c.args.log.now c.in-Some.next) scripts_is
    (IfSome-at (IsNextAsk c.items-scripts.result.now c.args.log.now) c.in_ok-next.field-0 c.in-Some.next c.in-Some.is c.in_ok-next.ensures.some) in
    omega (arith, step-placed config c.args.agent conf (length c.args.log.now) nx.step c.agents.ensures.config here nx.asks.stands, nx.centre)

pub returns-clause-taken : goal.returns-clause-taken
returns-clause-taken c = λ a at.
    let config = c.args.config.now in
    let conf = c.index-agents-agent.result in
    let here : slice_get config.agents c.args.agent ≡ Some conf =
    subst (λ all. slice_get all c.args.agent ≡ Some conf) c.agents.ensures.agents
    (slice_get_read c.agents.result.now (length c.agents.result.now) c.args.agent conf refl
    (omega (arith, c.requires.inside, ap length c.agents.ensures.agents)) c.index-agents-agent.is) in
    let conf_is : conf ≡ a = same_Some conf a (sym here ∙ at) in
    subst (λ (x : AgentConf). HasTakenIn x.scripts c.args.log.now c.next_ask.new.self) conf_is
    (subst (λ s. HasTakenIn s c.args.log.now c.next_ask.new.self)
    (c.items-scripts.ensures ∙ ap (λ (x : AgentConf). x.scripts) (sym c.index-agents-agent.is)) c.next_ask.ensures.taken)

pub returns-clause-sound : goal.returns-clause-sound
returns-clause-sound c = λ a row ata at.
    let config = c.args.config.now in
    let conf = c.index-agents-agent.result in
    let here : slice_get config.agents c.args.agent ≡ Some conf =
    subst (λ all. slice_get all c.args.agent ≡ Some conf) c.agents.ensures.agents
    (slice_get_read c.agents.result.now (length c.agents.result.now) c.args.agent conf refl
    (omega (arith, c.requires.inside, ap length c.agents.ensures.agents)) c.index-agents-agent.is) in
    let scripts_is : c.items-scripts.result.now ≡ conf.scripts =
    c.items-scripts.ensures ∙ ap (λ (x : AgentConf). x.scripts) (sym c.index-agents-agent.is) in
    let nx : IsNextAsk conf.scripts c.args.log.now c.in-Some.next =
    subst (λ s. IsNextAsk s c.args.log.now c.in-Some.next) scripts_is
    (IfSome-at (IsNextAsk c.items-scripts.result.now c.args.log.now) c.in_ok-next.field-0 c.in-Some.next c.in-Some.is c.in_ok-next.ensures.some) in
    let conf_is : conf ≡ a = same_Some conf a (sym here ∙ ata) in
    let hs = c.args.histories.now in
    let log = c.args.log.now in
    let rows = c.args.rows.now in
    let x = c.index-rows-place.result in
    let atx : slice_get rows (length log) ≡ Some x =
    slice_get_read rows (length rows) (length log) x refl c.requires.within c.index-rows-place.is in
    let row_is : x ≡ row = same_Some x row (sym atx ∙ at) in
    let is_last = eqb (length log + 1) (length rows) in
    let log_is = c.requires.log in
    let S : AgentConf → TextRow → Bool → Type 0 =
    λ b r y. (y ≡ true → IsSoundRow c.args.version config hs c.args.agent b rows (length log) r)
    × (IsSoundRow c.args.version config hs c.args.agent b rows (length log) r → y ≡ true) in
    IfOk-weaker c.is_sound.result _ _
    (λ y h.
    subst (λ (r : TextRow). S a r y) row_is
    (subst (λ (b : AgentConf). S b x y) conf_is (
      λ yes.
          to-row c.args.version config hs c.args.agent conf rows log x log_is c.in-Some.next nx is_last c.args.index.now
          (index-made config hs c.args.index.now c.requires.quiet c.requires.index)
          (λ last. eqb-true (length log + 1) (length rows) last) (h.0 yes),
      λ sound.
          h.1
          (from-row c.args.version config hs c.args.agent conf rows log x log_is c.in-Some.next nx is_last
          (λ last. (Decides-eqb (length log + 1) (length rows)).1 last) sound),
    )))
    (c.is_sound.ensures conf here)
