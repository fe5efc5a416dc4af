use Rattle.std.proofs.Common.{◌≡◌, true, List, Contains, length, refl, sym, subst, ap, inl, arith}
use Rattle.std.proofs.lemmas.Option.{slice_get_read}
use Rattle.std.proofs.lemmas.Result.{IfOk-weaker}
use Rattle.tc_config.specs.Good.{origin_of}
use Rattle.tc_config.specs.declared.configs.CentreConf.{CentreConf}
use Rattle.tc_policy.specs.Places.{grant}
use Rattle.tc_model.specs.Calls.{call_of}
use Rattle.tc_model.specs.declared.entries.Entry.{Entry}
use Rattle.tc_rows.specs.Index.{IsIndexed}
use Rattle.tc_rows.specs.Made.{HasNoEntry}
use Rattle.tc_rows.specs.Told.{IsToldResult}
use Rattle.tc_rows.proofs.Sounding.{centre-there, indexed-there, told-there}
use Rattle.tc_rows.proofs.row.is_told_there.Goals as goal

pub overflow_cast-id : goal.overflow_cast-id
overflow_cast-id c = omega (arith, c.requires.inside, c.agents-agents.ensures.config.few_agents, ap length c.agents-agents.ensures.agents)

pub is_told_result-requires-clause-index : goal.is_told_result-requires-clause-index
is_told_result-requires-clause-index c =
    let hs = c.args.histories.now in
    let h = c.index-histories-place.result in
    let x = c.index.result.now in
    let centre = c.args.next.centre in
    let ath = slice_get_read hs (length hs) centre h refl (omega (arith, c.requires.there, c.requires.quiet.whole)) c.index-histories-place.is in
    let atx = slice_get_read c.args.index.now.centres.items (length c.args.index.now.centres.items) centre x refl
    (omega (arith, c.requires.there, c.requires.index.whole)) c.index.ensures in
    let s = centre-there c.args.config.now hs c.args.index.now c.requires.index centre h x ath atx in (
      origin_of c.args.config.now s.0,
      subst (λ es. IsIndexed (origin_of c.args.config.now s.0) es x) (sym c.items.ensures)
          (indexed-there c.args.config.now hs c.args.index.now c.requires.index centre h x ath atx),
    )

pub is_told_result-requires-clause-alone : goal.is_told_result-requires-clause-alone
is_told_result-requires-clause-alone c = λ never.
    let hs = c.args.histories.now in
    let h = c.index-histories-place.result in
    let centre = c.args.next.centre in
    let ath = slice_get_read hs (length hs) centre h refl (omega (arith, c.requires.there, c.requires.quiet.whole)) c.index-histories-place.is in
    subst (HasNoEntry c.args.agent c.args.row.now.number) (sym c.items.ensures) (c.requires.alone centre h ath (inl never))

pub returns : goal.returns
returns c = λ a at.
    let hs = c.args.histories.now in
    let h = c.index-histories-place.result in
    let x = c.index.result.now in
    let centre = c.args.next.centre in
    let ath = slice_get_read hs (length hs) centre h refl (omega (arith, c.requires.there, c.requires.quiet.whole)) c.index-histories-place.is in
    let atx = slice_get_read c.args.index.now.centres.items (length c.args.index.now.centres.items) centre x refl
    (omega (arith, c.requires.there, c.requires.index.whole)) c.index.ensures in
    let s = centre-there c.args.config.now hs c.args.index.now c.requires.index centre h x ath atx in
    let R : CentreConf → List Entry → Type 0 =
    λ s es. IsToldResult c.args.version (c.is_permitted-permitted.result ≡ true) (origin_of c.args.config.now s) es
    (call_of c.args.agent c.args.row.now.number) c.args.next.ask c.args.row.now.result in
    let may = c.is_permitted-permitted.ensures a at in
    let indexed = subst (λ es. IsIndexed (origin_of c.args.config.now s.0) es x) (sym c.items.ensures)
    (indexed-there c.args.config.now hs c.args.index.now c.requires.index centre h x ath atx) in
    IfOk-weaker c.is_told_result.result _ _
    (λ y is.
    told-there c.args.version c.args.config.now hs c.args.agent a c.args.next c.args.row.now s.0 h s.1 ath c.is_permitted-permitted.result y
    (λ yes. subst (λ p. Contains c.args.config.now.roles (grant a.role centre p)) c.primitive.ensures (may.0 yes))
    (λ has. may.1 (subst (λ p. Contains c.args.config.now.roles (grant a.role centre p)) (sym c.primitive.ensures) has))
    (λ yes. subst (R s.0) c.items.ensures (is.0 yes), λ told. is.1 (subst (R s.0) (sym c.items.ensures) told)))
    (c.is_told_result.ensures (origin_of c.args.config.now s.0) indexed)
