use Rattle.std.proofs.Common.{◌≡◌, ◌+◌, true, not, List, Contains, Some, length, map, slice_get, refl, sym, subst, ap, ◌∙◌, arith}
use Rattle.std.proofs.lemmas.Bool.{false≢true}
use Rattle.std.proofs.lemmas.Option.{slice_get_read, slice_get_within}
use Rattle.tc_config.specs.Good.{origin_of}
use Rattle.tc_config.specs.declared.configs.CentreConf.{CentreConf}
use Rattle.tc_model.specs.declared.entries.Entry.{Entry}
use Rattle.tc_rows.specs.Index.{IsIndexed}
use Rattle.tc_rows.proofs.Serving.{ToldAt, refused-known, row-nowhere, row-there}
use Rattle.tc_rows.proofs.served_rows.may_stand.Goals as goal

pub returns-then-not-is_of_unknown : goal.returns-then-not-is_of_unknown
returns-then-not-is_of_unknown c = λ a ata.
    let config = c.args.config.now in
    let hs = c.args.histories.now in
    let rows = c.args.rows.now in
    let row = c.args.row.now in
    let k = c.args.place in
    let p = c.in-Some.centre in
    let is = c.in-Some.ensures.some in
    let s = is.centre in
    let known : slice_get config.centres p ≡ Some s = subst (λ all. slice_get all p ≡ Some s) c.centres.ensures.centres is.known in
    let inside = slice_get_within config.centres p s known in
    let h = c.index-histories-centre.result in
    let ath = slice_get_read hs (length hs) p h refl (omega (arith, inside, c.requires.quiet.whole)) c.index-histories-centre.is in
    let x = c.index.result.now in
    let all = c.args.index.now.centres.items in
    let atx = slice_get_read all (length all) p x refl (omega (arith, inside, c.requires.index.whole)) c.index.ensures in
    let indexed = c.requires.index.each p s h x known ath atx in
    let T : List Entry → Type 0 = λ es. ToldAt c.args.version config hs c.args.agent a rows k row p s es in
    let agrees = c.agrees.ensures (origin_of config s) a
    (subst (λ es. IsIndexed (origin_of config s) es x) (sym c.items.ensures) indexed) ata in
    let there = row-there c.args.version config hs c.args.agent a rows k row (omega arith) c.centres.ensures.config p s h known is.named ath in (
      λ yes.
          there.0 (λ same. false≢true (sym c.if-not-is_of_unknown.true ∙ c.is_of_unknown.ensures.1 same))
          (subst T c.items.ensures (agrees.0 yes)),
      λ stands. agrees.1 (subst T (sym c.items.ensures) (there.1 stands).1),
    )

pub returns-else-not-is_of_unknown : goal.returns-else-not-is_of_unknown
returns-else-not-is_of_unknown c = λ a ata.
    let config = c.args.config.now in
    let hs = c.args.histories.now in
    let p = c.in-Some.centre in
    let is = c.in-Some.ensures.some in
    let s = is.centre in (
      λ yes. absurd (false≢true (subst (λ b. not b ≡ true) c.if-not-is_of_unknown.false yes)),
      λ stands.
          absurd (refused-known c.args.version config hs c.args.agent a c.args.rows.now c.args.place c.args.row.now c.centres.ensures.config p s
          (subst (λ all. slice_get all p ≡ Some s) c.centres.ensures.centres is.known) is.named stands
          (c.is_of_unknown.ensures.0 c.if-not-is_of_unknown.false)),
    )

pub returns-in-None : goal.returns-in-None
returns-in-None c = λ a ata.
    let config = c.args.config.now in
    let row = c.args.row.now in
    let never = subst (λ (all : List CentreConf). Contains (map (λ (s : CentreConf). s.name) all) row.centre → ⊥) c.centres.ensures.centres
    c.in-None.ensures.none in
    let nowhere = row-nowhere c.args.version config c.args.histories.now c.args.agent a c.args.rows.now c.args.place row (omega arith) never in
    let h = c.is_of_unknown-in-None.ensures in
    (λ yes. nowhere.0 (h.0 yes), λ stands. h.1 (nowhere.1 stands))
