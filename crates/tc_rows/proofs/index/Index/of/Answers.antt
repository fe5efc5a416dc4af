use Rattle.std.proofs.Common.{◌≡◌, ◌<◌, Some, length, slice_get, refl, subst, ap, ◌∙◌, arith}
use Rattle.std.proofs.lemmas.List.{length_push}
use Rattle.std.proofs.lemmas.Option.{slice_get_read}
use Rattle.tc_config.specs.Good.{origin_of}
use Rattle.tc_rows.specs.Index.{IsIndexed}
use Rattle.tc_rows.proofs.Indexing.{indexed-more}
use Rattle.tc_rows.proofs.index.Index.of.Goals as goal

pub loop-place-preserved : goal.loop-place-preserved
loop-place-preserved c =
    let config = c.args.config.now in
    let hs = c.args.histories.now in
    let place = c.loop-place.place in
    let old = c.loop-place.indexes.items in
    let many : length old ≡ place = c.loop-place.invariant.many in
    let centre = c.index-centres-place.result in
    let history = c.index-histories-place.result in
    let new = c.in_ok-centre_index.field-0 in
    let inside : place < length hs = omega arith in
    let centres = c.centres-centres.ensures.centres in
    let ath : slice_get hs (length old) ≡ Some history =
    ap (slice_get hs) many ∙ slice_get_read hs (length hs) place history refl inside c.index-histories-place.is in
    let atc : slice_get config.centres (length old) ≡ Some centre =
    ap (slice_get config.centres) many
    ∙ subst (λ cs. slice_get cs place ≡ Some centre) centres
    (slice_get_read c.centres-centres.result.now (length c.centres-centres.result.now) place centre refl
    (omega (arith, inside, c.requires.quiet.whole, ap length centres)) c.index-centres-place.is) in
    record {
      many = ap length c.in_ok-push.ensures.items ∙ omega (arith, length_push old new, many);
      each = indexed-more config hs old c.push.new.self.items new centre history c.loop-place.invariant.each c.in_ok-push.ensures.items atc ath
          (subst (λ h. IsIndexed (origin_of config centre) h new) c.items.ensures c.in_ok-centre_index.ensures);
    }
