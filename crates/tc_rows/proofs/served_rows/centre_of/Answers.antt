use Rattle.std.proofs.Common.{◌≡◌, ◌<◌, ◌≤◌, length, map, slice_get, Some, refl, sym, ap, ◌∙◌, ⊎_elim, arith}
use Rattle.std.proofs.lemmas.Bool.{cases_lt, false≢true}
use Rattle.std.proofs.lemmas.Option.{same_Some, slice_get_read, slice_get_within}
use Rattle.tc_config.specs.declared.configs.CentreConf.{CentreConf}
use Rattle.tc_lists.proofs.Places.{slice_get-Contains}
use Rattle.tc_lists.proofs.Sets.{slice_get-map_from}
use Rattle.tc_rows.proofs.served_rows.centre_of.Goals as goal

pub returns-then-same_name-clause-some : goal.returns-then-same_name-clause-some
returns-then-same_name-clause-some c =
    let all = c.args.centres.now in
    let s = c.index-centres-place.result in
    record {
      centre = s;
      known = slice_get_read all (length all) c.loop-place.place s refl (omega arith) c.index-centres-place.is;
      named = c.same_name.ensures.0 c.if-same_name.true;
    }

pub loop-place-preserved : goal.loop-place-preserved
loop-place-preserved c = λ k t below at is.
    let all = c.args.centres.now in
    let place = c.loop-place.place in
    let s = c.index-centres-place.result in
    let ats = slice_get_read all (length all) place s refl (omega arith) c.index-centres-place.is in
    ⊎_elim (λ (less : k < place). c.loop-place.invariant k t less at is)
    (λ (from : place ≤ k).
    let same : place ≡ k = omega (arith, below, from) in
    let one : s ≡ t = same_Some s t (sym ats ∙ (ap (slice_get all) same ∙ at)) in
    false≢true (sym c.if-same_name.false ∙ c.same_name.ensures.1 (ap (λ (x : CentreConf). x.name) one ∙ is)))
    (cases_lt k place)

pub returns-clause-none : goal.returns-clause-none
returns-clause-none c = λ has.
    let all = c.args.centres.now in
    let names = map (λ (s : CentreConf). s.name) all in
    let s = slice_get-map_from (λ (x : CentreConf). x.name) all has.0 c.args.name.now (slice_get-Contains names c.args.name.now has) in
    c.loop-place.invariant has.0 s.0 (omega (arith, slice_get_within all has.0 s.0 s.1)) s.1 s.2
