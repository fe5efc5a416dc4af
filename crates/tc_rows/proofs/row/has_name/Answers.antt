use Rattle.std.proofs.Common.{◌≡◌, Some, length, slice_get, refl, sym, subst, ap, ◌∙◌, arith}
use Rattle.std.specs.Str.{bytes_eq}
use Rattle.std.proofs.lemmas.Option.{same_Some, slice_get_read}
use Rattle.std.proofs.lemmas.Slice.Eq.{bytes_eq-Decides}
use Rattle.tc_config.specs.declared.configs.CentreConf.{CentreConf}
use Rattle.tc_rows.proofs.row.has_name.Goals as goal

pub returns : goal.returns
returns c =
    let s = c.index-centres-place.result in
    let at : slice_get c.args.config.now.centres c.args.place ≡ Some s =
    subst (λ cs. slice_get cs c.args.place ≡ Some s) c.centres.ensures.centres
    (slice_get_read c.centres.result.now (length c.centres.result.now) c.args.place s refl
    (omega (arith, c.requires, ap length c.centres.ensures.centres)) c.index-centres-place.is) in
    let eq : c.eq.result ≡ bytes_eq s.name c.args.name.now =
    c.eq.ensures ∙ ap (λ (x : CentreConf). bytes_eq x.name c.args.name.now) (sym c.index-centres-place.is) in
    let same = bytes_eq-Decides s.name c.args.name.now in (
      λ yes. record { centre = s; known = at; named = sym (same.0 (sym eq ∙ yes)) },
      λ has.
          eq ∙ same.1 (ap (λ (x : CentreConf). x.name) (same_Some s has.centre (sym at ∙ has.known)) ∙ sym has.named),
    )
