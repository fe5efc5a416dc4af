use Rattle.std.proofs.Common.{ℕ, ◌<◌, List, length, refl, ap, rules}
use Rattle.std.proofs.lemmas.Option.{slice_get_read}
use Rattle.tc_policy.specs.declared.grants.Grant.{Grant}
use Rattle.tc_site.specs.Sites.{SiteState}
use Rattle.test_session_rows.proofs.Seated.{seats-set}
use Rattle.test_session_rows.proofs.desks.Desks.serve.Goals as goal

pub invariant_of-self : goal.invariant_of-self
invariant_of-self g c =
    let desks = c.args.self.now.desks.items in
    let was = c.index_mut.result.now in
    let within : c.args.place < length desks = search rules in
    record {
      seats =
          seats-set c.args.self.now.site.now desks c.args.place was c.serve_session.new.desk c.args.self.now.seats
          (slice_get_read desks (length desks) c.args.place was refl within c.index_mut.ensures.value)
          (ap (λ (b : SiteState (List Grant) × ℕ). b.0) c.serve_session.ensures.bond)
          (ap (λ (b : SiteState (List Grant) × ℕ). b.1) c.serve_session.ensures.bond)
          c.serve_session.ensures.kept.free;
    }
