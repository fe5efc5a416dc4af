use Rattle.std.proofs.Common.{◌≡◌, ◌∙◌, ◌++◌, ◌∷◌, [], false, true, refl, map, ap, sym, inl, ⊎_elim, arith}
use Rattle.std.proofs.lemmas.List.{map-append}
use Rattle.tc_io.specs.Links.{opened_more}
use Rattle.tc_visits.specs.Seats.{SeatState}
use Rattle.tc_visits.specs.Serving.{opened_all}
use Rattle.tc_visits.proofs.Accepted.{kits-session, opened_all-more}
use Rattle.tc_visits.proofs.serving.seat_each.Goals as goal

pub loop-kit-preserved-in-Some-next_link : goal.loop-kit-preserved-in-Some-next_link
loop-kit-preserved-in-Some-next_link g c =
    let before = c.loop-kit.invariant in
    let told = c.in-Some-next_link.ensures in
    let on : c.loop-kit.goes_on ≡ true = told.closed refl in
    let none : c.loop-kit.idle.items ≡ [] =
    ⊎_elim (λ p. p.1) (λ q. let never : false ≡ true = sym q.0 ∙ on in cc) before.faults in
    let same : g.D.Door.door_faults c.next_link.new.door ≡ g.D.Door.door_faults c.loop-kit.door =
    told.counted.unfailed (λ p. let never : true ≡ false = p.1 in cc) in
    let seats : c.push_reserved.new.self.items ≡ c.loop-kit.seats.items ++ c.new.result ∷ [] =
    c.push_reserved.ensures.items ∙ ap (λ ss. ss ++ c.new.result ∷ []) told.seats in
    record {
      kits = ap (λ ss. map (λ (s : SeatState). s.kit) ss ++ c.loop-kit.idle.items) seats
          ∙ kits-session (λ (s : SeatState). s.kit) c.loop-kit.seats.items c.loop-kit.idle.items c.loop-kit.yielded c.new.result c.in-Some.kit none before.kits c.new.ensures.kit;
      opened = told.opened
          ∙ ap (λ x. opened_more (g.D.Door.opened c.loop-kit.door) x) (sym c.new.ensures.connection)
          ∙ ap (λ o. opened_more o c.new.result.connection) before.opened
          ∙ opened_all-more (g.D.Door.opened c.args.door.now) (map (λ (s : SeatState). s.connection) c.loop-kit.seats.items) c.new.result.connection
          ∙ ap (opened_all (g.D.Door.opened c.args.door.now))
          (sym (map-append (λ (s : SeatState). s.connection) c.loop-kit.seats.items (c.new.result ∷ [])) ∙ ap (map (λ (s : SeatState). s.connection)) (sym seats));
      faults = ⊎_elim (λ p. inl (p.0, p.1, same ∙ p.2)) (λ q. let never : false ≡ true = sym q.0 ∙ on in cc) before.faults;
      room = c.push_reserved.ensures.capacity ∙ told.room ∙ before.room;
      room_idle = before.room_idle;
      buffer = omega (arith, before.buffer);
    }
