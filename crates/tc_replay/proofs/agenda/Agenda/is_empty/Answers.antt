use Rattle.std.proofs.Common.{◌≡◌, ◌↔◌, IsTrue, List, [], subst}
use Rattle.tc_model.specs.Triggers.{Member}
use Rattle.tc_replay.proofs.Agendas.{none-lies}
use Rattle.tc_replay.proofs.agenda.Agenda.is_empty.Goals as goal

pub returns : goal.returns
returns c =
    subst (λ (ms : List Member). IsTrue c.is_none.result ↔ (ms ≡ [])) c.self.view_is
    (none-lies (λ (ms : List Member). ms) c.self.inside.groups.items c.place_in.result c.is_none.result c.place_in.ensures.some c.place_in.ensures.none c.is_none.ensures)
