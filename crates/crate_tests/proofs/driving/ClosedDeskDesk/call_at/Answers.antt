use Rattle.std.proofs.Common.{[], rules, refl, sym, subst, arith}
use Rattle.std.proofs.lemmas.Option.{slice_get-get_or}
use Rattle.tc_desk.specs.Decided.{IsRead}
use Rattle.tc_lists.proofs.Places.{Contains-slice_get}
use Rattle.tc_sched.proofs.Readable.{read-push}
use Rattle.crate_tests.proofs.driving.ClosedDeskDesk.call_at.Goals as goal

pub returns-in-Ok-clause-kept : goal.returns-in-Ok-clause-kept
returns-in-Ok-clause-kept g c =
    let log = c.in-Ok.ensures.log _ (slice_get-get_or c.args.self.now.names.items c.args.place [] c.requires.inside) in record {
      names = search rules;
      free = refl;
      seen = λ k. omega arith;
      read = λ read. subst IsRead (sym log) (read-push c.args.self.now.log.items _ (λ ask asked. tt) read);
    }

pub returns-in-Ok-clause-became : goal.returns-in-Ok-clause-became
returns-in-Ok-clause-became g c centre named = record {
  may = (
    record { known = Contains-slice_get c.args.self.now.names.items c.args.place centre named; idle = c.args.self.now.settled },
    record { turns = search rules; seen = refl },
  );
  log = c.in-Ok.ensures.log centre named;
  waits = refl;
}
