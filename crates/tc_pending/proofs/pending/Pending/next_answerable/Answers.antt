use Rattle.std.proofs.Common.{ap, take, subst, sym, ◌∙◌}
use Rattle.std.specs.Option.{IfNone}
use Rattle.tc_lists.specs.Firsts.{NoneOf}
use Rattle.tc_bag.specs.Stock.{tuples_of}
use Rattle.tc_model.specs.State.{IsAnswerable}
use Rattle.tc_pending.specs.Waiting.{Waiting}
use Rattle.tc_pending.specs.Codes.{codes_of}
use Rattle.tc_pending.specs.Filed.{NeverFree}
use Rattle.tc_pending.proofs.Filed.{IsFiled-at, AreFiled-now}
use Rattle.tc_pending.proofs.pending.Pending.next_answerable.Goals as goal

pub newly_answerable-requires-clause-lent : goal.newly_answerable-requires-clause-lent
newly_answerable-requires-clause-lent g c =
    let p = c.self.inside in
    let coded = c.deref-2.ensures.value ∙ c.self.invariant.coded in
    let kept = AreFiled-now p.index p.filed p.absences p.requests.items p.serials.items p.changes.items c.self.invariant.filed in
    record {
      codes = coded ∙ ap codes_of (sym c.deref.ensures.value);
      filed = IsFiled-at p.index p.filed (codes_of p.requests.items) c.deref-2.result.now p.serials.items c.deref-3.result.now coded c.deref-3.ensures.value
          kept.filed_is;
      absences = subst (NeverFree p.absences) (sym c.deref.ensures.value) kept.absences_is;
    }

pub answerable_from-requires-clause-none : goal.answerable_from-requires-clause-none
answerable_from-requires-clause-none g c =
    subst (λ rs. NoneOf (IsAnswerable (tuples_of c.args.bag.now.now)) (take c.args.known.requests rs))
    (c.deref.ensures.value ∙ sym c.deref-4.ensures.value)
    c.in_default.ensures.none

pub returns-clause-none : goal.returns-clause-none
returns-clause-none g c =
    let tuples = tuples_of c.args.bag.now.now in
    subst (λ (w : Waiting). IfNone c.answerable_from.result (NoneOf (IsAnswerable tuples) w.now)) c.self.view_is
    (subst (λ rs. IfNone c.answerable_from.result (NoneOf (IsAnswerable tuples) rs)) c.deref-4.ensures.value
    c.answerable_from.ensures.none)
