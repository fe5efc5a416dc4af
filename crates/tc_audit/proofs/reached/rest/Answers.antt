use Rattle.std.proofs.Common.{◌≡◌, length, sym, ap, subst, ◌∙◌}
use Rattle.tc_lists.specs.Firsts.{NoneOf}
use Rattle.tc_bag.specs.Stock.{Stock, tuples_of}
use Rattle.tc_model.specs.State.{IsAnswerable}
use Rattle.tc_pending.specs.Waiting.{Waiting}
use Rattle.tc_audit.proofs.Resting.{marked-once}
use Rattle.tc_audit.proofs.reached.rest.Goals as goal

pub returns-clause-rested : goal.returns-clause-rested
returns-clause-rested c =
    let old = c.args.reached.now in
    let rows : c.mark.new.self.now ≡ old.bag.now =
    ap (λ (b : Stock). b.now) c.in_ok-mark.ensures.marked ∙ c.keep.ensures.rows in
    let requests : c.keep-2.new.self.now ≡ old.pending.now =
    c.keep-2.ensures.now ∙ ap (λ (w : Waiting). w.now) c.in_ok-mark-2.ensures.marked in
    record {
      quiescent =
          subst (λ rs. NoneOf (IsAnswerable (tuples_of rs)) c.keep-2.new.self.now) (sym rows)
          (subst (λ rs. NoneOf (IsAnswerable (tuples_of old.bag.now)) rs) (sym requests) c.requires.quiet);
      marked = marked-once old.bag c.keep.new.self c.mark.new.self c.requires.sound.mark c.keep.ensures.given_up c.in_ok-mark.ensures.marked;
      age = c.next_age.ensures;
      count = ap length c.list.ensures;
    }
