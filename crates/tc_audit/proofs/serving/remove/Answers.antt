use Rattle.std.proofs.Common.{◌≡◌, ◌≤◌, length, sym, ap, subst, arith}
use Rattle.std.specs.List.{remove}
use Rattle.tc_bag.specs.Stock.{begun}
use Rattle.tc_pending.specs.Answers.{IsKnown}
use Rattle.tc_pending.specs.Waiting.{Waiting}
use Rattle.tc_audit.proofs.serving.remove.Goals as goal

pub returns-clause-sound : goal.returns-clause-sound
returns-clause-sound c sound =
    let old = c.args.reached.now in
    let left = c.without-reached.result in
    let gone : c.remove.new.self.now ≡ remove old.pending.now c.args.place = ap (λ (w : Waiting). w.now) c.remove.ensures in
    record {
      mark = sound.mark;
      known = subst (λ rs. IsKnown left (begun old.bag) old.bag.now rs) (sym gone)
          (c.without-reached.ensures.known (begun old.bag) old.bag.now old.bag.now old.pending.now (λ row there. there) c.requires
          sound.known);
      age = omega (arith, c.without-reached.ensures.age, sound.age);
      count = subst (λ rs. left.requests ≤ length rs) (sym gone)
          (c.without-reached.ensures.inside old.pending.now c.requires sound.count);
    }
