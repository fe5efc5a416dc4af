use Rattle.std.proofs.Common.{refl, ap, ◌∙◌, arith}
use Rattle.tc_model.specs.State.{Origin}
use Rattle.tc_model.specs.declared.entries.Entry.{Entry}
use Rattle.tc_shared.proofs.Waiting.{called-later, refused-waits, rested-turns, seen-waits, waited-first, waited-more}
use Rattle.tc_turn.specs.Passes.{PassState}
use Rattle.tc_shared.proofs.centre.SharedCentre.wait.Goals as goal

pub loop-init : goal.loop-init
loop-init g c = record {
  can = tt;
  finite = tt;
  own = c.requires.own;
  free = c.requires.free;
  called = c.requires.called;
  waited = waited-first c.args.self.now c.args.pass.now c.requires.own;
  spent = λ none. refl;
  left = λ some. some;
}

pub returns-in_err-reply-clause-waited : goal.returns-in_err-reply-clause-waited
returns-in_err-reply-clause-waited g c =
    refused-waits c.args.self.now c.args.pass.now c.loop.pass c.look.new.pass c.loop.invariant.waited c.in_err-reply.field-0.0 c.in_err-reply.ensures.refused

pub returns-in-Some-2-clause-waited : goal.returns-in-Some-2-clause-waited
returns-in-Some-2-clause-waited g c =
    seen-waits c.args.self.now c.args.pass.now c.loop.pass c.look.new.pass c.loop.invariant.waited c.in_ok-reply.ensures.seen.0

pub returns-then-turns-eq0-clause-waited : goal.returns-then-turns-eq0-clause-waited
returns-then-turns-eq0-clause-waited g c =
    seen-waits c.args.self.now c.args.pass.now c.loop.pass c.look.new.pass c.loop.invariant.waited c.in_ok-reply.ensures.seen.0

pub loop-preserved : goal.loop-preserved
loop-preserved g c =
    let t = c.args.self.now in
    let p = c.args.pass.now in
    let l = c.loop.pass in
    let i = c.loop.invariant in
    let n = c.look.new.pass in
    let r = c.rest.new.pass in
    let sees = c.in_ok-reply.ensures.seen.0 in
    let waited = waited-more t p n r (seen-waits t p l n i.waited sees) c.rest.ensures in
    let same_turns = rested-turns t n r c.rest.ensures in
    record {
      can = tt;
      finite = tt;
      own = waited.own;
      free = ap (λ (x : PassState Entry Origin). x.holds) waited.after ∙ c.requires.free;
      called = called-later t l n r c.args.number i.called sees c.rest.ensures;
      waited = waited;
      spent = λ none. let some = sees.finds.left in let fell = i.waited.fell in absurd (omega (arith, none, some, fell));
      left = λ some. let left = c.if-turns-eq0.false in omega (arith, left, c.turns.ensures, same_turns);
    }
