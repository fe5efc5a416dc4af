use Rattle.std.proofs.Common.{◌≡◌, ◌<◌, ◌≤◌, get_or, sym, subst, ⊎_elim, arith}
use Rattle.std.proofs.lemmas.Bool.{cases_lt}
use Rattle.tc_pending.specs.Filed.{Has}
use Rattle.tc_pending.proofs.index.Index.enter_from.Goals as goal

pub loop-place-preserved : goal.loop-place-preserved
loop-place-preserved c =
    let codes = c.args.codes.now in
    let serials = c.args.serials.now in
    let place = c.loop-place.place in
    record {
      kept = λ d s has. c.in_ok-enter.ensures.kept d s (c.loop-place.invariant.kept d s has);
      entered = λ k up below. ⊎_elim
          (λ (low : k < place).
          c.in_ok-enter.ensures.kept (get_or codes k 0) (get_or serials k 0) (c.loop-place.invariant.entered k up low))
          (λ (last : place ≤ k).
          let here : k ≡ place = omega (arith, last, below) in
          subst (λ j. Has c.enter.new.self (get_or codes j 0) (get_or serials j 0)) (sym here) c.in_ok-enter.ensures.entered)
          (cases_lt k place);
    }

pub returns-clause-entered : goal.returns-clause-entered
returns-clause-entered c = λ k up inside.
    c.loop-place.invariant.entered k up (omega (arith, inside, c.loop-place-test.false))
