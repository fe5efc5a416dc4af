use Rattle.std.proofs.Common.{◌≡◌, ◌+◌, sym, subst, arith}
use Rattle.std.specs.Option.{IfNone}
use Rattle.tc_pending.specs.Filed.{HasNone}
use Rattle.tc_pending.proofs.Lookups.{IsPast, past_next, past_more, past_all, none_between}
use Rattle.tc_pending.proofs.asking.next_by.Goals as goal
use Rattle.tc_pending.proofs.asking.next_by.Goals.{In-Some}

-- no request of the code is passed over by the next number
past : (c : In-Some) → IsPast c.args.codes.now c.args.serials.now c.args.count c.args.code c.args.at c.in-Some.serial
past c =
    past_next c.args.index.now c.args.codes.now c.args.serials.now c.requires.each c.requires.rises c.args.count
    c.requires.inside c.requires.has c.args.code c.args.at c.loop-serial.from c.in-Some.serial
    c.loop-serial.invariant.past c.in-Some.ensures.found.1

pub returns-then-place-count-clause-found : goal.returns-then-place-count-clause-found
returns-then-place-count-clause-found c =
    let place = c.in-Some-place_of.place in
    none_between c.args.index.now c.args.codes.now c.args.serials.now c.requires.each c.requires.rises c.args.count
    c.requires.inside c.requires.has c.args.code c.args.at c.in-Some.serial place place
    (past (goal.at.returns-then-place-count-clause-found c).In-Some) c.in-Some-place_of.ensures.found (omega arith) (omega arith)

pub returns-else-place-count-clause-none : goal.returns-else-place-count-clause-none
returns-else-place-count-clause-none c =
    none_between c.args.index.now c.args.codes.now c.args.serials.now c.requires.each c.requires.rises c.args.count
    c.requires.inside c.requires.has c.args.code c.args.at c.in-Some.serial c.in-Some-place_of.place c.args.count
    (past (goal.at.returns-else-place-count-clause-none c).In-Some) c.in-Some-place_of.ensures.found (omega arith) (omega arith)

pub returns-in_err-from-clause-none : goal.returns-in_err-from-clause-none
returns-in_err-from-clause-none c =
    let serial = c.in-Some.serial in
    let more : IsPast c.args.codes.now c.args.serials.now c.args.count c.args.code c.args.at (serial + 1) =
    past_more c.args.index.now c.args.codes.now c.args.serials.now c.requires.each c.requires.rises c.args.count
    c.requires.inside c.requires.has c.args.code c.args.at serial
    (past (goal.at.returns-in_err-from-clause-none c).In-Some) c.in_default-place_of.ensures.none in
    subst (λ o. IfNone o (HasNone c.args.codes.now c.args.code c.args.at c.args.count)) (sym c.from_residual.ensures)
    (λ k up before same. more k up before (omega (arith, c.in_err-from.ensures, c.type_inv.serials k)) same)

pub loop-serial-preserved : goal.loop-serial-preserved
loop-serial-preserved c =
    let serial = c.in-Some.serial in
    let codes = c.args.codes.now in
    let serials = c.args.serials.now in
    let more : IsPast codes serials c.args.count c.args.code c.args.at (serial + 1) =
    past_more c.args.index.now codes serials c.requires.each c.requires.rises c.args.count
    c.requires.inside c.requires.has c.args.code c.args.at serial
    (past (goal.at.loop-serial-preserved c).In-Some) c.in_default-place_of.ensures.none in
    let is : c.in_ok-from.from ≡ serial + 1 = c.in_ok-from.ensures.1 in
    record {
      up = omega (arith, c.loop-serial.invariant.up, c.in-Some.ensures.found.0, is);
      past = subst (λ n. IsPast codes serials c.args.count c.args.code c.args.at n) (sym is) more;
    }

pub returns-clause-none : goal.returns-clause-none
returns-clause-none c =
    past_all c.args.index.now c.args.codes.now c.args.serials.now c.requires.each c.requires.rises c.args.count
    c.requires.inside c.requires.has c.args.code c.args.at c.loop-serial.from c.loop-serial.invariant.past
    c.in_default.ensures.none
