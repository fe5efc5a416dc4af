use Rattle.std.proofs.Common.{rules}
use Rattle.std.specs.Option.{option_copied}
use Rattle.tc_goals.specs.Moments.{scene}
use Rattle.tc_goals.specs.TupleFree.{IsTupleFree}
use Rattle.tc_replay.proofs.Steps.{put_yes, put_no, take_yes, take_no, read_yes, read_no, absent_yes, absent_no, free_yes, free_no}
use Rattle.tc_replay.proofs.goal.follow.Goals as goal

pub returns-in-OutR-clause-followed : goal.returns-in-OutR-clause-followed
returns-in-OutR-clause-followed g c =
    rw c.in-OutR.is
    (put_yes (scene c.args.vars c.args.e.now c.args.context.now) (option_copied c.args.next) c.args.store.now c.args.bag.now c.requires.width c.requires.solvable
    c.in-OutR.t c.put_next.new.bag c.put_next.result c.put_next.ensures.put)

pub returns-in-OutR-clause-none : goal.returns-in-OutR-clause-none
returns-in-OutR-clause-none g c =
    rw c.in-OutR.is
    (put_no (scene c.args.vars c.args.e.now c.args.context.now) (option_copied c.args.next) c.args.store.now c.args.bag.now c.requires.width c.requires.solvable
    c.in-OutR.t c.put_next.result c.put_next.ensures.none)

pub returns-in-InR-clause-followed : goal.returns-in-InR-clause-followed
returns-in-InR-clause-followed g c =
    rw c.in-InR.is
    (take_yes (scene c.args.vars c.args.e.now c.args.context.now) (option_copied c.args.next) c.args.store.now c.args.bag.now c.requires.width c.requires.solvable
    c.in-InR.t c.take_next.new.store c.take_next.new.bag c.take_next.result c.take_next.ensures.solvable c.take_next.ensures.taken)

pub returns-in-InR-clause-none : goal.returns-in-InR-clause-none
returns-in-InR-clause-none g c =
    rw c.in-InR.is
    (take_no (scene c.args.vars c.args.e.now c.args.context.now) (option_copied c.args.next) c.args.store.now c.args.bag.now c.requires.width c.requires.solvable
    c.in-InR.t c.take_next.result c.take_next.ensures.none)

pub returns-in-RdR-clause-followed : goal.returns-in-RdR-clause-followed
returns-in-RdR-clause-followed g c =
    rw c.in-RdR.is
    (read_yes (scene c.args.vars c.args.e.now c.args.context.now) (option_copied c.args.next) c.args.store.now c.args.bag.now c.requires.width c.requires.solvable
    c.in-RdR.t c.read_next.new.store c.read_next.result c.read_next.ensures.solvable c.read_next.ensures.read)

pub returns-in-RdR-clause-none : goal.returns-in-RdR-clause-none
returns-in-RdR-clause-none g c =
    rw c.in-RdR.is
    (read_no (scene c.args.vars c.args.e.now c.args.context.now) (option_copied c.args.next) c.args.store.now c.args.bag.now c.requires.width c.requires.solvable
    c.in-RdR.t c.read_next.result c.read_next.ensures.none)

pub returns-in-NoR-clause-followed : goal.returns-in-NoR-clause-followed
returns-in-NoR-clause-followed g c =
    rw c.in-NoR.is
    (absent_yes (scene c.args.vars c.args.e.now c.args.context.now) (option_copied c.args.next) c.args.store.now c.args.bag.now c.requires.width c.requires.solvable
    c.in-NoR.t c.is_absent.new.store c.is_absent.result c.is_absent.ensures.same c.is_absent.ensures.none)

pub returns-in-NoR-clause-none : goal.returns-in-NoR-clause-none
returns-in-NoR-clause-none g c =
    rw c.in-NoR.is
    (absent_no (scene c.args.vars c.args.e.now c.args.context.now) (option_copied c.args.next) c.args.store.now c.args.bag.now c.requires.width c.requires.solvable
    c.in-NoR.t c.is_absent.result c.is_absent.ensures.some)

pub returns-in_default-clause-followed : goal.returns-in_default-clause-followed
returns-in_default-clause-followed g c =
    let free : IsTupleFree c.args.goal.now = search rules in
    free_yes (scene c.args.vars c.args.e.now c.args.context.now) (option_copied c.args.next) c.args.store.now c.args.bag.now c.requires.width c.requires.solvable
    c.args.goal.now c.succeeds.new.store c.succeeds.result free c.succeeds.ensures.done

pub returns-in_default-clause-none : goal.returns-in_default-clause-none
returns-in_default-clause-none g c =
    free_no (scene c.args.vars c.args.e.now c.args.context.now) (option_copied c.args.next) c.args.store.now c.args.bag.now c.requires.width c.requires.solvable
    c.args.goal.now c.succeeds.result c.succeeds.ensures.stuck
