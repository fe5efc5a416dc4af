use Rattle.std.proofs.Common.{take, arith}
use Rattle.tc_bag.specs.Stock.{begun, tuples_of}
use Rattle.tc_pending.specs.Answers.{IsFree}
use Rattle.tc_pending.proofs.Wanting.{NoneOf-fewer, next-met, next-free, none-answerable}
use Rattle.tc_pending.proofs.answering.newly_answerable.Goals as goal

pub newly_free-requires-clause-had : goal.newly_free-requires-clause-had
newly_free-requires-clause-had g c =
    NoneOf-fewer (IsFree (tuples_of (begun c.args.bag.now))) c.args.waiters.now.requests.now c.in-Some.place c.args.known.requests
    (omega (arith, c.in-Some.ensures.inside)) c.requires.known.had

pub returns-in-Some-newly_free-clause-found : goal.returns-in-Some-newly_free-clause-found
returns-in-Some-newly_free-clause-found g c =
    next-free c.args.bag.now.now c.args.waiters.now.requests.now c.in-Some-newly_free.other c.in-Some.place
    c.in-Some-newly_free.ensures.inside c.in-Some.ensures.found.none_before c.in-Some-newly_free.ensures.found

pub returns-in-None-newly_free-clause-found : goal.returns-in-None-newly_free-clause-found
returns-in-None-newly_free-clause-found g c =
    next-met c.args.bag.now.now c.args.waiters.now.requests.now c.in-Some.place c.in-Some.age c.in-Some.ensures.found
    c.in-None-newly_free.ensures.none

pub returns-in-Some-newly_free-2-clause-found : goal.returns-in-Some-newly_free-2-clause-found
returns-in-Some-newly_free-2-clause-found g c =
    next-free c.args.bag.now.now c.args.waiters.now.requests.now c.in-Some-newly_free-2.place c.args.known.requests
    c.in-Some-newly_free-2.ensures.inside c.in-None.ensures.none c.in-Some-newly_free-2.ensures.found

pub returns-in-None-newly_free-2-clause-none : goal.returns-in-None-newly_free-2-clause-none
returns-in-None-newly_free-2-clause-none g c =
    none-answerable (tuples_of c.args.bag.now.now) (take c.args.known.requests c.args.waiters.now.requests.now)
    c.in-None.ensures.none c.in-None-newly_free-2.ensures.none
