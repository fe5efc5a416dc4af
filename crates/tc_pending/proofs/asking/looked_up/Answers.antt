use Rattle.std.proofs.Common.{◌≡◌, ◌<◌, ◌≤◌, subst, ⊎_elim, arith}
use Rattle.std.proofs.lemmas.Bool.{cases_lt}
use Rattle.tc_pending.specs.Filed.{Asks, IsSuch}
use Rattle.tc_pending.proofs.Coded.{asks-coded}
use Rattle.tc_pending.proofs.Filed.{AreIndexed-fewer}
use Rattle.tc_pending.proofs.Lookups.{NoneSuch-less, none-of}
use Rattle.tc_pending.proofs.asking.looked_up.Goals as goal

pub asking_by-same-requires : goal.asking_by-same-requires
asking_by-same-requires g c = record {
  indexed = AreIndexed-fewer c.args.waiters.now c.args.count c.asking_by-any.result c.asking_by-any.ensures.inside c.requires.indexed;
}

pub asking_by-requires : goal.asking_by-requires
asking_by-requires g c = record {
  indexed = AreIndexed-fewer c.args.waiters.now c.args.count c.asking_by-same.result
      (omega (arith, c.asking_by-same.ensures.inside, c.asking_by-any.ensures.inside)) c.requires.indexed;
}

pub returns-clause-asks : goal.returns-clause-asks
returns-clause-asks g c = λ inside.
    let Such = IsSuch (Asks c.args.wanted.now) c.args.waiters.now.requests.now in
    let any = c.asking_by-any in
    let same = c.asking_by-same in
    let whole = c.asking_by in
    ⊎_elim (λ (low : whole.result < same.result). whole.ensures.asks low)
    (λ (high : same.result ≤ whole.result).
    let is : same.result ≡ whole.result = omega (arith, high, whole.ensures.inside) in
    subst Such is
    (⊎_elim (λ (low : same.result < any.result). same.ensures.asks low)
    (λ (above : any.result ≤ same.result).
    let first : any.result ≡ same.result = omega (arith, above, same.ensures.inside) in
    subst Such first (any.ensures.asks (omega (arith, first, is, inside))))
    (cases_lt same.result any.result)))
    (cases_lt whole.result same.result)

pub returns-clause-none : goal.returns-clause-none
returns-clause-none g c =
    let wanted = c.args.wanted.now in
    let requests = c.args.waiters.now.requests.now in
    let place = c.asking_by.result in
    none-of (Asks wanted) requests wanted.any wanted.top wanted.whole place
    (λ r asks. asks-coded wanted r c.requires.wanted asks)
    (NoneSuch-less (Asks wanted) requests wanted.any place c.asking_by-any.result
    (omega (arith, c.asking_by.ensures.inside, c.asking_by-same.ensures.inside)) c.asking_by-any.ensures.none)
    (NoneSuch-less (Asks wanted) requests wanted.top place c.asking_by-same.result c.asking_by.ensures.inside
    c.asking_by-same.ensures.none)
    c.asking_by.ensures.none
