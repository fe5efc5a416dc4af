use Rattle.std.proofs.Common.{All, length, take, subst, arith}
use Rattle.std.proofs.lemmas.List.Elements.{All-take, All-contains}
use Rattle.tc_model.specs.State.{WantsTuple}
use Rattle.tc_model.specs.declared.calls.Request.{Request}
use Rattle.test_hard_searches.proofs.requests.next.Goals as goal

pub next_answerable-requires-clause-known : goal.next_answerable-requires-clause-known
next_answerable-requires-clause-known g c =
    let requests = c.args.pending.now.now in
    let all : All (λ (r : Request). WantsTuple r.wants) requests =
    subst (All (λ (r : Request). WantsTuple r.wants)) c.list.ensures (c.want_tuples.ensures c.if-not-want_tuples.false) in
    let count = length c.list-2.result.now in
    record {
      older = λ q row stands wants there below match. omega (arith, below);
      had = λ q stands free.
          free.wants (All-contains (λ (r : Request). WantsTuple r.wants) (take count requests) q
          (All-take (λ (r : Request). WantsTuple r.wants) count requests all) stands);
    }
