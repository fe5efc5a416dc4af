use Rattle.std.proofs.Common.{◌≡◌, ◌<◌, None, subst, sym}
use Rattle.tc_calls.specs.Calls.{place_of, Rises}
use Rattle.tc_calls.proofs.AgentPlaces.{calls-at, list-inside, puts-set}
use Rattle.tc_calls.proofs.places.replace.Goals as goal

pub index_mut-requires : goal.index_mut-requires
index_mut-requires c =
    subst (λ n. c.args.id.agent < n) (sym c.args.places.now.ok.0) (list-inside c.args.places.now.items c.args.id c.requires.there)

pub put_again-requires-clause-rises : goal.put_again-requires-clause-rises
put_again-requires-clause-rises c =
    subst Rises
    (calls-at c.args.places.now.items c.args.id.agent c.index_mut.result.now
    (list-inside c.args.places.now.items c.args.id c.requires.there) c.index_mut.ensures.value)
    c.requires.rises

pub put_again-requires-clause-there : goal.put_again-requires-clause-there
put_again-requires-clause-there c =
    subst (λ calls. place_of calls c.args.id.number ≡ None → ⊥)
    (calls-at c.args.places.now.items c.args.id.agent c.index_mut.result.now
    (list-inside c.args.places.now.items c.args.id c.requires.there) c.index_mut.ensures.value)
    c.requires.there

pub returns-clause-puts : goal.returns-clause-puts
returns-clause-puts c =
    puts-set c.args.places.now.items c.args.id.agent c.index_mut.result.now
    (list-inside c.args.places.now.items c.args.id c.requires.there) c.index_mut.ensures.value
    c.args.id.number c.args.place c.put_again.new.calls c.put_again.ensures.places c.put_again.ensures.rises
