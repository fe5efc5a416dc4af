use Rattle.std.proofs.Common.{◌++◌, sym, ◌∙◌, subst}
use Rattle.tc_model.specs.declared.outcomes.Reply.TheVariants.{Tuple}
use Rattle.tc_asks.specs.Bindings.{AreKnown}
use Rattle.tc_asks.proofs.telling.tell.Goals as goal

pub returns-clause-told : goal.returns-clause-told
returns-clause-told c vars es known =
    subst (λ ds. AreKnown vars (es ++ ds) c.tell.new.self)
    (sym (c.in-Some-tuple_in.ensures.some c.args.ask.now ∙ c.in-Some.ensures.some (Tuple c.in-Some-tuple_in.tuple.now)))
    (c.in_ok-tell.ensures.told vars es known)
