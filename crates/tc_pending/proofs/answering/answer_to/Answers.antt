use Rattle.std.proofs.Common.{sym, ◌∙◌}
use Rattle.std.proofs.lemmas.Bool.{true≢false}
use Rattle.tc_bag.specs.Stock.{tuples_of}
use Rattle.tc_pending.proofs.Wanting.{found-no_answer, none-no_answer}
use Rattle.tc_pending.proofs.answering.answer_to.Goals as goal

pub returns-else-is_tuple-clause-none : goal.returns-else-is_tuple-clause-none
returns-else-is_tuple-clause-none g c =
    found-no_answer c.args.bag.now.now c.args.request.now c.in-Some.age c.in-Some.field-0-1.now
    (λ wants. absurd (true≢false (sym (c.wants_tuple-is_tuple.ensures.1 wants) ∙ c.if-is_tuple.false)))
    c.in-Some.ensures.found

pub returns-then-is_tuple-2-clause-none : goal.returns-then-is_tuple-2-clause-none
returns-then-is_tuple-2-clause-none g c =
    none-no_answer (tuples_of c.args.bag.now.now) c.args.request.now (c.wants_tuple-is_tuple.ensures.0 c.if-is_tuple-2.true)
    c.in-None.ensures.none
