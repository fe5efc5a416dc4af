use Rattle.std.proofs.Common.{Some, take, ap, sym, subst, ◌∙◌}
use Rattle.std.specs.Option.{option_copied}
use Rattle.std.proofs.lemmas.Option.{same_Some}
use Rattle.tc_lists.specs.Firsts.{NoneOf}
use Rattle.tc_bag.specs.Stock.{tuples_of}
use Rattle.tc_pending.specs.Answers.{AsksFor}
use Rattle.tc_pending.proofs.Freed.{row-told, not-told}
use Rattle.tc_pending.proofs.answering.freed_by.Goals as goal

pub returns-in-Some-oldest_asking-clause-none : goal.returns-in-Some-oldest_asking-clause-none
returns-in-Some-oldest_asking-clause-none g c = λ row there of.
    let told = row-told c.args.bag.now c.args.age (option_copied c.get_begun.result) c.get_begun.ensures.begun c.get_begun.ensures.rises
    row there of in
    subst (λ t. NoneOf (AsksFor (Some (tuples_of c.args.bag.now.now)) t) (take c.in-Some-oldest_asking.place c.args.waiters.now.requests.now))
    (same_Some c.in-Some.tuple.now row.tuple (sym (ap option_copied c.in-Some.is) ∙ told))
    c.in-Some-oldest_asking.ensures.found.none_before

pub returns-in-None-oldest_asking-clause-none : goal.returns-in-None-oldest_asking-clause-none
returns-in-None-oldest_asking-clause-none g c = λ row there of.
    let told = row-told c.args.bag.now c.args.age (option_copied c.get_begun.result) c.get_begun.ensures.begun c.get_begun.ensures.rises
    row there of in
    subst (λ t. NoneOf (AsksFor (Some (tuples_of c.args.bag.now.now)) t) (take c.args.count c.args.waiters.now.requests.now))
    (same_Some c.in-Some.tuple.now row.tuple (sym (ap option_copied c.in-Some.is) ∙ told))
    c.in-None-oldest_asking.ensures.none

pub returns-in-None-clause-none : goal.returns-in-None-clause-none
returns-in-None-clause-none g c = λ row there of.
    absurd (not-told row.tuple (option_copied c.get_begun.result) (ap option_copied c.in-None.is)
    (row-told c.args.bag.now c.args.age (option_copied c.get_begun.result) c.get_begun.ensures.begun c.get_begun.ensures.rises
    row there of))
