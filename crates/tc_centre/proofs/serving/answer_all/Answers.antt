use Rattle.std.proofs.Common.{◌≡◌, ◌≢◌, ◌≤◌, [], length, sym, subst, ◌∙◌, arith}
use Rattle.std.proofs.lemmas.Option.{slice_get_within}
use Rattle.tc_bag.specs.Stock.{begun}
use Rattle.tc_pending.specs.Answers.{IsKnown}
use Rattle.tc_centre.proofs.Growing.{answers-more, keeps-more}
use Rattle.tc_centre.proofs.Known.{begun-kept, known-more}
use Rattle.tc_centre.proofs.serving.answer_all.Goals as goal

pub loop-place-preserved : goal.loop-place-preserved
loop-place-preserved g c =
    let old = c.loop-place.held in
    let new = c.answer_one.new.held in
    let told = c.in_ok-answer_one.ensures in
    let knows = c.loop-place.invariant.known in
    let next = c.in-Some.ensures.found in
    let marked : old.bag.saved ≢ [] = λ none. c.requires.marked (sym c.loop-place.invariant.keeps.bag ∙ none) in
    let same : begun new.bag ≡ begun old.bag = begun-kept old.bag new.bag marked c.answer_one.ensures.keeps.bag in
    let inside = slice_get_within old.pending.now c.in-Some.place next.request next.stands in
    record {
      run = told.run;
      known = record {
        none = subst (λ rs. IsKnown c.without-known.result (begun new.bag) new.bag.now rs) (sym told.requests)
            (c.without-known.ensures.known (begun new.bag) new.bag.now new.bag.now old.pending.now (λ row there. there) inside
            (known-more c.loop-place.known old new told.rows same knows));
        count = subst (λ rs. c.without-known.result.requests ≤ length rs) (sym told.requests)
            (c.without-known.ensures.inside old.pending.now inside knows.count);
        age = omega (arith, c.without-known.ensures.age, knows.age, told.rows.rises);
      };
      answers = answers-more c.args.held.now.history.items old.history.items new.history.items
          c.loop-place.invariant.answers told.answers;
      keeps = keeps-more c.args.held.now old new c.loop-place.invariant.keeps c.answer_one.ensures.keeps;
      spec = c.answer_one.ensures.spec ∙ c.loop-place.invariant.spec;
      typed = λ all. told.typed (c.loop-place.invariant.typed all);
    }
