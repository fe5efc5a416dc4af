use Rattle.std.proofs.Common.{◌++◌, ◌∷◌, [], List, ap, ◌∙◌, arith}
use Rattle.tc_bag.specs.Stock.{Saved, Stock, saved_of}
use Rattle.tc_audit.proofs.reached.begin.Goals as goal

pub returns-clause-sound : goal.returns-clause-sound
returns-clause-sound c = record {
  mark = record {
    mark = saved_of c.in_ok-bag.bag;
    only = ap (λ (b : Stock). b.saved) c.in_ok-mark.ensures.marked
        ∙ ap (λ (ss : List Saved). ss ++ saved_of c.in_ok-bag.bag ∷ []) c.in_ok-bag.ensures.unmarked;
  };
  known = record {
    older = λ q r stands wanted there younger match. absurd (omega (arith, stands.1));
    had = λ q stands free. absurd (omega (arith, stands.1));
  };
  age = omega (arith, c.next_age.ensures);
  count = omega arith;
}
