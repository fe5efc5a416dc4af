use Rattle.std.proofs.Common.{◌≡◌, ◌∙◌, sym, ap}
use Rattle.std.proofs.lemmas.Bool.{true≢false}
use Rattle.tc_term.specs.TreeView.{tree_of}
use Rattle.tc_term.specs.Same.{same_tree-Decides}
use Rattle.tc_term.proofs.Solutions.{HasValue-unique}
use Rattle.tc_goals.proofs.Plain.{var_bound-template}
use Rattle.tc_goals.proofs.Values.{value_is, no_value}
use Rattle.tc_model.specs.declared.items.Effect.TheVariants.{Put}
use Rattle.tc_replay.proofs.Told.{told_none, told_is, told_same, put_one}
use Rattle.tc_replay.proofs.goal.put_next.Goals as goal

pub returns-in_default-clause-none : goal.returns-in_default-clause-none
returns-in_default-clause-none c = λ _ v has told. told_none c.args.next (Put v) c.in_default.not-Some told

pub returns-in_default-effect-clause-none : goal.returns-in_default-effect-clause-none
returns-in_default-effect-clause-none c = λ _ v has told. c.in_default-effect.not-Put v (told_same c.args.next c.in-Some.effect (Put v) c.in-Some.is told)

pub value-requires : goal.value-requires
value-requires c = var_bound-template (tree_of c.args.t.now) c.args.store.now.vars c.requires.bound

pub returns-in_default-2-clause-none : goal.returns-in_default-2-clause-none
returns-in_default-2-clause-none c =
    λ _ v has told. no_value c.args.store.now (tree_of c.args.t.now) c.in_ok-value.field-0 c.in_ok-value.ensures.none c.in_default-2.not-Some v has

pub returns-then-eq-clause-put : goal.returns-then-eq-clause-put
returns-then-eq-clause-put c = λ _.
    let same : c.in-Put.tuple ≡ c.in-Some-2.value =
    sym c.term-2.ensures.term
    ∙ (sym ((same_tree-Decides (tree_of c.term.result.now) (tree_of c.term-2.result.now)).0 (sym c.eq.ensures ∙ c.if-eq.true)) ∙ c.term.ensures.term) in
    record {
      value = c.in-Some-2.value;
      is = value_is c.args.store.now (tree_of c.args.t.now) c.in-Some-2.value c.in_ok-value.field-0 c.in-Some-2.is c.in_ok-value.ensures.found;
      told = told_is c.args.next c.in-Some.effect (Put c.in-Some-2.value) c.in-Some.is (c.in-Put.is ∙ ap Put same);
      put = c.in_ok-add.ensures.put;
    }

pub returns-clause-none : goal.returns-clause-none
returns-clause-none c = λ _ v has told.
    let one : v ≡ c.in-Put.tuple =
    put_one c.in-Some.effect.now c.in-Put.tuple v c.in-Put.is (told_same c.args.next c.in-Some.effect (Put v) c.in-Some.is told) in
    let two : v ≡ c.in-Some-2.value =
    HasValue-unique c.args.store.now.vars c.args.store.now.pairs (tree_of c.args.t.now) v c.in-Some-2.value has
    (value_is c.args.store.now (tree_of c.args.t.now) c.in-Some-2.value c.in_ok-value.field-0 c.in-Some-2.is c.in_ok-value.ensures.found) in
    true≢false
    (sym ((same_tree-Decides (tree_of c.term.result.now) (tree_of c.term-2.result.now)).1
    (c.term.ensures.term ∙ (sym two ∙ (one ∙ sym c.term-2.ensures.term))))
    ∙ (sym c.eq.ensures ∙ c.if-eq.false))
