use Rattle.std.proofs.Common.{◌≡◌, List, ◌∷◌, length, ap, ◌∙◌, arith, rules}
use Rattle.std.proofs.lemmas.List.Elements.{All-pop}
use Rattle.tc_turn.specs.Passes.{EndedState, record_of_ended}
use Rattle.tc_turn.specs.declared.view.PassRecord.{PassRecord}
use Rattle.tc_turn.proofs.PassLists.{taken_from_end, whole_at_end, agree_at_end}
use Rattle.tc_turn.proofs.turnstile.Turnstile.close.Goals as goal

pub loop-one-preserved : goal.loop-one-preserved
loop-one-preserved g c =
    let popped = c.loop-one.invariant.popped in
    let one = c.in-Some.one in
    let left = c.pop.new.self.items in
    record {
      table = search rules;
      own = (All-pop (λ (e : EndedState g.row.C-Entry.Denot). e.table ≡ c.self.inside.lock.table.shared.table_id) c.loop-one.ended.items left c.pop.result c.pop.ensures.items c.loop-one.invariant.own).0;
      popped = (
        one ∷ popped.0,
        taken_from_end c.args.ended.items c.loop-one.ended.items left popped.0 one popped.1 c.in-Some.ensures.items,
        c.take_in.ensures.ended ∙ ap (λ (l : List (PassRecord g.row.C-Entry.Denot)). record_of_ended one ∷ l) popped.2,
      );
    }

pub close-requires-clause-whole : goal.close-requires-clause-whole
close-requires-clause-whole g c =
    let popped = c.loop-one.invariant.popped in
    let passes = ap (λ t. t.passes) c.self.view_is in
    let empty : length c.loop-one.ended.items ≡ 0 = omega (arith, c.in_default.ensures.cases, c.loop-one.ended.ok) in
    whole_at_end _ _ _ _ _ empty popped.1 popped.2 (λ n below. c.requires.whole n (omega (arith, below, passes)))

pub returns-clause-seen : goal.returns-clause-seen
returns-clause-seen g c =
    let popped = c.loop-one.invariant.popped in
    let empty : length c.loop-one.ended.items ≡ 0 = omega (arith, c.in_default.ensures.cases, c.loop-one.ended.ok) in
    agree_at_end _ _ _ _ _ _ empty popped.1 popped.2 c.close.ensures.kept
