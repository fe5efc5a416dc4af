use Rattle.std.proofs.Common.{◌≡◌, ℕ, ◌<◌, List, All, sym, subst}
use Rattle.tc_model.specs.declared.entries.Entry.{Entry}
use Rattle.tc_turn.specs.Passes.{EndedState, ended_count}
use Rattle.test_shared_rows.proofs.Ends.{ended-own, ended-whole}
use Rattle.test_shared_rows.proofs.together.together.Goals as goal

pub close-core-requires-clause-own : goal.close-core-requires-clause-own
close-core-requires-clause-own g c =
    let t = c.in_ok-centre.centre in
    subst (All (λ (e : EndedState Entry). e.table ≡ t.table)) (sym c.in_ok-ended.ensures)
    (ended-own t _ _ _ c.in_ok-centre.passes.items c.in_ok-played.played.items c.in_ok-centre.ensures.passes c.in_ok-played.ensures)

pub close-core-requires-clause-whole : goal.close-core-requires-clause-whole
close-core-requires-clause-whole g c =
    let t = c.in_ok-centre.centre in
    subst (λ (es : List (EndedState Entry)). (n : ℕ) → n < t.passes → 0 < ended_count n es) (sym c.in_ok-ended.ensures)
    (ended-whole t _ _ _ c.in_ok-centre.passes.items c.in_ok-played.played.items c.in_ok-centre.ensures.passes c.in_ok-played.ensures c.in_ok-centre.ensures.centre.1)
