use Rattle.std.proofs.Common.{[], ap, sym, ◌∙◌, subst}
use Rattle.tc_asks.specs.Bindings.{AreKnown}
use Rattle.tc_asks.specs.Progress.{HasTakenIn, Progress}
use Rattle.tc_asks.proofs.Taken.{taken_onward}
use Rattle.tc_asks.proofs.asker.Asker.go_to.Goals as goal

pub returns-clause-taken : goal.returns-clause-taken
returns-clause-taken c log taken =
    let place = c.args.place in
    let known = c.in_ok-self-inside.field-0 in
    subst
    (λ n. HasTakenIn c.args.scripts.now log (record { rows = n; script = place.script; item = place.item; known = known }))
    (sym (ap (λ (p : Progress). p.rows) c.self.view_is))
    (taken_onward c.args.scripts.now log c.args.self.now place.script place.item known
    (c.requires.first (λ same. c.if-place-self.false (same ∙ sym (ap (λ (p : Progress). p.script) c.self.view_is))))
    taken c.requires.placed (subst (λ n. AreKnown n [] known) c.vars_at.ensures c.in_ok-self-inside.ensures))
