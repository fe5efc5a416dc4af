use Rattle.std.proofs.Common.{◌≡◌, if◌then◌else◌, Some, None, ap, sym, ◌∙◌, subst}
use Rattle.tc_term.specs.TreeView.{tree_of}
use Rattle.tc_asks.specs.Bindings.{AreKnown}
use Rattle.tc_asks.proofs.Replaced.{unreplaced}
use Rattle.tc_asks.proofs.bindings.Bindings.fill.Goals as goal

pub returns-then-not-self : goal.returns-then-not-self
returns-then-not-self c vars es values known exact =
    let none : c.args.self.now ≡ None = sym c.self.view_is ∙ ap (λ b. if b then Some c.self.inside.store else None) c.if-not-self.true in
    c.in_ok-copy.ensures ∙ unreplaced vars es values (tree_of c.args.t.now) exact (subst (AreKnown vars es) none known)
