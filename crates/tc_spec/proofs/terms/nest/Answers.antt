use Rattle.std.proofs.Common.{◌≡◌, ◌++◌, ◌∷◌, [], List, map, ap, sym, ◌∙◌}
use Rattle.std.proofs.lemmas.List.{nil_from_length}
use Rattle.tc_term.specs.TreeView.{tree_of}
use Rattle.tc_term.specs.declared.terms.Term.{Term}
use Rattle.tc_spec.specs.Written.{nested}
use Rattle.tc_spec.proofs.Nesting.{nested-first, nested-next}
use Rattle.tc_spec.proofs.terms.nest.Goals as goal

pub loop-term-init : goal.loop-term-init
loop-term-init c = nested-first c.args.terms.items c.pop.new.self.items c.in-Some.body c.in-Some.ensures.items

pub loop-term-preserved : goal.loop-term-preserved
loop-term-preserved c =
    nested-next c.loop-term.terms.items c.pop-in-loop-term.new.self.items c.in-Some-pop.term c.loop-term.body c.in_ok-body.body
    c.in-Some-pop.ensures.items c.in_ok-body.ensures
    ∙ c.loop-term.invariant

pub returns : goal.returns
returns c =
    let none : c.loop-term.terms.items ≡ [] =
    nil_from_length c.loop-term.terms.items (sym c.loop-term.terms.ok.0 ∙ c.in_default-pop.ensures.cases.0) in
    ap (λ (ts : List Term). nested (map tree_of ts ++ tree_of c.loop-term.body ∷ [])) (sym none) ∙ c.loop-term.invariant
