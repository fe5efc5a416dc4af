use Rattle.std.proofs.Common.{◌≡◌, ◌+◌, [], sym, ap, ◌∙◌, subst, arith}
use Rattle.tc_term.specs.Tree.{Tree}
use Rattle.tc_term.specs.TreeView.{tree_of}
use Rattle.tc_term.specs.Variables.{raised, var_bound}
use Rattle.tc_term.specs.Equations.{Equations, Solvable, with_pair}
use Rattle.tc_term.proofs.Instances.{raised-zero, var_bound-raised}
use Rattle.tc_unify.specs.Met.{met}
use Rattle.tc_unify.proofs.store.Store.meet.Given as given
use Rattle.tc_unify.proofs.store.Store.meet.Goals as goal

pub add-requires-clause-left : goal.add-requires-clause-left
add-requires-clause-left g c =
    let width = ap (λ (e : Equations). e.vars) c.in_ok-renew.ensures.renewed in
    omega (arith, c.requires.bound, ap var_bound (raised-zero (tree_of c.args.s.now)), width)

pub add-requires-clause-right : goal.add-requires-clause-right
add-requires-clause-right g c =
    let width = ap (λ (e : Equations). e.vars) c.in_ok-renew.ensures.renewed in
    let same = ap var_bound c.term.ensures.term in
    omega (arith, var_bound-raised c.args.vars (tree_of c.term.result.now), same, c.vars.ensures.bound, width)

-- the store that is made anew
begun : (g : given.Over) (c : goal.In_ok-met g)
    → c.renew.new.self ≡ record { vars = c.args.vars + var_bound c.args.t.now; pairs = [] }
begun g c =
    let none : _ → Equations = λ n. record { vars = n; pairs = [] } in
    c.in_ok-renew.ensures.renewed ∙ ap none (ap (λ n. c.args.vars + n) c.vars.ensures.bound)

-- the equation, as it is added
both : (g : given.Over) (c : goal.In_ok-met g)
    → with_pair c.renew.new.self (raised 0 (tree_of c.args.s.now))
    (raised c.args.vars (tree_of c.term.result.now))
    ≡ met c.args.vars (tree_of c.args.s.now) c.args.t.now
both g c =
    let none : Equations = record { vars = c.args.vars + var_bound c.args.t.now; pairs = [] } in
    let s = tree_of c.args.s.now in
    let right = raised c.args.vars (tree_of c.term.result.now) in
    ap (λ (e : Equations). with_pair e (raised 0 s) right) (begun g c)
    ∙ (ap (λ (u : Tree). with_pair none u right) (raised-zero s)
    ∙ ap (λ (u : Tree). with_pair none s (raised c.args.vars u)) c.term.ensures.term)

pub returns-clause-met : goal.returns-clause-met
returns-clause-met g c = λ y. c.in_ok-met.ensures.added y ∙ both g c

pub returns-clause-apart : goal.returns-clause-apart
returns-clause-apart g c = λ n solvable.
    c.in_ok-met.ensures.refused n
    (subst (λ (e : Equations). Solvable e.vars e.pairs) (sym (both g c)) solvable)

pub returns-clause-none : goal.returns-clause-none
returns-clause-none g c = λ n. c.in_ok-met.ensures.unchanged n ∙ begun g c
