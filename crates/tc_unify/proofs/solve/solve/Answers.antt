use Rattle.std.proofs.Common.{◌≡◌, ◌∷◌, List, subst, ◌∙◌, All, drop, IsTrue, false}
use Rattle.tc_term.specs.Tree.{Tree}
use Rattle.tc_term.specs.Equations.{Equation}
use Rattle.tc_unify.specs.Arena.{shape_of}
use Rattle.tc_unify.specs.Links.{IsFiniteVariable}
use Rattle.tc_unify.specs.Tables.{link_of}
use Rattle.tc_unify.specs.Solutions.{LinksMean, NeverMeets, Demands}
use Rattle.tc_unify.specs.Walks.{HasNoTrees}
use Rattle.tc_unify.proofs.Solving.{solved_means, never_failed, never_endless}
use Rattle.tc_unify.proofs.solve.solve.Goals as goal
use Rattle.std.proofs.lemmas.Result.{IfOk-weaker}

pub returns-then-not-branch-clause-never : goal.returns-then-not-branch-clause-never
returns-then-not-branch-clause-never c = λ never es means.
    let old = c.args.state.now in
    never_failed old.arena old.links c.unify.new.links old.waiting.items es
    c.requires.linked c.unify.ensures.linked c.unify.ensures.extends means
    (c.in_ok-unify.ensures.failed c.if-not-branch.true)

pub returns-clause-solved : goal.returns-clause-solved
returns-clause-solved c =
    let old = c.args.state.now in
    let a = old.arena in
    let l = old.links in
    let new = c.unify.new.links in
    let pairs = old.waiting.items in
    let leads = c.in_ok-unify.ensures.met c.if-not-branch.false in
    IfOk-weaker c.are_finite.result
    (λ finite. IsTrue finite → All (IsFiniteVariable (shape_of a) (link_of new)) (drop c.len-from.result new.trail.items))
    (λ solved. IsTrue solved → (es : List Equation) (s t : Tree) → LinksMean a.variables (shape_of a) (link_of l) es
    → Demands (shape_of a) s t pairs → LinksMean a.variables (shape_of a) (link_of new) ((s, t) ∷ es))
    (λ b finite true es s t means demands.
    solved_means a l new pairs es c.requires.linked c.unify.ensures.linked c.unify.ensures.extends means s t demands leads
    (subst (λ n. All (IsFiniteVariable (shape_of a) (link_of new)) (drop n new.trail.items))
    (c.len-from.ensures ∙ l.trail.ok.0) (finite true)))
    c.are_finite.ensures.finite

pub returns-clause-never : goal.returns-clause-never
returns-clause-never c =
    let old = c.args.state.now in
    let a = old.arena in
    let l = old.links in
    let new = c.unify.new.links in
    let pairs = old.waiting.items in
    let leads = c.in_ok-unify.ensures.met c.if-not-branch.false in
    IfOk-weaker c.are_finite.result
    (λ finite. finite ≡ false → HasNoTrees (shape_of a) (link_of new))
    (λ solved. solved ≡ false → (es : List Equation) → LinksMean a.variables (shape_of a) (link_of l) es
    → NeverMeets (shape_of a) (link_of l) pairs)
    (λ b endless no es means.
    never_endless a l new pairs es c.requires.linked c.unify.ensures.linked c.unify.ensures.extends means leads (endless no))
    c.are_finite.ensures.endless
