use Rattle.std.proofs.Common.{◌≡◌, ◌+◌, refl, sym, ap, ◌∙◌, arith}
use Rattle.tc_term.specs.Equations.{Equations}
use Rattle.tc_unify.proofs.Tables.{link_in-own_variables}
use Rattle.tc_unify.proofs.Variables.{store_grown}
use Rattle.tc_unify.proofs.store.Store.grow.Goals as goal

same_vars : (now : Equations) (seen : Equations) → seen ≡ now → now.vars ≡ seen.vars
same_vars now seen e = ap (λ (x : Equations). x.vars) (sym e)

pub invariant_of-self-2 : goal.invariant_of-self-2
invariant_of-self-2 c =
    let store = c.self.invariant.0 in
    let a = c.self.inside.state.arena in
    let l = c.self.inside.state.links in
    let size : c.len-before.result ≡ a.variables = c.len-before.ensures ∙ l.variables.ok.0 ∙ store.variables in
    let all : c.len-before.result + c.args.n ≡ a.variables + c.args.n = omega arith in (
      store_grown a _ l _ _ c.args.n store
          refl refl all
          (λ k. link_in-own_variables l.terms.items l.variables.items c.push_own.new.table.items c.push_own.ensures.own k)
          refl refl (c.in_default.ensures.full ∙ all)
          (let vars : c.args.self.now.vars ≡ a.variables = same_vars _ _ c.self.view_is in let few = c.requires in omega arith),
      c.self.invariant.1,
    )
