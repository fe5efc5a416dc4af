use mathlib.Core.List.{IsPrefix}
use Rattle.tc_lists.proofs.Prefixes.{IsPrefix-whole}
use Rattle.std.proofs.Common.{◌≡◌, ◌++◌, ◌∷◌, [], sym, subst, length, to_z, of_z, w64, to_z-of_z}
use Rattle.tc_unify.specs.declared.nodes.Node.TheVariants.{Int}
use Rattle.tc_term.specs.Tree.{Number}
use Rattle.tc_unify.specs.Arena.{IsArena, IsNodeFor}
use Rattle.tc_unify.proofs.Arenas.{IsArena-same, number_pushed}
use Rattle.tc_unify.proofs.nodes.Arena.push_number.Goals as goal
use Rattle.tc_lists.proofs.Results.{IfOk-by_OnOk, OnOk_or_OnErr}

pub returns-clause-pushed : goal.returns-clause-pushed
returns-clause-pushed c =
    IfOk-by_OnOk c.push.result (λ node. IsNodeFor c.push.new.self node (Number c.args.n)) (c.push.new.self.nodes.items ≡ c.args.self.now.nodes.items ++ Int (to_z w64 (of_z w64 c.args.n)) ∷ []) (length c.args.self.now.nodes.items) c.push.ensures.place c.push.ensures.pushed
    (λ nodes. subst (λ m. IsNodeFor c.push.new.self (length c.args.self.now.nodes.items) (Number m)) (to_z-of_z {w = w64} {z = c.args.n} c.ranges.n) (number_pushed c.args.self.now c.push.new.self (to_z w64 (of_z w64 c.args.n)) c.requires c.push.ensures.text c.push.ensures.variables c.push.ensures.few nodes).1)

pub returns-clause-arena : goal.returns-clause-arena
returns-clause-arena c =
    OnOk_or_OnErr c.push.result (c.push.new.self.nodes.items ≡ c.args.self.now.nodes.items ++ Int (to_z w64 (of_z w64 c.args.n)) ∷ []) (c.push.new.self.nodes.items ≡ c.args.self.now.nodes.items) (IsArena c.push.new.self) c.push.ensures.pushed c.push.ensures.same
    (λ nodes. (number_pushed c.args.self.now c.push.new.self (to_z w64 (of_z w64 c.args.n)) c.requires c.push.ensures.text c.push.ensures.variables c.push.ensures.few nodes).0)
    (λ nodes. IsArena-same c.args.self.now c.push.new.self c.requires (subst (IsPrefix c.args.self.now.text.items) (sym c.push.ensures.text) (IsPrefix-whole c.args.self.now.text.items)) c.push.ensures.variables nodes)
