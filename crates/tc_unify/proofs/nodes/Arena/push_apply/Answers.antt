use mathlib.Core.List.{IsPrefix}
use Rattle.tc_lists.proofs.Prefixes.{IsPrefix-whole}
use Rattle.std.proofs.Common.{◌≡◌, ◌++◌, ◌∷◌, [], sym, subst, length}
use Rattle.tc_unify.specs.declared.nodes.Node.TheVariants.{Apply}
use Rattle.tc_unify.specs.Nodes.{applied}
use Rattle.tc_unify.specs.Arena.{IsArena, IsHeadFor, node_tree}
use Rattle.tc_unify.proofs.Arenas.{IsArena-same, apply_pushed}
use Rattle.tc_unify.proofs.nodes.Arena.push_apply.Goals as goal
use Rattle.tc_lists.proofs.Results.{IfOk-by_OnOk, OnOk_or_OnErr}

pub returns-clause-pushed : goal.returns-clause-pushed
returns-clause-pushed c =
    IfOk-by_OnOk c.push.result (λ node. IsHeadFor c.push.new.self node (applied (node_tree c.args.self.now c.args.head) (node_tree c.args.self.now c.args.argument))) (c.push.new.self.nodes.items ≡ c.args.self.now.nodes.items ++ Apply c.args.head c.args.argument ∷ []) (length c.args.self.now.nodes.items) c.push.ensures.place c.push.ensures.pushed
    (λ nodes. (apply_pushed c.args.self.now c.push.new.self c.args.head c.args.argument c.requires.arena c.requires.head c.requires.inside c.requires.argument c.push.ensures.text c.push.ensures.variables c.push.ensures.few nodes).1)

pub returns-clause-arena : goal.returns-clause-arena
returns-clause-arena c =
    OnOk_or_OnErr c.push.result (c.push.new.self.nodes.items ≡ c.args.self.now.nodes.items ++ Apply c.args.head c.args.argument ∷ []) (c.push.new.self.nodes.items ≡ c.args.self.now.nodes.items) (IsArena c.push.new.self) c.push.ensures.pushed c.push.ensures.same
    (λ nodes. (apply_pushed c.args.self.now c.push.new.self c.args.head c.args.argument c.requires.arena c.requires.head c.requires.inside c.requires.argument c.push.ensures.text c.push.ensures.variables c.push.ensures.few nodes).0)
    (λ nodes. IsArena-same c.args.self.now c.push.new.self c.requires.arena (subst (IsPrefix c.args.self.now.text.items) (sym c.push.ensures.text) (IsPrefix-whole c.args.self.now.text.items)) c.push.ensures.variables nodes)
