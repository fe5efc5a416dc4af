use mathlib.Core.List.{IsPrefix}
use Rattle.tc_lists.proofs.Prefixes.{IsPrefix-append}
use Rattle.std.proofs.Common.{◌≡◌, ◌++◌, ◌∷◌, [], sym, subst, length, ◌∙◌}
use Rattle.tc_unify.specs.declared.nodes.Node.TheVariants.{Atom}
use Rattle.tc_term.specs.Tree.{Atomic}
use Rattle.tc_unify.specs.Arena.{IsArena, IsHeadFor}
use Rattle.tc_unify.proofs.Arenas.{IsArena-same, atom_pushed, name_node}
use Rattle.tc_unify.proofs.nodes.Arena.push_atom.Goals as goal
use Rattle.tc_lists.proofs.Results.{IfOk-by_OnOk, OnOk_or_OnErr}

pub returns-clause-pushed : goal.returns-clause-pushed
returns-clause-pushed c =
    IfOk-by_OnOk c.push.result (λ node. IsHeadFor c.push.new.self node (Atomic c.args.name.now)) (c.push.new.self.nodes.items ≡ c.args.self.now.nodes.items ++ Atom c.len-from.result (length c.args.name.now) ∷ []) (length c.args.self.now.nodes.items) c.push.ensures.place c.push.ensures.pushed
    (λ nodes. (atom_pushed c.args.self.now c.push.new.self c.args.name.now c.len-from.result c.if-name-le-SHORT.false c.requires (c.len-from.ensures ∙ c.args.self.now.text.ok.0) (c.push.ensures.text ∙ c.in_ok-extend_from_slice.ensures.items) c.push.ensures.variables c.push.ensures.few nodes).1)

pub returns-clause-arena : goal.returns-clause-arena
returns-clause-arena c =
    OnOk_or_OnErr c.push.result (c.push.new.self.nodes.items ≡ c.args.self.now.nodes.items ++ Atom c.len-from.result (length c.args.name.now) ∷ []) (c.push.new.self.nodes.items ≡ c.args.self.now.nodes.items) (IsArena c.push.new.self) c.push.ensures.pushed c.push.ensures.same
    (λ nodes. (atom_pushed c.args.self.now c.push.new.self c.args.name.now c.len-from.result c.if-name-le-SHORT.false c.requires (c.len-from.ensures ∙ c.args.self.now.text.ok.0) (c.push.ensures.text ∙ c.in_ok-extend_from_slice.ensures.items) c.push.ensures.variables c.push.ensures.few nodes).0)
    (λ nodes. IsArena-same c.args.self.now c.push.new.self c.requires
    (subst (IsPrefix c.args.self.now.text.items) (sym (c.push.ensures.text ∙ c.in_ok-extend_from_slice.ensures.items)) (IsPrefix-append c.args.self.now.text.items c.args.name.now)) c.push.ensures.variables nodes)

pub returns-then-name-le-SHORT-clause-pushed : goal.returns-then-name-le-SHORT-clause-pushed
returns-then-name-le-SHORT-clause-pushed c =
    name_node c.args.self.now c.code_of.result c.args.name.now c.requires c.code_of.ensures.small c.code_of.ensures.name
