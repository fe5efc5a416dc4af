use Rattle.std.proofs.Common.{IsTrue, refl, sym, subst, ◌∙◌}
use Rattle.tc_term.proofs.Numbered.{renumbered-pattern}
use Rattle.tc_term.specs.NameBytes.{has_read_names}
use Rattle.tc_term.specs.TreeView.{tree_of}
use Rattle.tc_spec.specs.Answers.{IsReactionWant}
use Rattle.tc_spec.specs.Written.{IsWrittenAs}
use Rattle.tc_config.proofs.filling.reaction_from.Goals as goal

pub reaction_of-requires : goal.reaction_of-requires
reaction_of-requires c =
    subst (λ u. IsTrue (has_read_names u))
    (sym (c.in-Ok.ensures.ok.0 ∙ renumbered-pattern (tree_of c.args.t) c.requires.pattern)) c.requires.names

pub returns-in-Ok-reaction_of-clause-reaction : goal.returns-in-Ok-reaction_of-clause-reaction
returns-in-Ok-reaction_of-clause-reaction c =
    subst (λ u. IsWrittenAs u c.in-Ok-reaction_of.reaction)
    (c.in-Ok.ensures.ok.0 ∙ renumbered-pattern (tree_of c.args.t) c.requires.pattern) c.in-Ok-reaction_of.ensures.reaction

pub returns-in-Err-Bad-clause-fault : goal.returns-in-Err-Bad-clause-fault
returns-in-Err-Bad-clause-fault c = (
  refl,
  λ r w.
      subst IsReactionWant c.in-Err-Bad.field-0-is
      (c.in-Err-Bad.ensures.written r
      (subst (λ u. IsWrittenAs u r)
      (sym (c.in-Ok.ensures.ok.0 ∙ renumbered-pattern (tree_of c.args.t) c.requires.pattern)) w)),
)
