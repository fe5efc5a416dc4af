use Rattle.std.proofs.Common.{sym, ap, ◌∙◌}
use Rattle.tc_unify.specs.Links.{root}
use Rattle.tc_unify.specs.Tables.{link_of}
use Rattle.tc_unify.proofs.Roots.{root-fixed, root-link}
use Rattle.tc_unify.proofs.links.Links.end.Goals as goal

pub returns-then-next-end : goal.returns-then-next-end
returns-then-next-end c =
    sym (root-fixed (link_of c.args.self.now) c.loop-end.end (cc)) ∙ c.loop-end.invariant

pub loop-end-preserved : goal.loop-end-preserved
loop-end-preserved c =
    ap (root (link_of c.args.self.now)) c.next-next.ensures ∙ root-link (link_of c.args.self.now) c.requires c.loop-end.end ∙ c.loop-end.invariant
