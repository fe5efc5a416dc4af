use Rattle.std.proofs.Common.{refl}
use Rattle.tc_unify.proofs.Beginnings.{pairs_kept}
use Rattle.tc_term.specs.TreeView.{tree_of}
use Rattle.tc_term.specs.Variables.{raised}
use Rattle.test_term_table.proofs.sample.Sample.add.Goals as goal

pub returns : goal.returns
returns g c =
    pairs_kept c.args.self.now.store c.add.new.self c.args.self.now.store.pairs c.in_ok-add.field-0
    (raised c.args.s.shift (tree_of c.args.s.term.now)) (raised c.args.t.shift (tree_of c.args.t.term.now)) refl
    c.in_ok-add.ensures.added c.in_ok-add.ensures.unchanged
