use Rattle.std.proofs.Common.{ap, ◌∙◌}
use Rattle.std.specs.Str.{bytes_eq}
use Rattle.indexmap.specs.IndexSet.{insert_key}
use Rattle.tc_names.proofs.Declared.{insert_key-unknown}
use Rattle.tc_names.proofs.names.Names.add.Goals as goal

pub returns-clause-added : goal.returns-clause-added
returns-clause-added c =
    c.in_ok-insert.ensures.keys ∙ ap (λ names. insert_key bytes_eq names c.args.name) c.self.view_is
    ∙ insert_key-unknown c.args.self.now c.args.name c.requires
