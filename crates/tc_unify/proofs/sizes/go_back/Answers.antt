use Rattle.std.proofs.Common.{ap, ◌∙◌, drop}
use Rattle.tc_unify.specs.Tables.{link_in, link_of, rewound}
use Rattle.tc_unify.proofs.Tables.{link_in-cut}
use Rattle.tc_unify.proofs.sizes.go_back.Goals as goal

pub returns-clause-link : goal.returns-clause-link
returns-clause-link c = λ k.
    ap (λ terms. link_in terms c.rewind.new.self.variables.items k) c.truncate.ensures.items
    ∙ link_in-cut c.rewind.new.self.terms.items c.rewind.new.self.variables.items c.args.to.nodes (rewound (link_of c.args.links.now) (drop c.args.to.trail c.args.links.now.trail.items)) c.rewind.ensures.link c.requires.past k
