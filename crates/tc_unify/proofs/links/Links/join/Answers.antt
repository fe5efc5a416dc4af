use Rattle.tc_unify.proofs.links.Links.join.Goals as goal

pub returns-clause-unlinked : goal.returns-clause-unlinked
returns-clause-unlinked c = c.set.ensures.unlinked c.requires.free c.requires.other
