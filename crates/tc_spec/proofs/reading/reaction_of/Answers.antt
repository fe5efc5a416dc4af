use Rattle.tc_spec.proofs.Exact.{written_by, refused_by, caused_by}
use Rattle.tc_spec.proofs.Decoding.{same_by}
use Rattle.tc_spec.proofs.reading.reaction_of.Goals as goal

pub returns-clause-written : goal.returns-clause-written
returns-clause-written c r w = written_by c.args.p.now c.read_reaction-read.result c.read_reaction-read.ensures.fault r w

pub returns-clause-refused : goal.returns-clause-refused
returns-clause-refused c why h = refused_by c.args.p.now c.read_reaction-read.result c.read_reaction-read.ensures.reaction why h

pub returns-clause-caused : goal.returns-clause-caused
returns-clause-caused c why h = caused_by c.args.p.now c.read_reaction-read.result c.read_reaction-read.ensures.fault why h

pub returns-clause-same : goal.returns-clause-same
returns-clause-same c r w = same_by c.args.p.now c.read_reaction-read.result c.read_reaction-read.ensures.reaction r w
