use Rattle.tc_spec.proofs.OneText.{spelt_by, same_by, refused_by, first_by}
use Rattle.tc_spec.proofs.texts.read_spec.Goals as goal

pub returns-clause-spelt : goal.returns-clause-spelt
returns-clause-spelt c rules h = spelt_by c.args.text.now c.read_clauses-read.result c.read_clauses-read.ensures.fault rules h

pub returns-clause-same : goal.returns-clause-same
returns-clause-same c rules h = same_by c.args.text.now c.read_clauses-read.result c.read_clauses-read.ensures.clauses rules h

pub returns-clause-refused : goal.returns-clause-refused
returns-clause-refused c bad h = refused_by c.args.text.now c.read_clauses-read.result c.read_clauses-read.ensures.clauses bad h

pub returns-clause-first : goal.returns-clause-first
returns-clause-first c bad h = first_by c.args.text.now c.read_clauses-read.result c.read_clauses-read.ensures.fault bad h
