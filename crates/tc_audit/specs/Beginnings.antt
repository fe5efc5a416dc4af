-- What a centre begins with, as a history is judged from it.
use Rattle.tc_model.specs.State.{Origin, origin_from}
use Rattle.tc_audit.specs.declared.beginning.Beginning.{Beginning}

-- what the centre begins with
abbrev pub origin_in : Beginning → Origin
origin_in b = origin_from b.name.now b.agents.now b.budget b.tuples.now b.clauses.now
