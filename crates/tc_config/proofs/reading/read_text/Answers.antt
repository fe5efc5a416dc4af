use Rattle.tc_config.proofs.reading.read_text.Goals as goal

pub read_rest-requires-clause-progress : goal.read_rest-requires-clause-progress
read_rest-requires-clause-progress c = c.new.ensures c.args.text.now
