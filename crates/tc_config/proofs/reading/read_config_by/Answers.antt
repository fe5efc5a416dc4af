use Rattle.tc_config.proofs.OneConfig.{first_by, refused_by, same_by, whole_by}
use Rattle.tc_config.proofs.reading.read_config_by.Goals as goal

pub returns-clause-whole : goal.returns-clause-whole
returns-clause-whole g c d h = whole_by c.args.text.now c.read_text_by-read.result c.read_text_by-read.ensures.bad d h

pub returns-clause-same : goal.returns-clause-same
returns-clause-same g c d h = same_by c.args.text.now c.read_text_by-read.result c.read_text_by-read.ensures.found d h

pub returns-clause-refused : goal.returns-clause-refused
returns-clause-refused g c clause why h =
    refused_by c.args.text.now c.read_text_by-read.result c.read_text_by-read.ensures.found clause why h

pub returns-clause-first : goal.returns-clause-first
returns-clause-first g c clause why h = first_by c.args.text.now c.read_text_by-read.result c.read_text_by-read.ensures.bad clause why h
