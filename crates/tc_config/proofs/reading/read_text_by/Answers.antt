use Rattle.tc_config.proofs.reading.read_text_by.Goals as goal

pub loop-from-init : goal.loop-from-init
loop-from-init g c = c.new-progress.ensures c.args.text.now
