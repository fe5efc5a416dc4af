use Rattle.std.proofs.lemmas.Result.{on_ok_weaker}
use Rattle.std.specs.List.{enumerate_from, flat_map}
use Rattle.tc_load.specs.Summaries.{command_text, ending_text, tally_of}
use Rattle.tc_load.proofs.Steps.{joined-three}
use Rattle.tc_load.proofs.summaries.write_summary.Goals as goal

pub returns-clause-appended : goal.returns-clause-appended
returns-clause-appended c =
    on_ok_weaker c.write_ending.result
    (joined-three c.args.into.now.items (command_text c.args.agents c.args.start)
    (flat_map (tally_of c.args.words.now) (enumerate_from 0 c.args.counted.now)) (ending_text c.args.blocked)
    c.write_command.new.into.items c.write_tallies.new.into.items c.write_ending.new.into.items
    c.in_ok-write_command.ensures.appended c.in_ok-write_tallies.ensures.appended)
    c.write_ending.ensures.appended
