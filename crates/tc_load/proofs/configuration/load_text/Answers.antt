use Rattle.std.proofs.Common.{◌∙◌, ◌*◌, ◌++◌, length, ap}
use Rattle.rand_pcg.specs.Lcg.{started, increment_of}
use Rattle.rand_pcg.specs.Pcg.{multiplier_64}
use Rattle.tc_load.specs.declared.limits.TheConstants.{SCRIPTS, STREAM}
use Rattle.tc_load.specs.Workload.{workload_text}
use Rattle.tc_load.proofs.Steps.{OnOk-both}
use Rattle.tc_load.proofs.Draws.{length-first_words}
use Rattle.tc_load.proofs.configuration.load_text.Goals as goal

pub write_workload-written-requires : goal.write_workload-written-requires
write_workload-written-requires c =
    ap length (c.deref.ensures.value ∙ c.in_ok-words.ensures)
    ∙ length-first_words (SCRIPTS * c.args.agents) (started 64 multiplier_64 c.args.start (increment_of 64 STREAM))

pub returns-clause-appended : goal.returns-clause-appended
returns-clause-appended c =
    OnOk-both c.cut_back.result c.write_workload-written.result _ _ _ c.cut_back.ensures.answer
    c.cut_back.ensures.written c.write_workload-written.ensures.appended
    (λ kept done. kept ∙ done
    ∙ ap (λ words. c.args.into.now.items ++ workload_text c.args.agents words) (c.deref.ensures.value ∙ c.in_ok-words.ensures))
