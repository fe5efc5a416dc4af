-- What a run writes is verified yes.
use Rattle.std.proofs.Common.{ℕ, Bool, List}
use Rattle.tc_config.specs.Configurations.{Configuration, IsConfig}
use Rattle.tc_config.specs.Good.{IsGood}
use Rattle.tc_config.proofs.GoodRuns.{good-first}
use Rattle.tc_histline.specs.declared.versions.Version.TheVariants.{Two}
use Rattle.tc_model.specs.Choices.{TheFirst}
use Rattle.tc_verify.specs.RunTexts.{IsTextOfRun}
use Rattle.tc_verify.specs.Verdicts.{IsVerdict}
use Rattle.tc_verify.specs.declared.verdicts.Verdict.TheVariants.{Yes}
use Rattle.tc_verify.proofs.RunTexts.{yes-from_run}
use Rattle.tucson.specs.Answer.{IsTextOf}
use Rattle.tucson.specs.Texts.{whole_text}
use Rattle.tucson.proofs.OneReading.{run-lines}
use Rattle.tucson.proofs.RunLines.{lines-stand, run-wants}

-- it is the text of a run
text-of_run : (c : Configuration) (waits : Bool) (text : List ℕ) → IsConfig c → IsTextOf (IsGood TheFirst c) (whole_text c) waits text
    → IsTextOfRun c text
text-of_run c waits text config a = record {
  version = Two;
  histories = a.histories;
  logs = a.logs;
  good = good-first c a.histories a.logs a.are;
  lines =
      lines-stand c a.histories a.logs config (run-lines c waits text a) (run-wants c a.histories a.logs a.are.going.follow)
      a.typed_logs;
  is = a.is;
}

pub verified-yes : (c : Configuration) (waits : Bool) (text : List ℕ) → IsConfig c → IsTextOf (IsGood TheFirst c) (whole_text c) waits text
    → IsVerdict c text Yes
verified-yes c waits text config a = yes-from_run c text (text-of_run c waits text config a)
