-- Good runs of first choices.
use Rattle.std.proofs.Common.{List}
use Rattle.tc_model.specs.Choices.{AnyOne, TheFirst}
use Rattle.tc_model.specs.State.{Origin}
use Rattle.tc_model.specs.declared.entries.Entry.{Entry}
use Rattle.tc_model.proofs.Runs.{IsRun-first}
use Rattle.tc_desk.specs.declared.rows.LogRow.{LogRow}
use Rattle.tc_config.specs.Configurations.{Configuration}
use Rattle.tc_config.specs.Good.{AreHistories, IsGood, IsHistory, origin_of}

history-first : (origin : Origin) (h : List Entry) → IsHistory TheFirst origin h → IsHistory AnyOne origin h
history-first origin h is =
    record { run = IsRun-first origin h is.run; quiescent = is.quiescent; looks = is.looks }

histories-first : (c : Configuration) (hs : List (List Entry)) → AreHistories TheFirst c hs → AreHistories AnyOne c hs
histories-first c hs are = record {
  whole = are.whole;
  each = λ place centre h there stands. history-first (origin_of c centre) h (are.each place centre h there stands);
}

pub good-first : (c : Configuration) (hs : List (List Entry)) (logs : List (List LogRow)) → IsGood TheFirst c hs logs
    → IsGood AnyOne c hs logs
good-first c hs logs good = record {
  going = record { runs = histories-first c hs good.going.runs; follow = good.going.follow };
  ended = good.ended;
}
