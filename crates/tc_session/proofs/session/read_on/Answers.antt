use Rattle.std.proofs.Common.{◌≡◌, ap, Err, rules}
use Rattle.tc_session.proofs.Over.{input_over, no_room, read_failed}
use Rattle.tc_session.proofs.session.read_on.Goals as goal

pub returns-in-Ok-eq0 : goal.returns-in-Ok-eq0
returns-in-Ok-eq0 g c = record {
  steps = λ from d before.
      let none : c.in-Ok-eq0.field-0 ≡ 0 = search rules in
      input_over from _ _ _ _ _ _ _ _ before c.in-Ok-eq0.ensures.more none (c.in-Ok-eq0.ensures.counted.unfailed (λ failed. cc))
      c.read_more.ensures.stays_sure c.read_more.ensures.sink c.requires.none c.requires.few c.end_input.ensures.source c.end_input.ensures.finishes;
}

pub returns-in-Err-Failed : goal.returns-in-Err-Failed
returns-in-Err-Failed g c = record {
  steps = λ from d before.
      let failed = ap Err c.in-Err-Failed.field-0-is in
      read_failed from _ _ _ before c.requires.empty c.in-Err-Failed.ensures.left (c.in-Err-Failed.ensures.counted.failed failed)
      (λ sure. c.in-Err-Failed.ensures.sure sure failed) c.read_more.ensures.sink c.requires.none c.requires.few;
}

pub returns-in-Err-NoMemory : goal.returns-in-Err-NoMemory
returns-in-Err-NoMemory g c = record {
  steps = λ from d before.
      no_room from _ _ _ before c.requires.empty c.in-Err-NoMemory.ensures.left
      (c.in-Err-NoMemory.ensures.counted.unfailed (λ failed. let is = c.in-Err-NoMemory.field-0-is in cc))
      c.read_more.ensures.stays_sure c.read_more.ensures.sink;
}
