use Rattle.std.proofs.Common.{◌≡◌, ◌-◌, ◌++◌}
use Rattle.rand_core.specs.Steps.{first_words}
use Rattle.rand_pcg.specs.Pcg.{pcg32}
use Rattle.tc_load.specs.Words.{words_of}
use Rattle.tc_load.proofs.words.words_of.Given as goal

-- the words so far, and those that the generator has left
abbrev pub invariant-loop : goal.invariant-loop
invariant-loop l = words_of l.fn.count l.fn.start
    ≡ l.words.items ++ first_words pcg32 (l.fn.count - l.counter) l.generator
