use Rattle.std.proofs.Common.{◌≡◌, ◌∙◌, suc, ◌+◌, ◌-◌, ◌++◌, ap, sym, arith}
use Rattle.rand_core.specs.Steps.{first_words}
use Rattle.rand_pcg.specs.Pcg.{pcg32}
use Rattle.tc_load.specs.Words.{words_of}
use Rattle.tc_load.proofs.Draws.{drawn-all, drawn-more}
use Rattle.tc_load.proofs.words.words_of.Goals as goal

pub loop-preserved : goal.loop-preserved
loop-preserved c =
    let left : c.args.count - c.loop.counter ≡ suc (c.args.count - (c.loop.counter + 1)) = omega arith in
    drawn-more _ _ c.loop.generator c.next_word.new.self c.next_word.result (words_of c.args.count c.args.start)
    c.loop.words.items left c.next_word.ensures c.loop.invariant
    ∙ ap (λ l. l ++ first_words pcg32 (c.args.count - (c.loop.counter + 1)) c.next_word.new.self) (sym c.in_ok-push.ensures.items)

pub returns : goal.returns
returns c =
    drawn-all (c.args.count - c.loop.counter) c.loop.generator (words_of c.args.count c.args.start) c.loop.words.items
    (omega arith) c.loop.invariant
