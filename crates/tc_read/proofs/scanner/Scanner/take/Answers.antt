use Rattle.std.proofs.lemmas.Result.{on_ok_weaker}
use Rattle.tc_read.proofs.scanner.Scanner.take.Goals as goal

pub returns-in-Punctuation : goal.returns-in-Punctuation
returns-in-Punctuation c = rw c.in-Punctuation.is (on_ok_weaker c.mark.result (λ taken. taken c.args.place) c.mark.ensures)
