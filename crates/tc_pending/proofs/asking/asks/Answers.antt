use Rattle.std.proofs.Common.{sym}
use Rattle.std.proofs.lemmas.Bool.{true≢false}
use Rattle.tc_pending.proofs.Coded.{not-asks}
use Rattle.tc_pending.proofs.asking.asks.Goals as goal

pub returns-then-code-wanted-3-clause-exact : goal.returns-then-code-wanted-3-clause-exact
returns-then-code-wanted-3-clause-exact g c = (
  λ yes. absurd (true≢false (sym yes)),
  λ asks. absurd
      (not-asks c.args.wanted.now c.args.request.now c.args.code c.requires.wanted c.requires.code
      c.if-code-wanted.true c.if-code-wanted-2.true c.if-code-wanted-3.true asks),
)
