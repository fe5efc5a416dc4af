use Rattle.std.proofs.Common.{◌%◌, arith}
use Rattle.tc_pending.specs.declared.index.TheConstants.{REMAINDERS}
use Rattle.tc_pending.proofs.Truths.{truth-set, truth-grown}
use Rattle.tc_pending.proofs.index.Index.enter.Goals as goal

pub returns-clause-kept : goal.returns-clause-kept
returns-clause-kept c = λ d a has.
    let old = c.args.self.now.entered in
    let grown = c.resize.new.self in (
      c.in_ok-enter.ensures.kept d a has.0,
      truth-set grown.items (c.args.code % REMAINDERS) (d % REMAINDERS)
          (truth-grown old.items grown.items old.len REMAINDERS (d % REMAINDERS) old.ok.0 c.resize.ensures.by_index.0 (omega arith) has.1),
    )

pub returns-in_err-enter-clause-kept : goal.returns-in_err-enter-clause-kept
returns-in_err-enter-clause-kept c = λ d a has.
    let old = c.args.self.now.entered in (
      c.in_err-enter.ensures.kept d a has.0,
      truth-grown old.items c.resize.new.self.items old.len REMAINDERS (d % REMAINDERS) old.ok.0 c.resize.ensures.by_index.0 (omega arith) has.1,
    )
