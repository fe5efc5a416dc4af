use Rattle.tc_print.proofs.Written.{OnOk-variable}
use Rattle.tc_print.proofs.terms.write_variable.Goals as goal

pub returns-clause-appended : goal.returns-clause-appended
returns-clause-appended c =
    OnOk-variable c.append_number.result c.args.into.now.items c.append_number.new.text.items c.args.seen.now c.number.new.self
    c.push.new.self.items c.args.n c.in_ok-number.number c.in_ok-number.ensures.seen c.in_ok-number.ensures.number
    c.in_ok-push.ensures.items c.append_number.ensures.appended
