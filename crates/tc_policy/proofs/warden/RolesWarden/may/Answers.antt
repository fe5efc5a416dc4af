use Rattle.tc_policy.specs.Places.{grant}
use Rattle.tc_policy.proofs.Numbers.{number-is}
use Rattle.tc_policy.proofs.warden.RolesWarden.may.Goals as goal

pub returns : goal.returns
returns c =
    number-is (grant c.args.role c.args.centre c.args.primitive) c.args.self.now c.permits.result c.permits.ensures.first
    c.permits.ensures.none
