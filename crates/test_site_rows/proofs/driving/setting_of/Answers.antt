use Rattle.tc_workers.proofs.Sharing.{can-drive}
use Rattle.std.proofs.Common.{refl}
use Rattle.test_site_rows.proofs.driving.setting_of.Goals as goal

pub returns-clause-can : goal.returns-clause-can
returns-clause-can c =
    let site = c.in_ok-site.ensures.site in
    can-drive c.args.config c.roles.ensures.config c.in_ok-site.site c.args.config.agents site.names_are site.roles_are refl
