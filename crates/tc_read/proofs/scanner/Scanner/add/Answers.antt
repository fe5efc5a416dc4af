use Rattle.std.proofs.Common.{◌∙◌}
use Rattle.tc_read.proofs.Gathered.{gathers_more}
use Rattle.tc_read.proofs.scanner.Scanner.add.Goals as goal

pub returns : goal.returns
returns c = λ before g.
    let t = c.in_ok-take.ensures in
    gathers_more c.args.self.now _ _ t.names t.brackets (t.first ∙ c.earlier-self.ensures) t.wide t.tokens before g
