use Rattle.std.proofs.Common.{sym, subst}
use Rattle.tc_centre.specs.Centre.{Centre}
use Rattle.tc_shared.specs.Passes.{IsPausedOf}
use Rattle.tc_shared.proofs.Turns.{resumes, resumes-own, resumes-grown}
use Rattle.tc_shared.proofs.centre.SharedCentre.resume.Goals as goal

pub leave-requires-clause-grown : goal.leave-requires-clause-grown
leave-requires-clause-grown g =
    resumes-grown g.args.self.now g.args.pass.now g.args.pass.now g.paused.inside.held.value
    (subst (λ (k : Centre). IsPausedOf g.args.self.now k g.args.pass.now) (sym g.paused.view_is) g.requires.own)

pub returns-clause-own : goal.returns-clause-own
returns-clause-own g =
    resumes-own g.args.self.now g.args.pass.now g.leave.new.pass g.paused.inside.held.value
    (subst (λ (k : Centre). IsPausedOf g.args.self.now k g.args.pass.now) (sym g.paused.view_is) g.requires.own) g.leave.ensures

pub returns-clause-after : goal.returns-clause-after
returns-clause-after g =
    resumes g.args.self.now g.args.pass.now g.leave.new.pass g.paused.inside.held.value
    (subst (λ (k : Centre). IsPausedOf g.args.self.now k g.args.pass.now) (sym g.paused.view_is) g.requires.own) g.leave.ensures
