use Rattle.std.proofs.Common.{codes, ap, subst, arith}
use Rattle.tc_term.specs.Tree.{Atomic, Fits}
use Rattle.tc_term.specs.Variables.{var_bound}
use Rattle.tc_model.proofs.Rules.{HasVarsBelow-second}
use Rattle.tc_config.specs.Forms.{form_term, lines_term}
use Rattle.tc_config.specs.declared.forms.Form.{Form}
use Rattle.tc_config.proofs.Operands.{lines-within}
use Rattle.tc_config.proofs.adding.add.Goals as goal

pub add_script-requires-clause-operands : goal.add_script-requires-clause-operands
add_script-requires-clause-operands c =
    lines-within c.args.vars c.in-Script.lines
    (HasVarsBelow-second c.args.vars (codes "script") (Atomic c.in-Script.agent) (lines_term c.in-Script.lines) (record {
      bound = omega (arith, c.requires.vars, ap (λ (x : Form). var_bound (form_term x)) c.in-Script.is);
      fits = subst (λ (x : Form). Fits (form_term x)) c.in-Script.is c.requires.pattern.template.fits;
    }))
