-- The first cause of a clause, by its form.
use Rattle.std.proofs.Common.{IfErr, Result, Ok, Err, subst}
use Rattle.tc_term.specs.Tree.{Tree}
use Rattle.tc_config.specs.Answers.{IsClauseFault, IsTermFault}
use Rattle.tc_config.specs.Causes.{HasCause, IsFaulty, IsFirstCause, IsFirstFault}
use Rattle.tc_config.specs.Configurations.{Configuration}
use Rattle.tc_config.specs.Forms.{IsFormOf}
use Rattle.tc_config.specs.declared.faults.ClauseFault.{ClauseFault}
use Rattle.tc_config.specs.declared.faults.ClauseFault.TheVariants.{Bad, NoMemory}
use Rattle.tc_config.specs.declared.faults.ConfigCause.{ConfigCause}
use Rattle.tc_config.specs.declared.faults.ConfigCause.TheVariants as cause
use Rattle.tc_config.specs.declared.forms.Form.{Form}
use Rattle.tc_config.specs.declared.forms.Form.TheVariants.{Centre, Tuple, Spec, Role, Grant, Agent, Script}
use Rattle.tc_config.proofs.OneForm.{one_form}

-- what is wrong with the form is what is wrong with the clause
faulty-form : (c : Configuration) (t : Tree) (x y : Form) (why : ConfigCause) → IsFormOf x t → IsFormOf y t → IsFaulty c y why
    → IsFaulty c x why
faulty-form c t x y why is other h = subst (λ z. IsFaulty c z why) (one_form t y x other is) h

pub fault-cause : (c : Configuration) (t : Tree) (x : Form) (why : ConfigCause) → IsFormOf x t → HasCause c t why → IsFaulty c x why
fault-cause c t x cause.Shape is h = absurd (h x is)
fault-cause c t x cause.Syntax is h = faulty-form c t x h.0 cause.Syntax is h.1 h.2
fault-cause c t x cause.Size is h = faulty-form c t x h.0 cause.Size is h.1 h.2
fault-cause c t x cause.Reaction is h = faulty-form c t x h.0 cause.Reaction is h.1 h.2
fault-cause c t x cause.UnknownCentre is h = faulty-form c t x h.0 cause.UnknownCentre is h.1 h.2
fault-cause c t x cause.UnknownRole is h = faulty-form c t x h.0 cause.UnknownRole is h.1 h.2
fault-cause c t x cause.UnknownAgent is h = faulty-form c t x h.0 cause.UnknownAgent is h.1 h.2
fault-cause c t x cause.Twice is h = faulty-form c t x h.0 cause.Twice is h.1 h.2
fault-cause c t x cause.NotGround is h = faulty-form c t x h.0 cause.NotGround is h.1 h.2
fault-cause c t x cause.Count is h = faulty-form c t x h.0 cause.Count is h.1 h.2
fault-cause c t x cause.Length is h = faulty-form c t x h.0 cause.Length is h.1 h.2

-- no form is faulty by its shape
no_shape : (c : Configuration) (x : Form) → IsFaulty c x cause.Shape → ⊥
no_shape c (Centre n b) h = h
no_shape c (Tuple n t) h = h
no_shape c (Spec n t) h = h
no_shape c (Role r) h = h
no_shape c (Grant r n p) h = h
no_shape c (Agent a r) h = h
no_shape c (Script a lines) h = h

cause-fault : (c : Configuration) (t : Tree) (x : Form) (why : ConfigCause) → IsFormOf x t → IsFaulty c x why → HasCause c t why
cause-fault c t x cause.Shape is h = absurd (no_shape c x h)
cause-fault c t x cause.Syntax is h = (x, is, h)
cause-fault c t x cause.Size is h = (x, is, h)
cause-fault c t x cause.Reaction is h = (x, is, h)
cause-fault c t x cause.UnknownCentre is h = (x, is, h)
cause-fault c t x cause.UnknownRole is h = (x, is, h)
cause-fault c t x cause.UnknownAgent is h = (x, is, h)
cause-fault c t x cause.Twice is h = (x, is, h)
cause-fault c t x cause.NotGround is h = (x, is, h)
cause-fault c t x cause.Count is h = (x, is, h)
cause-fault c t x cause.Length is h = (x, is, h)

pub first-cause : (c : Configuration) (t : Tree) (x : Form) (why : ConfigCause) → IsFormOf x t → IsFirstFault c x why
    → IsFirstCause c t why
first-cause c t x why is h = record {
  has = cause-fault c t x why is h.has;
  first = λ other less cause. h.first other less (fault-cause c t x other is cause);
}

-- so the fault that is told of a form is told of its clause
pub told-fault : (c : Configuration) (t : Tree) (x : Form) (r : Result (Unit {0}) ClauseFault) → IsFormOf x t
    → IfErr r (IsClauseFault c x) → IfErr r (IsTermFault c t)
told-fault c t x (Ok u) is h = tt
told-fault c t x (Err (Bad why)) is h = first-cause c t x why is h
told-fault c t x (Err NoMemory) is h = tt
