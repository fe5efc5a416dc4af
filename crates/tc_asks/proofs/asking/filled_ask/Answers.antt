use Rattle.std.proofs.Common.{sym, subst}
use Rattle.tc_model.specs.declared.asks.Ask.TheVariants.{Out, In, Rd, Inp, Rdp, No, Nop, SetSpec}
use Rattle.tc_desk.specs.Asks.{IsFilled}
use Rattle.tc_asks.proofs.asking.filled_ask.Goals as goal

pub returns-in_ok-fill-in-Out : goal.returns-in_ok-fill-in-Out
returns-in_ok-fill-in-Out c vars es values known exact =
    subst (λ a. IsFilled values a (Out c.in_ok-fill-in-Out.field-0)) (sym c.in-Out.is) (c.in_ok-fill-in-Out.ensures vars es values known exact)

pub returns-in_ok-fill-in-In : goal.returns-in_ok-fill-in-In
returns-in_ok-fill-in-In c vars es values known exact =
    subst (λ a. IsFilled values a (In c.in_ok-fill-in-In.field-0)) (sym c.in-In.is) (c.in_ok-fill-in-In.ensures vars es values known exact)

pub returns-in_ok-fill-in-Rd : goal.returns-in_ok-fill-in-Rd
returns-in_ok-fill-in-Rd c vars es values known exact =
    subst (λ a. IsFilled values a (Rd c.in_ok-fill-in-Rd.field-0)) (sym c.in-Rd.is) (c.in_ok-fill-in-Rd.ensures vars es values known exact)

pub returns-in_ok-fill-in-Inp : goal.returns-in_ok-fill-in-Inp
returns-in_ok-fill-in-Inp c vars es values known exact =
    subst (λ a. IsFilled values a (Inp c.in_ok-fill-in-Inp.field-0)) (sym c.in-Inp.is) (c.in_ok-fill-in-Inp.ensures vars es values known exact)

pub returns-in_ok-fill-in-Rdp : goal.returns-in_ok-fill-in-Rdp
returns-in_ok-fill-in-Rdp c vars es values known exact =
    subst (λ a. IsFilled values a (Rdp c.in_ok-fill-in-Rdp.field-0)) (sym c.in-Rdp.is) (c.in_ok-fill-in-Rdp.ensures vars es values known exact)

pub returns-in_ok-fill-in-No : goal.returns-in_ok-fill-in-No
returns-in_ok-fill-in-No c vars es values known exact =
    subst (λ a. IsFilled values a (No c.in_ok-fill-in-No.field-0)) (sym c.in-No.is) (c.in_ok-fill-in-No.ensures vars es values known exact)

pub returns-in_ok-fill-in-Nop : goal.returns-in_ok-fill-in-Nop
returns-in_ok-fill-in-Nop c vars es values known exact =
    subst (λ a. IsFilled values a (Nop c.in_ok-fill-in-Nop.field-0)) (sym c.in-Nop.is) (c.in_ok-fill-in-Nop.ensures vars es values known exact)

pub returns-in_ok-fill-in-SetSpec : goal.returns-in_ok-fill-in-SetSpec
returns-in_ok-fill-in-SetSpec c vars es values known exact =
    subst (λ a. IsFilled values a (SetSpec c.in_ok-fill-in-SetSpec.field-0)) (sym c.in-SetSpec.is) (c.in_ok-fill-in-SetSpec.ensures vars es values known exact)
