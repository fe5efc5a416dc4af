use Rattle.std.proofs.Common.{arith, inl, inr}
use Rattle.tc_unify.proofs.Tables.{link_in-set_term, link_in-set_variable, unlinked_in-set_term, unlinked_in-set_variable}
use Rattle.tc_unify.proofs.links.Links.set.Goals as goal

pub returns-then-from-lt-FIRST_VARIABLE-clause-link : goal.returns-then-from-lt-FIRST_VARIABLE-clause-link
returns-then-from-lt-FIRST_VARIABLE-clause-link c = λ k.
    link_in-set_term c.args.self.now.terms.items c.args.self.now.variables.items c.args.from c.args.to k
    (elim c.requires [ inl h ↦ h.0 | inr h ↦ absurd (omega (arith, h.0, c.if-from-lt-FIRST_VARIABLE.true)) ]) c.if-from-lt-FIRST_VARIABLE.true

pub returns-else-from-lt-FIRST_VARIABLE-clause-link : goal.returns-else-from-lt-FIRST_VARIABLE-clause-link
returns-else-from-lt-FIRST_VARIABLE-clause-link c = λ k.
    link_in-set_variable c.args.self.now.terms.items c.args.self.now.variables.items c.args.from c.args.to k
    (elim c.requires [ inl h ↦ absurd (omega (arith, h.1, c.if-from-lt-FIRST_VARIABLE.false)) | inr h ↦ h.1 ]) c.if-from-lt-FIRST_VARIABLE.false

pub returns-then-from-lt-FIRST_VARIABLE-clause-unlinked : goal.returns-then-from-lt-FIRST_VARIABLE-clause-unlinked
returns-then-from-lt-FIRST_VARIABLE-clause-unlinked c = λ free other.
    unlinked_in-set_term c.args.self.now.terms.items c.args.self.now.variables.items c.args.from c.args.to
    (elim c.requires [ inl h ↦ h.0 | inr h ↦ absurd (omega (arith, h.0, c.if-from-lt-FIRST_VARIABLE.true)) ]) c.if-from-lt-FIRST_VARIABLE.true free other

pub returns-else-from-lt-FIRST_VARIABLE-clause-unlinked : goal.returns-else-from-lt-FIRST_VARIABLE-clause-unlinked
returns-else-from-lt-FIRST_VARIABLE-clause-unlinked c = λ free other.
    unlinked_in-set_variable c.args.self.now.terms.items c.args.self.now.variables.items c.args.from c.args.to
    (elim c.requires [ inl h ↦ absurd (omega (arith, h.1, c.if-from-lt-FIRST_VARIABLE.false)) | inr h ↦ h.1 ]) c.if-from-lt-FIRST_VARIABLE.false free other
