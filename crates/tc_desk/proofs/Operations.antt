-- An ask has one operand.
use Rattle.std.proofs.Common.{◌≡◌, true, false, IsTrue, refl, ap, subst, sym, ◌∙◌}
use Rattle.tc_term.specs.Tree.{Tree, Variable, Atomic, Number, Compound, is_ground}
use Rattle.tc_term.specs.TreeView.{tree_of}
use Rattle.tc_model.specs.declared.asks.Ask.{Ask}
use Rattle.tc_model.specs.declared.asks.Ask.TheVariants.{Out, In, Rd, Inp, Rdp, No, Nop, SetSpec, GetSpec}
use Rattle.tc_model.specs.declared.calls.Op.{Op}
use Rattle.tc_model.specs.declared.calls.Op.TheVariants as op
use Rattle.tc_model.specs.declared.faults.BadSpec.{BadSpec}
use Rattle.tc_spec.specs.Texts.{IsSpelt}
use Rattle.tc_spec.proofs.OneText.{one_text, one_fault, clauses_or_fault}
use Rattle.tc_desk.specs.Operands.{Operand, Sound, TooBig, NotGround, Faulty, IsBadText, IsReplacing, TemplateOf, TupleOf, TextOf, OpOf}

bare : {P : Type 0} (t : Tree) → IsTrue (is_ground t) → is_ground t ≡ false → P
bare t closed unbound = absurd (let apart : true ≡ false = sym closed ∙ unbound in cc)

one_template : (make : Tree → Op) (t : Tree) (o p : Operand) → TemplateOf make t o → TemplateOf make t p → o ≡ p
one_template make t (Sound o) (Sound p) h k = ap Sound (h.1 ∙ sym k.1)
one_template make t (Sound o) TooBig h k = absurd (k h.0)
one_template make t TooBig (Sound p) h k = absurd (h k.0)
one_template make t TooBig TooBig h k = refl
one_template make t NotGround p h k = absurd h
one_template make t (Faulty bad) p h k = absurd h
one_template make t o NotGround h k = absurd k
one_template make t o (Faulty bad) h k = absurd k

one_tuple : (t : Tree) (o p : Operand) → TupleOf t o → TupleOf t p → o ≡ p
one_tuple t (Sound o) (Sound p) h k = ap Sound (h.2 ∙ sym k.2)
one_tuple t (Sound o) TooBig h k = absurd (k h.0)
one_tuple t (Sound o) NotGround h k = bare t h.1 k.1
one_tuple t TooBig (Sound p) h k = absurd (h k.0)
one_tuple t TooBig TooBig h k = refl
one_tuple t TooBig NotGround h k = absurd (h k.0)
one_tuple t NotGround (Sound p) h k = bare t k.1 h.1
one_tuple t NotGround TooBig h k = absurd (k h.0)
one_tuple t NotGround NotGround h k = refl
one_tuple t (Faulty bad) p h k = absurd h
one_tuple t o (Faulty bad) h k = absurd k

one_bad : (t : Tree) (b c : BadSpec) → IsBadText t b → IsBadText t c → b ≡ c
one_bad (Atomic text) b c h k = one_fault text b c h k
one_bad (Variable n) b c h k = absurd h
one_bad (Number n) b c h k = h ∙ sym k
one_bad (Compound name args) b c h k = h ∙ sym k

one_replacing : (t : Tree) (o p : Op) → IsReplacing t o → IsReplacing t p → o ≡ p
one_replacing t o p h k =
    let atoms : Atomic h.text ≡ Atomic k.text = sym h.atom ∙ k.atom in
    let same : h.text ≡ k.text = cc in
    let spelt : IsSpelt h.text k.clauses = subst (λ text. IsSpelt text k.clauses) (sym same) k.spelt in
    h.is ∙ ap op.SetSpec (one_text h.text h.clauses k.clauses h.spelt spelt) ∙ sym k.is

replacing_or_bad : (t : Tree) (o : Op) (bad : BadSpec) → IsReplacing t o → IsBadText t bad → ⊥
replacing_or_bad t o bad h k =
    clauses_or_fault h.text h.clauses bad h.spelt (subst (λ u. IsBadText u bad) h.atom k)

ground_atom : (t : Tree) (o : Op) → IsReplacing t o → is_ground t ≡ false → ⊥
ground_atom t o h unbound =
    let atom : is_ground (Atomic h.text) ≡ false = subst (λ u. is_ground u ≡ false) h.atom unbound in cc

one_text_of : (t : Tree) (o p : Operand) → TextOf t o → TextOf t p → o ≡ p
one_text_of t (Sound o) (Sound p) h k = ap Sound (one_replacing t o p h.1 k.1)
one_text_of t (Sound o) TooBig h k = absurd (k h.0)
one_text_of t (Sound o) NotGround h k = absurd (ground_atom t o h.1 k.1)
one_text_of t (Sound o) (Faulty bad) h k = absurd (replacing_or_bad t o bad h.1 k.2)
one_text_of t TooBig (Sound p) h k = absurd (h k.0)
one_text_of t TooBig TooBig h k = refl
one_text_of t TooBig NotGround h k = absurd (h k.0)
one_text_of t TooBig (Faulty bad) h k = absurd (h k.0)
one_text_of t NotGround (Sound p) h k = absurd (ground_atom t p k.1 h.1)
one_text_of t NotGround TooBig h k = absurd (k h.0)
one_text_of t NotGround NotGround h k = refl
one_text_of t NotGround (Faulty bad) h k = bare t k.1 h.1
one_text_of t (Faulty bad) (Sound p) h k = absurd (replacing_or_bad t p bad k.1 h.2)
one_text_of t (Faulty bad) TooBig h k = absurd (k h.0)
one_text_of t (Faulty bad) NotGround h k = bare t h.1 k.1
one_text_of t (Faulty bad) (Faulty other) h k = ap Faulty (one_bad t bad other h.2 k.2)

pub one_operand : (ask : Ask) (o p : Operand) → OpOf ask o → OpOf ask p → o ≡ p
one_operand (Out t) o p h k = one_tuple (tree_of t) o p h k
one_operand (In t) o p h k = one_template op.In (tree_of t) o p h k
one_operand (Rd t) o p h k = one_template op.Rd (tree_of t) o p h k
one_operand (Inp t) o p h k = one_template op.Inp (tree_of t) o p h k
one_operand (Rdp t) o p h k = one_template op.Rdp (tree_of t) o p h k
one_operand (No t) o p h k = one_template op.No (tree_of t) o p h k
one_operand (Nop t) o p h k = one_template op.Nop (tree_of t) o p h k
one_operand (SetSpec t) o p h k = one_text_of (tree_of t) o p h k
one_operand GetSpec o p h k = h ∙ sym k
