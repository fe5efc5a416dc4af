-- The effect that comes next, as the program sees it.
use Rattle.std.proofs.Common.{◌≡◌, Bool, true, false, IsTrue, Option, Some, None, IfNone, refl, sym, ap, ◌∙◌}
use mathlib.Core.Bool.{not}
use Rattle.std.specs.Borrow.{Bor}
use Rattle.std.specs.Option.{option_copied}
use Rattle.std.proofs.lemmas.Bool.{true≢false}
use Rattle.std.proofs.lemmas.Option.{none-some, same_Some}
use Rattle.tc_term.specs.Tree.{Tree}
use Rattle.tc_model.specs.declared.items.Effect.{Effect}
use Rattle.tc_model.specs.declared.items.Effect.TheVariants.{Put, Took, Read}

pub told_none : (next : Option (Bor Effect)) (e : Effect) → ((x : Bor Effect) → next ≡ Some x → ⊥) → option_copied next ≡ Some e → ⊥
told_none None e none told = none-some e told
told_none (Some x) e none told = none x refl

pub told_is : (next : Option (Bor Effect)) (x : Bor Effect) (e : Effect) → next ≡ Some x → x.now ≡ e → option_copied next ≡ Some e
told_is next x e is at = ap option_copied is ∙ ap Some at

pub told_same : (next : Option (Bor Effect)) (x : Bor Effect) (e : Effect) → next ≡ Some x → option_copied next ≡ Some e → x.now ≡ e
told_same next x e is told = same_Some x.now e (sym (ap option_copied is) ∙ told)

-- effects of one tuple
pub put_one : (x : Effect) (t u : Tree) → x ≡ Put t → x ≡ Put u → u ≡ t
put_one x t u a b = let e : Put t ≡ Put u = sym a ∙ b in cc

pub took_one : (x : Effect) (t u : Tree) → x ≡ Took t → x ≡ Took u → t ≡ u
took_one x t u a b = let e : Took t ≡ Took u = sym a ∙ b in cc

pub read_one : (x : Effect) (t u : Tree) → x ≡ Read t → x ≡ Read u → t ≡ u
read_one x t u a b = let e : Read t ≡ Read u = sym a ∙ b in cc

-- what stands for nothing
pub IfNone-not : {X : Type 0} (o : Option X) (P : Type 0) → ((x : X) → o ≡ Some x → ⊥) → IfNone o P → P
IfNone-not None P none h = h
IfNone-not (Some x) P none h = absurd (none x refl)

-- a test turned round
pub not_false : (b : Bool) → not b ≡ false → IsTrue b
not_false true is = refl
not_false false is = absurd (true≢false is)

pub not_true : (b : Bool) → IsTrue (not b) → b ≡ false
not_true true is = absurd (true≢false (sym is))
not_true false is = refl
