-- What is told of an answer, whichever it is.
use Rattle.std.proofs.Common.{◌≡◌, true, Result, Ok, Err, is_ok, Option, Some, None, OnOk, OnErr, IfOk, IfSome, ok_or, refl, ap, sym, subst, ◌∙◌}

-- what holds anyhow
pub OnOk-always : {T E : Type 0} (r : Result T E) (P : Type 0) → P → OnOk r P
OnOk-always (Ok x) P holds = holds
OnOk-always (Err e) P holds = tt

pub OnErr-always : {T E : Type 0} (r : Result T E) (P : Type 0) → P → OnErr r P
OnErr-always (Ok x) P holds = tt
OnErr-always (Err e) P holds = holds

-- by cases on the answer
pub OnOk_or_OnErr : {T E : Type 0} (r : Result T E) (P Q Y : Type 0) → OnOk r P → OnErr r Q → (P → Y) → (Q → Y) → Y
OnOk_or_OnErr (Ok x) P Q Y done failed f g = f done
OnOk_or_OnErr (Err e) P Q Y done failed f g = g failed

-- what is known of the value, by what the answer is
pub IfOk-by_OnOk : {T E : Type 0} (r : Result T E) (P : T → Type 0) (Q : Type 0) (x : T)
    → IfOk r (λ y. y ≡ x) → OnOk r Q → (Q → P x) → IfOk r P
IfOk-by_OnOk (Ok y) P Q x same done f = subst P (sym same) (f done)
IfOk-by_OnOk (Err e) P Q x same done f = tt

-- what is told of the value, where it is known which one it is
pub IfOk-IfSome_at : {T E : Type 0} (r : Result (Option T) E) (o : Option T) (x : T) (P : T → Type 0) → r ≡ Ok o → o ≡ Some x
    → IfOk r (λ found. IfSome found P) → P x
IfOk-IfSome_at r o x P is found told = subst (λ q. IfOk q (λ found. IfSome found P)) (is ∙ ap Ok found) told

pub ok_or_some : {T E : Type 0} (o : Option T) (e : E) (x : T) → ok_or o e ≡ Ok x → o ≡ Some x
ok_or_some None e x same = absurd (cc)
ok_or_some (Some y) e x same = cc

-- what follows of two facts of the value
pub IfOk-both : {T E : Type 0} (r : Result T E) (P Q R : T → Type 0) → ((x : T) → P x → Q x → R x) → IfOk r P → IfOk r Q → IfOk r R
IfOk-both (Ok x) P Q R follows first second = follows x first second
IfOk-both (Err e) P Q R follows first second = tt

-- an answer whose failure would tell what isn't so
pub is_ok-from_OnErr : {T E : Type 0} (r : Result T E) (P : Type 0) → OnErr r P → (P → ⊥) → is_ok r ≡ true
is_ok-from_OnErr (Ok x) P failed never = refl
is_ok-from_OnErr (Err e) P failed never = absurd (never failed)
