-- Lists in place of equal ones.
use Rattle.std.proofs.Common.{◌≡◌, sym, subst}

-- what holds of two values holds of two that are equal to them
pub exchanged : {X Y : Type 0} (P : X → Y → Type 0) (x u : X) (y v : Y) → u ≡ x → v ≡ y → P x y → P u v
exchanged P x u y v p q holds = subst (λ l. P l v) (sym p) (subst (λ l. P x l) (sym q) holds)
