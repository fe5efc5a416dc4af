-- Optional values, by what they hold.
use Rattle.std.proofs.Common.{◌≡◌, Bool, true, false, if◌then◌else◌, Option, Some, None, is_some, IfSome, IfNone, MatchOption, option_map, refl, subst}

pub option_map_some : {X Y : Type 0} (f : X → Y) (o : Option X) (y : Y) → option_map f o ≡ Some y → (x : X) × (o ≡ Some x) × (f x ≡ y)
option_map_some f None y e = absurd (cc)
option_map_some f (Some x) y e = (x, refl, cc)

-- what is told of a value as it is seen
pub IfSome-seen : {X Y : Type 0} (view : X → Y) (o : Option X) (N : Type 0) (P : Y → Type 0) → MatchOption (option_map view o) N P → IfSome o (λ x. P (view x))
IfSome-seen view None N P told = tt
IfSome-seen view (Some x) N P told = told

pub IfNone-seen : {X Y : Type 0} (view : X → Y) (o : Option X) (N : Type 0) (P : Y → Type 0) → MatchOption (option_map view o) N P → IfNone o N
IfNone-seen view None N P told = told
IfNone-seen view (Some x) N P told = tt

-- what is told of a value, where it is known which one it is
pub IfSome-at : {X : Type 0} (P : X → Type 0) (o : Option X) (x : X) → o ≡ Some x → IfSome o P → P x
IfSome-at P o x is told = subst (λ p. IfSome p P) is told

pub IfNone-at : {X : Type 0} (N : Type 0) (o : Option X) → o ≡ None → IfNone o N → N
IfNone-at N o is told = subst (λ p. IfNone p N) is told

-- a pair that is there
pub some_pair_same : {X Y : Type 0} (x u : X) (y v : Y) → ◌≡◌ {A = Option (X × Y)} (Some (x, y)) (Some (u, v))
    → ◌≡◌ {A = X × Y} (x, y) (u, v)
some_pair_same x u y v e = cc

-- what holds of whichever value there is, and what holds anyhow
pub IfSome-from : {X : Type 0} (P : X → Type 0) (o : Option X) → ((x : X) → o ≡ Some x → P x) → IfSome o P
IfSome-from P None each = tt
IfSome-from P (Some x) each = each x refl

pub IfNone-always : {X : Type 0} (o : Option X) (N : Type 0) → N → IfNone o N
IfNone-always None N holds = holds
IfNone-always (Some x) N holds = tt

pub IfNone-weaker : {X : Type 0} (o : Option X) (M N : Type 0) → (M → N) → IfNone o M → IfNone o N
IfNone-weaker None M N weaker told = weaker told
IfNone-weaker (Some x) M N weaker told = tt

-- whether something is there
pub is_some-option_map : {X Y : Type 0} (f : X → Y) (o : Option X) → is_some (option_map f o) ≡ is_some o
is_some-option_map f None = refl
is_some-option_map f (Some x) = refl

pub none_from_is_some : {X : Type 0} (o : Option X) → is_some o ≡ false → o ≡ None
none_from_is_some None fails = refl
none_from_is_some (Some x) fails = absurd (cc)

-- nothing is there
pub none_from_never : {X : Type 0} (o : Option X) → ((x : X) → o ≡ Some x → ⊥) → o ≡ None
none_from_never None never = refl
none_from_never (Some x) never = absurd (never x refl)

pub if_some_none : {X : Type 0} (b : Bool) (x : X) → (if b then Some x else None) ≡ None → b ≡ false
if_some_none true x e = absurd (cc)
if_some_none false x e = refl
