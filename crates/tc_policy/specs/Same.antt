-- Equality of grants as a test, and what of them is hashed.
use Rattle.std.specs.Prelude.{◌≡◌, ℕ, zero, suc, ◌++◌, ◌&&◌, Bool, true, Option, Some, nat_eq}
use Rattle.std.specs.Bool.{Decides}
use Rattle.std.specs.Cmp.{IsEquivalence, decided}
use Rattle.std.specs.Hash as fed
use Rattle.std.specs.Hash.{HashWrites}
use Rattle.std.proofs.Common.{ap, refl, sym, ◌∙◌}
use Rattle.std.proofs.lemmas.Bool.Decides.{Decides-and, Decides-eqb}
use Rattle.tc_model.specs.declared.asks.Primitive.{Primitive}
use Rattle.tc_model.specs.declared.asks.Primitive.TheVariants.{Out, In, Rd, Inp, Rdp, No, Nop}
use Rattle.tc_model.specs.declared.asks.Primitive.TheVariants.{SetSpec, GetSpec}
use Rattle.tc_policy.specs.Numbers.{number_of}
use Rattle.tc_policy.specs.declared.grants.Grant.{Grant}

-- whether two grants are equal
abbrev pub same_grant : Grant → Grant → Bool
same_grant g h =
    nat_eq g.role h.role && nat_eq g.centre h.centre
    && nat_eq (number_of g.primitive) (number_of h.primitive)

-- what of a grant is hashed
abbrev pub hash_input : Grant → HashWrites
hash_input g = fed.u32 g.role ++ fed.u32 g.centre ++ fed.u8 (number_of g.primitive)

-- the primitive of a number
abbrev primitive_at : ℕ → Option Primitive
primitive_at zero = Some Out
primitive_at (suc zero) = Some In
primitive_at (suc (suc zero)) = Some Rd
primitive_at (suc (suc (suc zero))) = Some Inp
primitive_at (suc (suc (suc (suc zero)))) = Some Rdp
primitive_at (suc (suc (suc (suc (suc zero))))) = Some No
primitive_at (suc (suc (suc (suc (suc (suc zero)))))) = Some Nop
primitive_at (suc (suc (suc (suc (suc (suc (suc zero))))))) = Some SetSpec
primitive_at (suc (suc (suc (suc (suc (suc (suc (suc n)))))))) = Some GetSpec

primitive_at-number : (p : Primitive) → primitive_at (number_of p) ≡ Some p
primitive_at-number Out = refl
primitive_at-number In = refl
primitive_at-number Rd = refl
primitive_at-number Inp = refl
primitive_at-number Rdp = refl
primitive_at-number No = refl
primitive_at-number Nop = refl
primitive_at-number SetSpec = refl
primitive_at-number GetSpec = refl

same_primitive : (p q : Primitive) → number_of p ≡ number_of q → p ≡ q
same_primitive p q e =
    let same : Some p ≡ Some q =
    sym (primitive_at-number p) ∙ ap primitive_at e ∙ primitive_at-number q in
    cc

same_parts : (g h : Grant) → g.role ≡ h.role → g.centre ≡ h.centre
    → g.primitive ≡ h.primitive → g ≡ h
same_parts g h role centre primitive =
    ap (λ r. record { role = r; centre = g.centre; primitive = g.primitive }) role
    ∙ ap (λ c. record { role = h.role; centre = c; primitive = g.primitive }) centre
    ∙ ap (λ p. record { role = h.role; centre = h.centre; primitive = p }) primitive

-- the test tells equality
pub same_grant-Decides : (g h : Grant) → Decides (same_grant g h) (g ≡ h)
same_grant-Decides g h =
    let places =
    Decides-and (nat_eq g.role h.role) (nat_eq g.centre h.centre)
    (Decides-eqb g.role h.role) (Decides-eqb g.centre h.centre) in
    let all =
    Decides-and (nat_eq g.role h.role && nat_eq g.centre h.centre)
    (nat_eq (number_of g.primitive) (number_of h.primitive)) places
    (Decides-eqb (number_of g.primitive) (number_of h.primitive)) in (
      λ e. let parts = all.0 e in
          same_parts g h parts.0.0 parts.0.1 (same_primitive g.primitive h.primitive parts.1),
      λ e. all.1 (
        (ap (λ (x : Grant). x.role) e, ap (λ (x : Grant). x.centre) e),
        ap (λ (x : Grant). number_of x.primitive) e,
      ),
    )

-- the laws of equality
pub same_grant_equiv : IsEquivalence same_grant
same_grant_equiv = decided same_grant same_grant-Decides

pub same_hashes : (g h : Grant) → same_grant g h ≡ true → hash_input g ≡ hash_input h
same_hashes g h e = ap hash_input ((same_grant-Decides g h).0 e)
