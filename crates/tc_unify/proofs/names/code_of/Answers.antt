use Rattle.std.proofs.Common.{Fits, w8, ◌-◌, ℕ, ◌<◌, get_or, drop, ap, ◌∙◌, arith, subst, sym, All, List, ◌≡◌}
use Rattle.std.proofs.lemmas.List.Elements.{All-from_get_or}
use Rattle.tc_unify.specs.declared.names.TheConstants.{SHORT_NAMES}
use Rattle.tc_unify.specs.Names.{name_code, name_at}
use Rattle.tc_unify.proofs.ShortNames.{name_at-code, code-small, code_room}
use Rattle.tc_unify.proofs.names.code_of.Goals as goal

byte_of : (name : List ℕ) → ((i : ℕ) → Fits w8 (get_or name i 0)) → (i : ℕ) → get_or name i 0 < 256
byte_of name fits i = let byte = fits i in omega (arith, byte)

bytes_of : (name : List ℕ) → ((i : ℕ) → Fits w8 (get_or name i 0)) → All (λ b. b < 256) name
bytes_of name fits = All-from_get_or (λ b. b < 256) name 0 (λ k below. byte_of name fits k)

whole_name : (name : List ℕ) (code place : ℕ) → code ≡ name_code (drop place name) → place ≡ 0 → code ≡ name_code name
whole_name name code place e none = e ∙ ap (λ p. name_code (drop p name)) none

pub overflow_mul-code : goal.overflow_mul-code
overflow_mul-code c =
    let room = code_room c.args.name.now c.loop-place.place c.requires c.loop-place-test.true c.loop-place.invariant.place (bytes_of c.args.name.now c.type_inv.name) in
    let code = c.loop-place.invariant.code in
    omega (arith, room, code)

pub overflow_add-code : goal.overflow_add-code
overflow_add-code c =
    let room = code_room c.args.name.now c.loop-place.place c.requires c.loop-place-test.true c.loop-place.invariant.place (bytes_of c.args.name.now c.type_inv.name) in
    let code = c.loop-place.invariant.code in
    let byte = byte_of c.args.name.now c.type_inv.name (c.loop-place.place - 1) in
    omega (arith, room, code, byte)

pub overflow_add-code-in-loop-place : goal.overflow_add-code-in-loop-place
overflow_add-code-in-loop-place c =
    let room = code_room c.args.name.now c.loop-place.place c.requires c.loop-place-test.true c.loop-place.invariant.place (bytes_of c.args.name.now c.type_inv.name) in
    let code = c.loop-place.invariant.code in
    let byte = byte_of c.args.name.now c.type_inv.name (c.loop-place.place - 1) in
    omega (arith, room, code, byte)

pub returns-clause-name : goal.returns-clause-name
returns-clause-name c =
    ap name_at (whole_name c.args.name.now c.loop-place.code c.loop-place.place c.loop-place.invariant.code (omega arith))
    ∙ name_at-code c.args.name.now c.requires (bytes_of c.args.name.now c.type_inv.name)

pub returns-clause-small : goal.returns-clause-small
returns-clause-small c =
    subst (λ n. n < SHORT_NAMES) (sym (whole_name c.args.name.now c.loop-place.code c.loop-place.place c.loop-place.invariant.code (omega arith)))
    (code-small 7 c.args.name.now c.requires (bytes_of c.args.name.now c.type_inv.name))
