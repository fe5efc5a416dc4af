use Rattle.std.proofs.Common.{rules, ◌≡◌, pos, true, false, Some, FitsSigned, to_z, of_z, w64, refl, ap, sym, ◌∙◌, arith}
use Rattle.std.specs.Prelude.{codes, int_div}
use Rattle.std.specs.Ordering.{int_eq}
use Rattle.std.specs.Str.{bytes_eq}
use Rattle.std.proofs.lemmas.Int.{to_z-of_z, ints}
use Rattle.tc_term.specs.Arithmetic.{in_range, modulo}
use Rattle.tc_arith.proofs.Ranges.{fits_in_range}
use Rattle.tc_arith.proofs.ByName.{value_on_two-quotient, value_on_two-remainder}
use Rattle.tc_arith.proofs.evaluation.apply_two.Goals as goal

pub returns-then-eq-4 : goal.returns-then-eq-4
returns-then-eq-4 c =
    let plus : bytes_eq c.args.name.now (codes "+") ≡ false = search rules in
    let minus : bytes_eq c.args.name.now (codes "-") ≡ false = search rules in
    let times : bytes_eq c.args.name.now (codes "*") ≡ false = search rules in
    let some : int_eq c.args.y (pos 0) ≡ false = grind (arith, ints) in
    let over : bytes_eq c.args.name.now (codes "//") ≡ true = search rules in
    let same : int_div (to_z w64 (of_z w64 c.args.x)) (to_z w64 (of_z w64 c.args.y)) ≡ int_div c.args.x c.args.y =
    simp (to_z-of_z w64 c.args.x c.ranges.x, to_z-of_z w64 c.args.y c.ranges.y) refl in
    c.quotient.ensures ∙ ap in_range same
    ∙ sym (value_on_two-quotient c.args.name.now c.args.x c.args.y plus minus times some over)

pub returns-then-eq-5 : goal.returns-then-eq-5
returns-then-eq-5 c =
    let plus : bytes_eq c.args.name.now (codes "+") ≡ false = search rules in
    let minus : bytes_eq c.args.name.now (codes "-") ≡ false = search rules in
    let times : bytes_eq c.args.name.now (codes "*") ≡ false = search rules in
    let some : int_eq c.args.y (pos 0) ≡ false = grind (arith, ints) in
    let over : bytes_eq c.args.name.now (codes "//") ≡ false = search rules in
    let remainder : bytes_eq c.args.name.now (codes "mod") ≡ true = search rules in
    let fits : FitsSigned w64 c.modulo.result = search rules in
    let same : modulo (to_z w64 (of_z w64 c.args.x)) (to_z w64 (of_z w64 c.args.y)) ≡ modulo c.args.x c.args.y =
    simp (to_z-of_z w64 c.args.x c.ranges.x, to_z-of_z w64 c.args.y c.ranges.y) refl in
    ap Some (to_z-of_z w64 c.modulo.result fits) ∙ fits_in_range c.modulo.result fits
    ∙ ap in_range (c.modulo.ensures ∙ same)
    ∙ sym (value_on_two-remainder c.args.name.now c.args.x c.args.y plus minus times some over remainder)
