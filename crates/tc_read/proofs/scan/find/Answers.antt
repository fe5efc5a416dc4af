use Rattle.std.proofs.Common.{◌≡◌, ◌==◌, length, refl, arith}
use Rattle.std.proofs.lemmas.Bool.Decides.{nat_tests}
use Rattle.tc_read.specs.Lexemes.{lexeme_view}
use Rattle.tc_read.proofs.Found.{found_text_end, found_end, found_none, found_token}
use Rattle.tc_read.proofs.scan.find.Goals as goal

pub returns-then-is_empty : goal.returns-then-is_empty
returns-then-is_empty c = found_text_end c.args.clauses c.args.size c.args.rest.now c.behind_layout-start.result.now c.behind_layout-start.ensures (let e = c.if-is_empty.ensures in grind (arith, nat_tests))

pub returns-then-is_end : goal.returns-then-is_end
returns-then-is_end c = let e = c.if-is_end.ensures.0 refl in found_end c.args.clauses c.args.size c.saturating_sub-place.result c.args.rest.now c.behind_layout-start.result.now c.behind_layout-start.ensures e.0 e.1 c.saturating_sub-place.ensures

pub returns-in-None : goal.returns-in-None
returns-in-None c =
    let full : length c.behind_layout-start.result.now ≡ 0 → ⊥ = (let e = c.if-is_empty.ensures in grind (arith, nat_tests)) in
    found_none c.args.clauses c.args.size c.saturating_sub-place.result c.args.rest.now c.behind_layout-start.result.now c.behind_layout-start.ensures full c.in-None.ensures.none (λ k e. let never = c.if-is_end.ensures.1 (k, e) in cc) c.saturating_sub-place.ensures

pub returns-in-Some : goal.returns-in-Some
returns-in-Some c = found_token c.args.clauses c.args.size c.saturating_sub-place.result (length c.args.rest.now == length c.behind_layout-start.result.now) c.args.rest.now c.behind_layout-start.result.now c.in-Some.after.now (lexeme_view c.in-Some.lexeme) c.behind_layout-start.ensures c.in-Some.ensures.some c.saturating_sub-place.ensures refl
