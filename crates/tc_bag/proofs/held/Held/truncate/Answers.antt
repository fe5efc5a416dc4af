use Rattle.std.proofs.Common.{◌∙◌, ap, length, length-append, ◌∷◌, [], arith}
use Rattle.tc_bag.proofs.ByAge.{truncated, all_older, youngest_left}
use Rattle.tc_bag.proofs.held.Held.truncate.Goals as goal

pub loop-age-preserved : goal.loop-age-preserved
loop-age-preserved c =
    let y = c.in-Some.ensures.some in
    let is = truncated c.args.next c.in-Some.age c.loop-age.self c.drop_row.new.self c.loop-age.invariant.1 c.if-age-next.false y
    (c.drop_row.ensures ∙ youngest_left c.in-Some.age c.loop-age.self c.loop-age.invariant.1 y) in
    (is.0 ∙ c.loop-age.invariant.0, is.1)

pub loop-age-smaller : goal.loop-age-smaller
loop-age-smaller c =
    let y = c.in-Some.ensures.some in
    let left = ap length (c.drop_row.ensures ∙ youngest_left c.in-Some.age c.loop-age.self c.loop-age.invariant.1 y) in
    omega (arith, left, ap length y.split, length-append y.before (y.last ∷ []))

pub returns-then-age-next : goal.returns-then-age-next
returns-then-age-next c =
    all_older c.args.next c.in-Some.age c.loop-age.self c.loop-age.invariant.1 c.if-age-next.true c.in-Some.ensures.some
    ∙ c.loop-age.invariant.0
