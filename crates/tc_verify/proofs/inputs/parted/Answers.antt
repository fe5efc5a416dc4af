use Rattle.std.proofs.Common.{◌+◌, take, sym, subst, ◌∙◌, arith}
use Rattle.std.proofs.lemmas.Bool.{true≢false}
use Rattle.tc_lists.proofs.Options.{IfNone-at, none_from_never}
use Rattle.tc_verify.specs.Inputs.{IsParted}
use Rattle.tc_verify.proofs.Parting.{behind-all, marked-end, marked-line, none-behind, passed-more, passed-none, unmarked}
use Rattle.tc_verify.proofs.inputs.parted.Goals as goal

pub loop-end-init : goal.loop-end-init
loop-end-init c = passed-none c.args.input.now

pub line_end-requires : goal.line_end-requires
line_end-requires c = c.loop-end.invariant.inside

pub slice_bounds-is_mark-count-2 : goal.slice_bounds-is_mark-count-2
slice_bounds-is_mark-count-2 c = c.loop-end.invariant.inside

pub returns-then-is_mark : goal.returns-then-is_mark
returns-then-is_mark c =
    subst (IsParted c.args.input.now (take c.loop-end.from c.args.input.now)) (sym (behind-all c.args.input.now (c.in-Some.end + 1)))
    (marked-line c.args.input.now c.loop-end.from c.in-Some.end c.loop-end.invariant c.in-Some.ensures.some (c.is_mark.ensures.0 c.if-is_mark.true))

pub loop-end-smaller : goal.loop-end-smaller
loop-end-smaller c = omega (arith, c.in-Some.ensures.some.within, c.in-Some.ensures.some.behind)

pub loop-end-preserved : goal.loop-end-preserved
loop-end-preserved c = passed-more c.args.input.now c.loop-end.from c.in-Some.end c.loop-end.invariant c.in-Some.ensures.some (λ is. true≢false (sym (c.is_mark.ensures.1 is) ∙ c.if-is_mark.false))

pub returns-then-is_mark-2 : goal.returns-then-is_mark-2
returns-then-is_mark-2 c =
    subst (IsParted c.args.input.now (take c.loop-end.from c.args.input.now)) (sym (none-behind c.args.input.now))
    (marked-end c.args.input.now c.loop-end.from c.loop-end.invariant (sym (behind-all c.args.input.now c.loop-end.from) ∙ c.is_mark-2.ensures.0 c.if-is_mark-2.true))

pub returns : goal.returns
returns c =
    subst (IsParted c.args.input.now c.args.input.now) (sym (none-behind c.args.input.now))
    (unmarked c.args.input.now c.loop-end.from c.loop-end.invariant
    (IfNone-at _ c.line_end.result (none_from_never c.line_end.result c.in_default.not-Some) c.line_end.ensures.none)
    (λ is. true≢false (sym (c.is_mark-2.ensures.1 (behind-all c.args.input.now c.loop-end.from ∙ is)) ∙ c.if-is_mark-2.false)))
