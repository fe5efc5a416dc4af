use Rattle.std.proofs.Common.{◌++◌, ◌∷◌, [], ap, sym, take, length, get_or, ◌∙◌}
use Rattle.std.proofs.lemmas.List.{take_more}
use Rattle.tc_lists.proofs.Ranges.{get_or-range, range_with_len_more}
use Rattle.tc_term.proofs.numbering.count_up.Goals as goal

pub loop-i-preserved : goal.loop-i-preserved
loop-i-preserved c =
    take_more c.args.numbers.now c.loop-i.i 0 c.loop-i-test.true
    ∙ ap (λ n. take c.loop-i.i c.args.numbers.now ++ n ∷ []) c.if-n-i.false
    ∙ ap (λ ms. ms ++ c.loop-i.i ∷ []) c.loop-i.invariant ∙ sym (range_with_len_more c.loop-i.i)

pub returns-then-n-i : goal.returns-then-n-i
returns-then-n-i c =
    let numbers = c.args.numbers.now in
    let i = c.loop-i.i in (
      λ never. absurd (cc),
      λ in_order. absurd (c.if-n-i.true
          (ap (λ ns. get_or ns i 0) in_order ∙ get_or-range (length numbers) i 0 c.loop-i-test.true)),
    )
