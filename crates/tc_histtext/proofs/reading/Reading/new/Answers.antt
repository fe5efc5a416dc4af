use Rattle.std.proofs.Common.{◌++◌, map, ap, ◌∙◌}
use Rattle.tc_histline.specs.declared.lines.Line.TheVariants.{Reaction}
use Rattle.tc_histtext.proofs.Steps.{nothing}
use Rattle.tc_histtext.proofs.reading.Reading.new.Goals as goal

pub returns-clause-none : goal.returns-clause-none
returns-clause-none c centres agents =
    ap (λ x. x ++ map Reaction c.new-2.result.items) (nothing centres agents c.new.result.items c.new-3.result.items c.new.ensures.items c.new-3.ensures.items)
    ∙ ap (map Reaction) c.new-2.ensures.items
