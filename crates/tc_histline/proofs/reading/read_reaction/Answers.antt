use Rattle.std.proofs.Common.{◌≡◌, ◌-◌, ◌+◌, ◌≤◌, None, length, length-append, sym, ap, ◌∙◌, arith}
use Rattle.std.proofs.lemmas.Option.{none-some}
use Rattle.tc_lists.specs.Seen.{seen}
use Rattle.tc_histline.specs.Items.{HasItemLine, item_at}
use Rattle.tc_histline.specs.Text.{item_text}
use Rattle.tc_histline.specs.declared.lines.Line.TheVariants as line
use Rattle.tc_histline.proofs.Found.{takes-some}
use Rattle.tc_histline.proofs.ReadItems.{item_at-again, item_at-takes}
use Rattle.tc_histline.proofs.TypedLines.{stands-at}
use Rattle.tc_histline.proofs.reading.read_reaction.Goals as goal

pub overflow_sub-result : goal.overflow_sub-result
overflow_sub-result c =
    let text = c.args.text.now in
    let found = sym (ap seen (sym c.in-Some.is) ∙ c.in_ok-item.ensures) in
    let stands = (takes-some HasItemLine item_text text (item_at text) c.in-Some.item c.in-Some.rest.now (item_at-takes text) found).1 in
    omega (arith, ap length stands, length-append (item_text c.in-Some.item) c.in-Some.rest.now)

pub returns-in-Some-clause-found : goal.returns-in-Some-clause-found
returns-in-Some-clause-found c version agents =
    let text = c.args.text.now in
    let rest = c.in-Some.rest.now in
    let found = sym (ap seen (sym c.in-Some.is) ∙ c.in_ok-item.ensures) in
    let both = takes-some HasItemLine item_text text (item_at text) c.in-Some.item rest (item_at-takes text) found in
    let within : length rest ≤ length text = omega (arith, ap length both.1, length-append (item_text c.in-Some.item) rest) in
    let behind : length text - length rest + length rest ≡ length text = omega (arith, within) in
    stands-at version agents text (line.Reaction c.in-Some.item) rest (length text - length rest) both.0 both.1 behind

pub returns-in-None-clause-none : goal.returns-in-None-clause-none
returns-in-None-clause-none c item rest is same =
    let none : item_at c.args.text.now ≡ None = sym (ap seen (sym c.in-None.is) ∙ c.in_ok-item.ensures) in
    none-some (item, rest) (sym none ∙ (ap item_at same ∙ item_at-again item rest is))
