use Rattle.std.proofs.Common.{sym, ap, ◌∙◌}
use Rattle.tc_lists.specs.Seen.{seen}
use Rattle.tc_histline.specs.Words.{atom_at}
use Rattle.tc_histline.proofs.ReadWords.{between-found, between-missing, between-unclosed}
use Rattle.tc_histline.proofs.read_words.atom_in.Goals as goal

pub returns-in_default-2 : goal.returns-in_default-2
returns-in_default-2 c =
    between-missing atom_at c.args.first.now c.args.close.now c.args.bytes.now c.in-Some.rest.now c.in-Some.ensures
    (ap seen (sym c.in_default-2.is) ∙ c.in_ok-name.ensures)

pub returns-in_default-behind : goal.returns-in_default-behind
returns-in_default-behind c =
    between-unclosed atom_at c.args.first.now c.args.close.now c.args.bytes.now c.in-Some.rest.now c.in-Some.ensures
    c.in-Some-2.name c.in-Some-2.rest.now (ap seen (sym c.in-Some-2.is) ∙ c.in_ok-name.ensures) c.in_default-behind.ensures

pub returns : goal.returns
returns c =
    between-found atom_at c.args.first.now c.args.close.now c.args.bytes.now c.in-Some.rest.now c.in-Some.ensures
    c.in-Some-2.name c.in-Some-2.rest.now c.in-Some-behind.rest.now (ap seen (sym c.in-Some-2.is) ∙ c.in_ok-name.ensures) c.in-Some-behind.ensures
