use Rattle.std.proofs.Common.{◌≡◌, None, get_or, sym, subst}
use Rattle.tc_names.specs.Names.{place_of}
use Rattle.tc_histtext.proofs.Unknown.{not_before}
use Rattle.tc_histtext.proofs.read_texts.names_of.Goals as goal

pub add-requires : goal.add-requires
add-requires c =
    let agents = c.args.agents.now in
    let place = c.loop-agent.agent-index in
    subst (λ names. place_of names c.in_ok-copy.field-0 ≡ None) (sym c.loop-agent.invariant)
    (not_before agents c.in_ok-copy.field-0 place c.requires.differ c.loop-agent-test.true
    (subst (λ n. n ≡ get_or agents place n) (sym c.in_ok-copy.ensures) c.agent-item.is))
