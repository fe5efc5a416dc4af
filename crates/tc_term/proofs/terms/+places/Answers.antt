use Rattle.std.proofs.Common.{◌≡◌, ap, ◌∙◌, length, subst, arith}
use Rattle.std.specs.Prelude.{IfOk}
use Rattle.std.proofs.lemmas.List.{length-map}
use Rattle.tc_term.proofs.Trees.{copied_all}
use Rattle.tc_term.proofs.Variables.{placed, trees_of-instances}
use Rattle.tc_term.specs.Tree.{Variable}
use Rattle.tc_term.specs.TreeView.{tree_of}
use Rattle.tc_term.specs.Variables.{all_renamed, place_in}
use Rattle.tc_term.proofs.terms.+places.Goals as goal

pub Args::with_places-new-requires : goal.Args::with_places-new-requires
Args::with_places-new-requires t c =
    let items = c.items-items.result.now in
    let terms = c.loop-term.terms.items in
    let made = placed c.args.numbers.now in
    let alike = copied_all made items terms c.loop-term.term-index c.loop-term-test.false c.loop-term.invariant in
    omega (arith, ap length alike, length-map items made, length-map terms tree_of, c.items-items.ensures.some)

pub Args::with_places-returns : goal.Args::with_places-returns
Args::with_places-returns t c =
    let items = c.items-items.result.now in
    let terms = c.loop-term.terms.items in
    let alike =
    copied_all (placed c.args.numbers.now) items terms c.loop-term.term-index c.loop-term-test.false c.loop-term.invariant in
    subst (λ ts. IfOk c.new.result (λ args. args ≡ ts))
    (trees_of-instances (λ n. Variable (place_in c.args.numbers.now n)) items terms alike
    ∙ ap (all_renamed (place_in c.args.numbers.now)) c.items-items.ensures.trees)
    c.new.ensures
