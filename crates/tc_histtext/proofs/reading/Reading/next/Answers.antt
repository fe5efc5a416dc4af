use Rattle.std.proofs.Common.{ℕ, IfNone, IfSome, sym, subst}
use Rattle.tc_lists.proofs.Options.{IfSome-at}
use Rattle.tc_model.specs.declared.items.Item.{Item}
use Rattle.tc_histline.specs.Lines.{IsLineAt}
use Rattle.tc_histline.specs.declared.lines.Line.{Line}
use Rattle.tc_histline.specs.declared.lines.Line.TheVariants.{Reaction}
use Rattle.tc_histtext.specs.Reading.{Comes, IsStuck}
use Rattle.tc_histtext.proofs.LineLaws.{line_laws}
use Rattle.tc_histtext.proofs.Next.{line-comes, line-stuck}
use Rattle.tc_histtext.proofs.reading.Reading.next.Goals as goal

pub returns-in-Some-clause-come : goal.returns-in-Some-clause-come
returns-in-Some-clause-come c =
    let r = c.args.self.now in
    let rest = c.args.rest.now in
    let centres = c.args.centres.now in
    let agents = c.args.agents.now in
    let new = c.add_reaction.new.self in
    let stands = IfSome-at (λ (x : Item × ℕ). IsLineAt r.version agents rest (Reaction x.0) x.1) c.in_ok-item.field-0 (c.in-Some.item, c.in-Some.size) c.in-Some.is (c.in_ok-item.ensures.found r.version agents) in
    subst (λ o. IfSome o (λ n. Comes centres agents r rest n new)) (sym c.then_some.ensures)
    (line-comes centres agents r new rest (Reaction c.in-Some.item) c.in-Some.size stands c.in_ok-add_reaction.field-0 c.in_ok-add_reaction.ensures)

pub returns-in-Some-clause-stuck : goal.returns-in-Some-clause-stuck
returns-in-Some-clause-stuck c =
    let r = c.args.self.now in
    let rest = c.args.rest.now in
    let centres = c.args.centres.now in
    let agents = c.args.agents.now in
    let stands = IfSome-at (λ (x : Item × ℕ). IsLineAt r.version agents rest (Reaction x.0) x.1) c.in_ok-item.field-0 (c.in-Some.item, c.in-Some.size) c.in-Some.is (c.in_ok-item.ensures.found r.version agents) in
    subst (λ o. IfNone o (IsStuck centres agents r rest)) (sym c.then_some.ensures)
    (line-stuck centres agents r c.add_reaction.new.self rest (Reaction c.in-Some.item) c.in-Some.size stands (line_laws agents c.requires.differ) c.in_ok-add_reaction.field-0 c.in_ok-add_reaction.ensures)

pub returns-clause-stuck : goal.returns-clause-stuck
returns-clause-stuck c =
    let r = c.args.self.now in
    let rest = c.args.rest.now in
    let centres = c.args.centres.now in
    let agents = c.args.agents.now in
    let stands = subst (λ names. IsLineAt r.version names rest c.in-Some-2.line c.in-Some-2.size) c.requires.named
    (IfSome-at (λ (x : Line × ℕ). IsLineAt r.version c.args.names.now rest x.0 x.1) c.in_ok-line.field-0 (c.in-Some-2.line, c.in-Some-2.size) c.in-Some-2.is c.in_ok-line.ensures.found) in
    subst (λ o. IfNone o (IsStuck centres agents r rest)) (sym c.then_some-2.ensures)
    (line-stuck centres agents r c.take.new.self rest c.in-Some-2.line c.in-Some-2.size stands (line_laws agents c.requires.differ) c.in_ok-take.field-0 c.in_ok-take.ensures)
