use Rattle.std.proofs.Common.{◌<◌, ◌+◌, ◌==◌, length, true, sym, ap, subst, ◌∙◌}
use Rattle.std.proofs.lemmas.Bool.{eqb-true, true≢false}
use Rattle.std.proofs.lemmas.List.{nil_from_length}
use Rattle.tc_histtext.proofs.LineLaws.{is_read, line_laws}
use Rattle.tc_histtext.specs.Reading.{Comes, IsStuck}
use Rattle.tc_lists.proofs.Options.{IfNone-at, IfSome-at, none_from_never}
use Rattle.tc_histtext.proofs.Coming.{HasCome, behind-shorter, more-come, none-come, stuck-fault, early-fault, whole-text}
use Rattle.tc_histtext.proofs.read_texts.find.Goals as goal

pub loop-rest-init : goal.loop-rest-init
loop-rest-init c =
    let centres = c.args.centres.now in
    let agents = c.args.agents.now in
    let new = c.new-reading.ensures in
    none-come centres agents c.args.text.now c.new-reading.result (new.start centres agents) (new.none centres agents) (new.sound centres agents)

pub returns-in_default : goal.returns-in_default
returns-in_default c =
    let rest = c.loop-rest.rest.now in
    stuck-fault c.args.centres.now c.args.agents.now (line_laws c.args.agents.now c.requires.differ) c.names_fit.ensures c.names_fit-2.ensures c.args.text.now c.loop-rest.reading rest c.loop-rest.count c.loop-rest.invariant
    (IfNone-at (IsStuck c.args.centres.now c.args.agents.now c.loop-rest.reading rest) c.in_ok-size.field-0 (none_from_never c.in_ok-size.field-0 c.in_default.not-Some) c.in_ok-size.ensures.stuck)
    (λ e. true≢false (sym (ap (λ x. length x == 0) e) ∙ sym c.is_empty.ensures ∙ c.loop-rest-test.true))

pub loop-rest-smaller : goal.loop-rest-smaller
loop-rest-smaller c =
    let r = c.loop-rest.reading in
    let rest = c.loop-rest.rest.now in
    let agents = c.args.agents.now in
    let come = IfSome-at (λ n. Comes c.args.centres.now agents r rest n c.next.new.self) c.in_ok-size.field-0 c.in-Some.size c.in-Some.is c.in_ok-size.ensures.come in
    subst (λ x. length x < length rest) (sym c.behind-rest.ensures) (behind-shorter agents (line_laws agents c.requires.differ) r.version come.line c.in-Some.size rest come.stands.has come.stands.stands)

pub loop-rest-preserved : goal.loop-rest-preserved
loop-rest-preserved c =
    let r = c.loop-rest.reading in
    let rest = c.loop-rest.rest.now in
    let size = c.in-Some.size in
    let centres = c.args.centres.now in
    let agents = c.args.agents.now in
    let come = IfSome-at (λ n. Comes centres agents r rest n c.next.new.self) c.in_ok-size.field-0 size c.in-Some.is c.in_ok-size.ensures.come in
    let read = is_read r.version agents rest come.line size come.stands in
    subst (λ x. HasCome centres agents c.args.text.now c.next.new.self x (c.loop-rest.count + 1)) (sym c.behind-rest.ensures)
    (more-come centres agents (line_laws agents c.requires.differ) c.args.text.now r c.next.new.self rest c.loop-rest.count come.line size c.loop-rest.invariant read.0 read.1 read.2 come.on)

pub returns-in-Some-finish : goal.returns-in-Some-finish
returns-in-Some-finish c =
    let rest = c.loop-rest.rest.now in
    whole-text c.args.centres.now c.args.agents.now (line_laws c.args.agents.now c.requires.differ) c.names_fit.ensures c.names_fit-2.ensures c.args.text.now c.loop-rest.reading rest c.loop-rest.count c.loop-rest.invariant
    c.in-Some-finish.text (nil_from_length rest (eqb-true (length rest) 0 (sym c.is_empty.ensures ∙ c.loop-rest-test.false)))
    (c.in-Some-finish.ensures.text c.args.centres.now c.args.agents.now c.loop-rest.invariant.sound)

pub returns-in-None : goal.returns-in-None
returns-in-None c =
    let rest = c.loop-rest.rest.now in
    early-fault c.args.centres.now c.args.agents.now (line_laws c.args.agents.now c.requires.differ) c.names_fit.ensures c.names_fit-2.ensures c.args.text.now c.loop-rest.reading rest c.loop-rest.count c.loop-rest.invariant
    (nil_from_length rest (eqb-true (length rest) 0 (sym c.is_empty.ensures ∙ c.loop-rest-test.false)))
    (c.in-None.ensures.none c.args.centres.now c.args.agents.now)
