use Rattle.std.proofs.Common.{◌≡◌, ◌<◌, ◌+◌, ◌++◌, ◌∷◌, [], ◌∙◌, Some, List, ℕ, refl, sym, ap, subst, length, set, arith}
use Rattle.std.proofs.lemmas.List.{length-map}
use Rattle.tc_config.specs.declared.configs.CentreConf.{CentreConf}
use Rattle.tc_desk.specs.declared.rows.LogRow.{LogRow}
use Rattle.tc_runner.specs.Steps.{GoesOn, Touches}
use Rattle.tc_runner.proofs.Asking.{asked, next-core, next-named, next-number, next-placed}
use Rattle.tc_runner.proofs.steps.ask.Goals as goal

pub bounds-centres-place : goal.bounds-centres-place
bounds-centres-place c =
    let config = c.centres.ensures.config in
    let placed =
    next-placed c.args.plan.now c.args.agent c.args.a.now c.args.cores.now c.args.log.now.items c.requires.goes c.args.next config c.requires.next in
    subst (λ (ns : List (List ℕ)). c.args.next.centre < length ns) (sym c.centres.ensures.names)
    (omega (arith, placed, length-map c.args.plan.now.centres (λ (s : CentreConf). s.name)))

pub bounds-cores-place : goal.bounds-cores-place
bounds-cores-place c =
    next-core c.args.plan.now c.args.agent c.args.a.now c.args.cores.now c.args.log.now.items c.requires.goes c.args.next c.centres.ensures.config c.requires.next

pub serve-requires : goal.serve-requires
serve-requires c =
    let count : c.len.result ≡ length c.args.log.now.items = c.len.ensures ∙ c.args.log.now.ok.0 in
    next-number c.args.plan.now c.args.agent c.args.a.now c.args.cores.now c.args.log.now.items c.requires.goes c.args.next c.centres.ensures.config c.requires.next
    c.index-cores-place.result (c.len.result + 1) (ap (λ n. n + 1) count)

-- the row of the ask
abbrev row : goal.After-put → LogRow
row c = record { number = c.len.result + 1; centre = c.in_ok-centre.centre; ask = Some c.in_ok-asked.asked; result = c.in_ok-result.result }

pushed : (c : goal.After-put) → c.put.new.log.items ≡ c.args.log.now.items ++ row c ∷ []
pushed c = c.put.ensures ∙ ap (λ (l : List LogRow). l ++ row c ∷ []) c.in_ok-reserve.ensures.items

goes-on : (c : goal.After-put)
    → GoesOn c.args.plan.now c.args.agent c.args.a.now (set c.args.cores.now c.args.next.centre c.serve.new.core) (c.args.log.now.items ++ row c ∷ [])
    × Touches c.args.agent c.args.cores.now (set c.args.cores.now c.args.next.centre c.serve.new.core)
goes-on c =
    let log = c.args.log.now.items in
    let count : c.len.result ≡ length log = c.len.ensures ∙ c.args.log.now.ok.0 in
    asked c.args.plan.now c.args.agent c.args.a.now c.args.cores.now log c.requires.goes c.args.next c.centres.ensures.config c.requires.next
    c.index-cores-place.result c.serve.new.core (c.len.result + 1) c.roles.result.now (row c) c.requires.settled (ap (λ n. n + 1) count) c.roles.ensures refl
    (c.in_ok-centre.ensures ∙ c.index-centres-place.is
    ∙ next-named c.args.plan.now c.args.agent c.args.a.now c.args.cores.now log c.requires.goes c.args.next c.centres.ensures.config c.requires.next
    c.centres.result.now c.index-centres-place.result c.centres.ensures.names)
    (ap Some c.in_ok-asked.ensures) c.in_ok-result.ensures.result c.in_ok-result.ensures.change

pub returns-clause-goes : goal.returns-clause-goes
returns-clause-goes c =
    subst (GoesOn c.args.plan.now c.args.agent c.args.a.now (set c.args.cores.now c.args.next.centre c.serve.new.core)) (sym (pushed c)) (goes-on c).0

pub returns-clause-touches : goal.returns-clause-touches
returns-clause-touches c = (goes-on c).1
