use Rattle.std.proofs.Common.{◌≡◌, ◌-◌, ◌+◌, List, IfNone, IfSome, Some, length, sym, ap, subst, ◌∙◌, arith}
use Rattle.tc_lists.specs.Seen.{seen}
use Rattle.tc_model.specs.Reactions.{AreClauses, Rule, clauses_text}
use Rattle.tc_histline.specs.Lines.{IsLineAt}
use Rattle.tc_histline.proofs.OneLineText.{no_clauses-stands, none-stands}
use Rattle.tc_histline.proofs.TypedLines.{plain-stands, replacing-stands, rest-within}
use Rattle.tc_histline.proofs.reading.read_line.Goals as goal

pub returns-in_default-clause-none : goal.returns-in_default-clause-none
returns-in_default-clause-none c =
    none-stands c.args.version c.args.agents.now c.differ.ensures c.args.text.now
    (sym (ap seen (sym c.in_default.is) ∙ c.in_ok-written.ensures))

pub overflow_sub-size : goal.overflow_sub-size
overflow_sub-size c =
    rest-within c.args.version c.args.agents.now c.args.text.now c.in-Some.written c.in-Some.rest.now
    (sym (ap seen (sym c.in-Some.is) ∙ c.in_ok-written.ensures))

pub returns-in_default-2-clause-none : goal.returns-in_default-2-clause-none
returns-in_default-2-clause-none c =
    let found =
    sym (ap seen (sym c.in-Some.is) ∙ c.in_ok-written.ensures)
    ∙ ap (λ w. Some (w, c.in-Some.rest.now)) c.in-Replacing.is in
    let none : (cs : List Rule) → AreClauses cs → clauses_text cs ≡ c.items.result.now → ⊥ =
    subst (λ r. IfNone r ((cs : List Rule) → AreClauses cs → clauses_text cs ≡ c.items.result.now → ⊥)) c.in_default-2.is
    c.in_ok-clauses-in-Replacing.ensures.none in
    no_clauses-stands c.args.version c.args.agents.now c.differ.ensures c.args.text.now
    c.in-Replacing.id c.in-Replacing.spec c.in-Replacing.outcome c.in-Some.rest.now found
    (λ cs are same. none cs are (same ∙ sym c.items.ensures))

pub returns-in-Plain-clause-found : goal.returns-in-Plain-clause-found
returns-in-Plain-clause-found c =
    let text = c.args.text.now in
    let rest = c.in-Some.rest.now in
    let read = sym (ap seen (sym c.in-Some.is) ∙ c.in_ok-written.ensures) in
    let within = rest-within c.args.version c.args.agents.now text c.in-Some.written rest read in
    let behind : length text - length rest + length rest ≡ length text = omega (arith, within) in
    plain-stands c.args.version c.args.agents.now text c.in-Plain.line rest (length text - length rest)
    (read ∙ ap (λ w. Some (w, rest)) c.in-Plain.is) c.typed.ensures behind

pub returns-in-Some-2-clause-found : goal.returns-in-Some-2-clause-found
returns-in-Some-2-clause-found c =
    let text = c.args.text.now in
    let rest = c.in-Some.rest.now in
    let read = sym (ap seen (sym c.in-Some.is) ∙ c.in_ok-written.ensures) in
    let within = rest-within c.args.version c.args.agents.now text c.in-Some.written rest read in
    let behind : length text - length rest + length rest ≡ length text = omega (arith, within) in
    let same : clauses_text c.in-Some-2.clauses ≡ c.items.result.now =
    subst (λ r. IfSome r (λ cs. clauses_text cs ≡ c.items.result.now)) c.in-Some-2.is c.in_ok-clauses-in-Replacing.ensures.found in
    subst (λ l. IsLineAt c.args.version c.args.agents.now text l (length text - length rest)) (sym c.replacing.ensures.line)
    (replacing-stands c.args.version c.args.agents.now text c.in-Replacing.id c.in-Replacing.spec c.in-Replacing.outcome rest
    (length text - length rest) c.in-Some-2.clauses (read ∙ ap (λ w. Some (w, rest)) c.in-Replacing.is)
    c.replacing.ensures.clauses (same ∙ c.items.ensures) c.replacing.ensures.outcome behind)
