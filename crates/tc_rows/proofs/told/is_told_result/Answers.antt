use Rattle.std.proofs.Common.{◌≡◌, true, sym, subst, ◌∙◌}
use Rattle.std.proofs.lemmas.Bool.{false≢true}
use Rattle.std.proofs.lemmas.Result.{IfOk-weaker}
use Rattle.tc_rows.specs.Told.{IsToldResult}
use Rattle.tc_rows.proofs.Telling.{denied-told, not-back, other-told}
use Rattle.tc_rows.proofs.told.is_told_result.Goals as goal

pub returns-then-is_refused : goal.returns-then-is_refused
returns-then-is_refused c = λ origin index.
    let told = denied-told c.args.version origin c.args.history.now c.args.id c.args.ask c.args.permitted in
    let same = c.is_refused.ensures.0 c.if-is_refused.true in
    let P = IsToldResult c.args.version (c.args.permitted ≡ true) origin c.args.history.now c.args.id c.args.ask in (
      λ yes. subst P (sym same) (told.0 ((not-back c.args.permitted).0 yes)),
      λ result. (not-back c.args.permitted).1 (told.1 (subst P same result)),
    )

pub returns : goal.returns
returns c = λ origin index.
    let told = other-told c.args.version origin c.args.history.now c.args.id c.args.ask c.args.permitted c.args.became.now
    (λ denied. false≢true (sym c.if-is_refused.false ∙ c.is_refused.ensures.1 denied)) in
    IfOk-weaker c.is_told_served.result _ _
    (λ y h. (λ yes. told.0 c.if-not-permitted.false (h.0 yes), λ result. h.1 (told.1 result).1))
    (c.is_told_served.ensures origin index)
