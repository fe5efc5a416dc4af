use Rattle.std.proofs.Common.{refl, sym, subst, ◌∙◌}
use Rattle.std.proofs.lemmas.Bool.{false≢true}
use Rattle.tc_rows.specs.Made.{HasNoEntry, IsEntryOf}
use Rattle.tc_rows.specs.ServedRows.{IsToldRefusal}
use Rattle.tc_rows.proofs.Refusing.{full-refused, memory-refused, other-refused, told-none}
use Rattle.tc_rows.proofs.Sounding.{clear-found, entry-never}
use Rattle.tc_rows.proofs.agreeing.is_told_refusal.Goals as goal

pub returns-then-is_none : goal.returns-then-is_none
returns-then-is_none c = λ origin index.
    let R = IsToldRefusal c.args.version origin c.args.history.now c.args.id in
    let told = full-refused c.args.version origin c.args.history.now c.args.id _ refl in
    let h = c.is_told_full.ensures origin index in
    (λ yes. subst R (sym c.in-Full.is) (told.0 (h.0 yes)), λ is. h.1 (told.1 (subst R c.in-Full.is is)))

pub returns-else-is_none : goal.returns-else-is_none
returns-else-is_none c = λ origin index.
    let h = c.args.history.now in
    let id = c.args.id in
    let R = IsToldRefusal c.args.version origin h id in
    let told = full-refused c.args.version origin h id _ refl in
    let found = clear-found c.entry_of.result (λ e. IsEntryOf id.agent id.number h e.now) (HasNoEntry id.agent id.number h)
    c.is_none.result c.is_none.ensures c.entry_of.ensures.some c.entry_of.ensures.none
    (λ e is never. entry-never id.agent id.number h e.now is never) in (
      λ yes. absurd (false≢true (sym c.if-is_none.false ∙ yes)),
      λ is.
          absurd
          (false≢true
          (sym c.if-is_none.false
          ∙ found.1 (told-none c.args.version origin h id _ (told.1 (subst R c.in-Full.is is))))),
    )

pub returns-in-NoMemory : goal.returns-in-NoMemory
returns-in-NoMemory c = λ origin index. (
  λ yes. absurd (false≢true yes),
  λ is.
      absurd
      (memory-refused c.args.version origin c.args.history.now c.args.id
      (subst (IsToldRefusal c.args.version origin c.args.history.now c.args.id) c.in-NoMemory.is is)),
)

pub returns-in-UnknownCentre : goal.returns-in-UnknownCentre
returns-in-UnknownCentre c = λ origin index.
    other-refused c.args.version origin c.args.history.now c.args.id c.args.why _ c.in-UnknownCentre.is refl tt

pub returns-in-Waiting : goal.returns-in-Waiting
returns-in-Waiting c = λ origin index.
    other-refused c.args.version origin c.args.history.now c.args.id c.args.why _ c.in-Waiting.is refl tt

pub returns-in-Denied : goal.returns-in-Denied
returns-in-Denied c = λ origin index.
    other-refused c.args.version origin c.args.history.now c.args.id c.args.why _ c.in-Denied.is refl tt

pub returns-in-TooBig : goal.returns-in-TooBig
returns-in-TooBig c = λ origin index.
    other-refused c.args.version origin c.args.history.now c.args.id c.args.why _ c.in-TooBig.is refl tt

pub returns-in-NotGround : goal.returns-in-NotGround
returns-in-NotGround c = λ origin index.
    other-refused c.args.version origin c.args.history.now c.args.id c.args.why _ c.in-NotGround.is refl tt

pub returns-in-BadSpec : goal.returns-in-BadSpec
returns-in-BadSpec c = λ origin index.
    other-refused c.args.version origin c.args.history.now c.args.id c.args.why _ c.in-BadSpec.is refl tt

pub returns-in-TurnsSpent : goal.returns-in-TurnsSpent
returns-in-TurnsSpent c = λ origin index.
    other-refused c.args.version origin c.args.history.now c.args.id c.args.why _ c.in-TurnsSpent.is refl tt
