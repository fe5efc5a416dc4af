-- Sessions, line by line.
use Rattle.std.proofs.Common.{◌≡◌, ℕ, List, [], ◌∷◌, ◌++◌, Result, refl, sym, ap, subst, ◌∙◌, append_assoc, append-nil}
use Rattle.tc_desk.specs.Desks.{DeskState}
use Rattle.tc_lines.specs.Lines.{lines_text}
use Rattle.tc_lines.specs.Requests.{AsksThis}
use Rattle.tc_lines.specs.declared.requests.BadLine.{BadLine}
use Rattle.tc_lines.specs.declared.requests.LineAsk.{LineAsk}
use Rattle.tc_session.specs.Answers.{Answers, KeepsDesk}
use Rattle.tc_session.specs.Sessions.{LeadTo}

-- one line more behind the others
pub lines_more : (raws : List (List ℕ)) (raw rest : List ℕ)
    → lines_text raws ++ (raw ++ 10 ∷ rest) ≡ lines_text (raws ++ raw ∷ []) ++ rest
lines_more [] raw rest = sym (append_assoc raw (10 ∷ []) rest)
lines_more (first ∷ raws) raw rest =
    append_assoc first (10 ∷ lines_text raws) (raw ++ 10 ∷ rest)
    ∙ ap (λ l. first ++ 10 ∷ l) (lines_more raws raw rest)
    ∙ sym (append_assoc first (10 ∷ lines_text (raws ++ raw ∷ [])) rest)

-- one step more behind the others
pub leads_more : (d : DeskState) (raws : List (List ℕ)) (text : List ℕ) (mid : DeskState) (raw : List ℕ)
    (asked : Result LineAsk BadLine) (reply : List ℕ) (e : DeskState)
    → LeadTo d raws text mid → AsksThis raw asked → Answers mid asked reply e → KeepsDesk mid e
    → LeadTo d (raws ++ raw ∷ []) (text ++ reply) e
leads_more d [] text mid raw asked reply e before asks answers keeps =
    let is : mid ≡ d = before.1 in (
      asked,
      reply,
      e,
      [],
      asks,
      subst (λ m. Answers m asked reply e) is answers,
      subst (λ m. KeepsDesk m e) is keeps,
      (refl, refl),
      ap (λ l. l ++ reply) before.0 ∙ sym (append-nil reply),
    )
leads_more d (first ∷ raws) text mid raw asked reply e before asks answers keeps = (
  before.0,
  before.1,
  before.2,
  before.3 ++ reply,
  before.4,
  before.5,
  before.6,
  leads_more before.2 raws before.3 mid raw asked reply e before.7 asks answers keeps,
  ap (λ l. l ++ reply) before.8 ∙ append_assoc before.1 before.3 reply,
)
