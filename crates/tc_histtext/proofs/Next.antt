-- The next line, where one stands there that may come.
use Rattle.std.proofs.Common.{◌≡◌, ℕ, Bool, true, false, List, ◌++◌, None, IfNone, IfSome, drop, sym, subst, ◌∙◌}
use Rattle.std.specs.Bool.{then_some}
use Rattle.tc_histline.specs.Lines.{HasLine, IsLineAt, line_text}
use Rattle.tc_histline.specs.declared.lines.Line.{Line}
use Rattle.tc_histtext.specs.Machine.{next}
use Rattle.tc_histtext.specs.Reading.{Answers, Comes, IsStuck, stage_of}
use Rattle.tc_histtext.specs.declared.reading.Reading.{Reading}
use Rattle.tc_histtext.proofs.LineLaws.{LineLaws}

module _ (C A : List (List ℕ)) (old new : Reading) (bytes : List ℕ) (l : Line) (size : ℕ) (stands : IsLineAt old.version A bytes l size) where
  pub line-comes : (taken : Bool) → Answers C A old l taken new → IfSome (then_some taken size) (λ n. Comes C A old bytes n new)
  line-comes true on = record { line = l; stands = stands; on = on }
  line-comes false on = tt

  -- no other line stands there
  pub line-stuck : LineLaws A → (taken : Bool) → Answers C A old l taken new → IfNone (then_some taken size) (IsStuck C A old bytes)
  line-stuck laws true on = tt
  line-stuck laws false refused =
      λ k more has front.
      subst (λ m. next C A (stage_of C A old) m ≡ None) (laws.one old.version l k (drop size bytes) more stands.has has (sym stands.stands ∙ front)).0 refused

-- no line stands there
pub none-stuck : (C A : List (List ℕ)) (r : Reading) (bytes : List ℕ) → ((l : Line) (rest : List ℕ) → HasLine r.version A l → bytes ≡ line_text r.version A l ++ rest → ⊥) → IsStuck C A r bytes
none-stuck C A r bytes none = λ l rest has front. absurd (none l rest has front)
