-- What lines keep, for agents whose names differ.
use Rattle.std.proofs.Common.{◌≡◌, ◌≢◌, ◌≤◌, ℕ, List, ◌++◌, length, drop, Some, None, Option, AllPairs, ap, arith}
use Rattle.std.proofs.lemmas.List.{length-append}
use Rattle.tc_model.specs.declared.entries.Entry.{Entry}
use Rattle.tc_model.specs.declared.entries.Entry.TheVariants.{Called, Gave, Looked}
use Rattle.tc_histline.specs.Lines.{EndsOnce, HasEntryLine, HasLine, IsLineAt, line_text}
use Rattle.tc_histline.specs.declared.lines.Line.{Line}
use Rattle.tc_histline.specs.declared.lines.Line.TheVariants.{First, Centre, Agent, Reaction, Row, End}
use Rattle.tc_histline.specs.declared.lines.Line.TheVariants as line
use Rattle.tc_histline.specs.declared.versions.Version.{Version}
use Rattle.tc_histline.proofs.LineEnds.{line-ends}
use Rattle.tc_histline.proofs.OneLineText.{line-one}
use Rattle.tc_histtext.specs.Machine.{IsBare, IsBareEntry}

pub record LineLaws (A : List (List ℕ)) : Type 0 where
  pub one : (v : Version) (l m : Line) (r s : List ℕ) → HasLine v A l → HasLine v A m → line_text v A l ++ r ≡ line_text v A m ++ s → (l ≡ m) × (r ≡ s)
  pub ends : (v : Version) (l : Line) → HasLine v A l → EndsOnce (line_text v A l)
  pub bare : (v : Version) (l : Line) → HasLine v A l → IsBare l

entry-bare : (v : Version) (A : List (List ℕ)) (e : Entry) → HasEntryLine v A e → IsBareEntry e
entry-bare v A (Called id op o items) has = has.written.2
entry-bare v A (Gave id o items) has = has.written.1
entry-bare v A (Looked id asked told) has = tt

has-bare : (v : Version) (A : List (List ℕ)) (l : Line) → HasLine v A l → IsBare l
has-bare v A (line.Entry e) has = entry-bare v A e has
has-bare v A (First w) has = tt
has-bare v A (Centre n) has = tt
has-bare v A (Agent n) has = tt
has-bare v A (Reaction i) has = tt
has-bare v A (Row r) has = tt
has-bare v A (End b) has = tt

pub line_laws : (A : List (List ℕ)) → AllPairs ◌≢◌ A → LineLaws A
line_laws A differ = record {
  one = λ v l m r s is other same. line-one v A differ l m r s is other same;
  ends = λ v l has. line-ends v A l has;
  bare = λ v l has. has-bare v A l has;
}

-- no line stands at the front; or this one, of so many bytes
abbrev pub IsRead : Version → List (List ℕ) → List ℕ → Option (Line × ℕ) → Type 0
IsRead v A bytes None = (l : Line) (rest : List ℕ) → HasLine v A l → bytes ≡ line_text v A l ++ rest → ⊥
IsRead v A bytes (Some (l, n)) = HasLine v A l × (n ≤ length bytes) × (bytes ≡ line_text v A l ++ drop n bytes)

pub is_read : (v : Version) (A : List (List ℕ)) (bytes : List ℕ) (l : Line) (n : ℕ) → IsLineAt v A bytes l n → IsRead v A bytes (Some (l, n))
is_read v A bytes l n at = (
  at.has,
  omega (arith, at.whole, ap length at.stands, length-append (line_text v A l) (drop n bytes)),
  at.stands,
)
