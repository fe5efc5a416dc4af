-- Sessions: what lines lead to, how a session ends, and what is written.
use Rattle.std.specs.Prelude.{◌≡◌, ℕ, ◌+◌, ◌≤◌, ◌⊎◌, List, [], ◌∷◌, ◌++◌, length, codes}
use Rattle.std.specs.Prelude.{Some, Result, Ok}
use Rattle.tc_io.specs.Sources.{SourceState, ReadsBytes}
use Rattle.tc_io.specs.Sinks.{SinkState, AppendsFront, appended}
use Rattle.tc_desk.specs.Desks.{DeskState}
use Rattle.tc_lines.specs.Lines.{HasNoBreak, lines_text}
use Rattle.tc_lines.specs.Requests.{AsksThis, BeginsWith}
use Rattle.tc_lines.specs.declared.limits.TheConstants.{MOST_LINE}
use Rattle.tc_lines.specs.declared.requests.BadLine.{BadLine}
use Rattle.tc_lines.specs.declared.requests.LineAsk.{LineAsk}
use Rattle.tc_lines.specs.declared.requests.LineAsk.TheVariants.{Quit}
use Rattle.tc_lines.specs.Replies.{error_line, reply_line}
use Rattle.tc_session.specs.Answers.{Answers, FindsNoMemory, KeepsDesk}
use Rattle.tc_session.specs.declared.endings.SessionEnd.{SessionEnd}
use Rattle.tc_session.specs.declared.endings.SessionEnd.TheVariants as end

-- the lines lead from one desk to another, one step for each, with these replies
abbrev pub LeadTo : DeskState → List (List ℕ) → List ℕ → DeskState → Type 0
LeadTo d [] text e = (text ≡ []) × (e ≡ d)
LeadTo d (raw ∷ raws) text e =
    (asked : Result LineAsk BadLine) × (reply : List ℕ) × (mid : DeskState) × (rest : List ℕ)
    × AsksThis raw asked × Answers d asked reply mid × KeepsDesk d mid
    × LeadTo mid raws rest e × (text ≡ reply ++ rest)

-- what is written where the input ends amid a line
abbrev pub cut_text : List ℕ → List ℕ
cut_text [] = []
cut_text (b ∷ bytes) = error_line (codes "line cut")

-- memory ran out: between two lines; when a line was answered whose reply found no room; or at a
-- line, which is told
abbrev pub EndsForMemory : DeskState → List ℕ → List ℕ → DeskState → Type 0
EndsForMemory d bytes last e =
    ((last ≡ []) × (e ≡ d))
    ⊎ (((asked : Result LineAsk BadLine) × (rest : List ℕ) × BeginsWith bytes asked rest
    × Answers d asked last e × KeepsDesk d e)
    ⊎ ((asked : Result LineAsk BadLine) × (rest : List ℕ) × BeginsWith bytes asked rest
    × FindsNoMemory d asked e × KeepsDesk d e × (last ≡ error_line (codes "no memory"))))

-- how a session ends by the bytes behind the lines that were answered, and what is written last
abbrev pub EndsBy : DeskState → List ℕ → SessionEnd → List ℕ → DeskState → Type 0
EndsBy d bytes end.Quit last e =
    ((rest : List ℕ) × BeginsWith bytes (Ok Quit) rest) × (last ≡ reply_line (codes "bye"))
    × (e ≡ d)
EndsBy d bytes end.EndOfInput last e =
    HasNoBreak bytes × (length bytes ≤ MOST_LINE) × (last ≡ cut_text bytes) × (e ≡ d)
EndsBy d bytes end.LineTooLong last e =
    HasNoBreak bytes × (length bytes ≡ MOST_LINE + 1)
    × (last ≡ error_line (codes "line too long")) × (e ≡ d)
EndsBy d bytes end.ReadFault last e =
    HasNoBreak bytes × (length bytes ≤ MOST_LINE) × (last ≡ []) × (e ≡ d)
EndsBy d bytes end.WriteFault last e = (last ≡ []) × (e ≡ d)
EndsBy d bytes end.NoMemory last e = EndsForMemory d bytes last e

-- what was taken of the text of a session that is due to end so: all of it; but a front where a
-- write has failed or memory has run out
abbrev pub Wrote : SessionEnd → List ℕ → SinkState → SinkState → SessionEnd → Type 0
Wrote due text sink after end.WriteFault = AppendsFront sink.taken after.taken text
Wrote due text sink after end.NoMemory = AppendsFront sink.taken after.taken text
Wrote due text sink after result = (result ≡ due) × (after.taken ≡ appended sink.taken text)

-- where the end of input was met, all that was left was read
abbrev pub IsAtEnd : SessionEnd → SourceState → List ℕ → Type 0
IsAtEnd end.EndOfInput source bytes =
    (all : List ℕ) → source.left ≡ Some all → all ≡ bytes
IsAtEnd due source bytes = Unit {0}

-- a session at this desk: the link before it and after it, as a source and as a sink, how it has
-- ended, and the desk then
pub record IsSession
    (d : DeskState) (source source_after : SourceState) (sink sink_after : SinkState)
    (result : SessionEnd) (e : DeskState) : Type 0 where
  pub raws : List (List ℕ)
  pub bytes : List ℕ
  pub text : List ℕ
  pub last : List ℕ
  pub mid : DeskState
  pub due : SessionEnd
  pub read : ReadsBytes source.left source_after.left (lines_text raws ++ bytes)
  pub leads : LeadTo d raws text mid
  pub ends : EndsBy mid bytes due last e
  pub whole : IsAtEnd due source (lines_text raws ++ bytes)
  pub wrote : Wrote due (text ++ last) sink sink_after result
