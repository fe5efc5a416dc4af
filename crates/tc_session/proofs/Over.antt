-- How sessions end.
use Rattle.std.proofs.Common.{◌≡◌, ℕ, ◌+◌, ◌<◌, ◌≤◌, List, [], ◌∷◌, ◌++◌, Option, Some, None, Result, Ok, Err, OnOk, IsTrue, length, codes, inl, inr, arith, refl, sym, ap, subst, ◌∙◌, append-nil}
use Rattle.std.proofs.lemmas.Option.{same_Some}
use Rattle.std.specs.Result.{IsErrOf}
use Rattle.tc_io.specs.Faults.{CountRises}
use Rattle.tc_io.specs.Flow.{Flow, HandsOn}
use Rattle.tc_io.specs.Sources.{SourceState, ReadsBytes}
use Rattle.tc_io.specs.Sinks.{SinkState, AppendsFront, appended}
use Rattle.tc_io.specs.declared.sinks.SinkFault.{SinkFault}
use Rattle.tc_io.specs.declared.sinks.SinkFault.TheVariants as fault
use Rattle.tc_io.proofs.Flows.{all_handed, appended-nil, both, front-longer, front_taken, kept_first, nothing_handed}
use Rattle.tc_io.proofs.Inputs.{ReadsBytes-none}
use Rattle.tc_desk.specs.Desks.{DeskState}
use Rattle.tc_lines.specs.Lines.{Fills, HasNoBreak, lines_text}
use Rattle.tc_lines.specs.Requests.{BeginsWith}
use Rattle.tc_lines.specs.declared.requests.BadLine.{BadLine}
use Rattle.tc_lines.specs.declared.requests.LineAsk.{LineAsk}
use Rattle.tc_lines.specs.declared.requests.LineAsk.TheVariants.{Quit}
use Rattle.tc_lines.specs.declared.limits.TheConstants.{MOST_LINE}
use Rattle.tc_session.specs.Sessions.{EndsBy, IsAtEnd, Wrote, cut_text}
use Rattle.tc_session.specs.SoFar.{EndIs, Finishes, IsOver, IsSoFar, IsStop, Moment, flow_at}
use Rattle.tc_lines.specs.Replies.{error_line, reply_line}
use Rattle.tc_session.specs.Answers.{Answers, FindsNoMemory, KeepsDesk}
use Rattle.tc_session.proofs.SoFar.{read_on}
use Rattle.tc_session.specs.declared.endings.SessionEnd.{SessionEnd}
use Rattle.tc_session.specs.declared.endings.SessionEnd.TheVariants as end

-- all was written
whole : (text : List ℕ) (s : SinkState) (new : Flow) → new.kept ≡ [] → HandsOn text (record { sink = s; kept = [] }) new (Ok tt)
    → new.sink.taken ≡ appended s.taken text
whole text s new empty hands =
    sym (appended-nil new.sink.taken) ∙ ap (λ l. appended new.sink.taken l) (sym empty)
    ∙ all_handed text (record { sink = s; kept = [] }) new hands ∙ ap (λ o. appended o text) (appended-nil s.taken)

-- a front was written
front : (text : List ℕ) (s : SinkState) (new : Flow) (r : Result (Unit {0}) SinkFault) → HandsOn text (record { sink = s; kept = [] }) new r
    → AppendsFront s.taken new.sink.taken text
front text s new r hands = front_taken text (record { sink = s; kept = [] }) new r hands

-- what was read is all there was, where nothing is left
all_read : (left rest : Option (List ℕ)) (bytes all : List ℕ) → ReadsBytes left rest bytes
    → ((more : List ℕ) → rest ≡ Some more → more ≡ []) → left ≡ Some all → all ≡ bytes
all_read None rest bytes all read none is = absurd (cc)
all_read (Some l) rest bytes all read none is =
    sym (same_Some l all is) ∙ read.1 ∙ ap (λ m. bytes ++ m) (none read.0 read.2) ∙ append-nil bytes

-- what was taken, by how the session was due to end and how the writing went
wrote : (due result : SessionEnd) (text : List ℕ) (s : SinkState) (new : Flow) (r : Result (Unit {0}) SinkFault)
    → HandsOn text (record { sink = s; kept = [] }) new r → OnOk r (new.kept ≡ []) → EndIs due r result
    → Wrote due text s new.sink result
wrote due result text s new (Err fault.Failed) hands empty is = subst (Wrote due text s new.sink) (sym is) (front text s new (Err fault.Failed) hands)
wrote due result text s new (Err fault.NoMemory) hands empty is = subst (Wrote due text s new.sink) (sym is) (front text s new (Err fault.NoMemory) hands)
wrote end.Quit result text s new (Ok done) hands empty is = subst (Wrote end.Quit text s new.sink) (sym is) (refl, whole text s new empty hands)
wrote end.EndOfInput result text s new (Ok done) hands empty is = subst (Wrote end.EndOfInput text s new.sink) (sym is) (refl, whole text s new empty hands)
wrote end.ReadFault result text s new (Ok done) hands empty is = subst (Wrote end.ReadFault text s new.sink) (sym is) (refl, whole text s new empty hands)
wrote end.WriteFault result text s new (Ok done) hands empty is = subst (Wrote end.WriteFault text s new.sink) (sym is) (front text s new (Ok done) hands)
wrote end.LineTooLong result text s new (Ok done) hands empty is = subst (Wrote end.LineTooLong text s new.sink) (sym is) (refl, whole text s new empty hands)
wrote end.NoMemory result text s new (Ok done) hands empty is = subst (Wrote end.NoMemory text s new.sink) (sym is) (front text s new (Ok done) hands)

-- an end that wasn't due comes of a fault of writing alone
no_read_fault : (due result : SessionEnd) (r : Result (Unit {0}) SinkFault) → EndIs due r result
    → (due ≡ end.ReadFault → ⊥) → result ≡ end.ReadFault → ⊥
no_read_fault due result (Ok done) is not failed = not (sym is ∙ failed)
no_read_fault due result (Err fault.Failed) is not failed = cc
no_read_fault due result (Err fault.NoMemory) is not failed = cc

write_failed : (due result : SessionEnd) (r : Result (Unit {0}) SinkFault) → EndIs due r result
    → (r ≡ Ok tt → due ≡ end.WriteFault → ⊥) → result ≡ end.WriteFault → IsErrOf r fault.Failed
write_failed due result (Ok done) is not failed = absurd (not refl (sym is ∙ failed))
write_failed due result (Err fault.Failed) is not failed = refl
write_failed due result (Err fault.NoMemory) is not failed = absurd (cc)

failed_so : (due result : SessionEnd) (r : Result (Unit {0}) SinkFault) → EndIs due r result
    → IsErrOf r fault.Failed → result ≡ end.WriteFault
failed_so due result (Ok done) is failed = absurd (cc)
failed_so due result (Err fault.Failed) is failed = is
failed_so due result (Err fault.NoMemory) is failed = absurd (cc)

-- a session is over: it was due to end so, with these bytes written last, and all that was kept was
-- written or a fault came amid it
pub over : (from now : Moment) (due result : SessionEnd) (last : List ℕ) (source : SourceState) (old new : Flow) (e : DeskState)
    → (before : IsSoFar from now) → EndsBy now.desk now.held due last e
    → IsAtEnd due from.source (lines_text before.raws ++ now.held) → source ≡ now.source → (due ≡ end.ReadFault → ⊥)
    → old ≡ record { sink = now.sink; kept = now.kept ++ last } → (finishes : Finishes due old new result)
    → (finishes.wrote ≡ Ok tt → due ≡ end.WriteFault → ⊥)
    → IsOver from result source new.sink e
over from now due result last source old new e before ends at_end same not_read is finishes not_write =
    let r = finishes.wrote in
    let start : Flow = record { sink = from.sink; kept = [] } in
    let hands : HandsOn (before.text ++ last) start new r =
    both before.text last start (flow_at now) new r before.handed
    (kept_first last (flow_at now) new r (subst (λ (f : Flow). HandsOn [] f new r) is finishes.hands)) in
    record {
      session = record {
        raws = before.raws;
        bytes = now.held;
        text = before.text;
        last = last;
        mid = now.desk;
        due = due;
        read = subst (λ (s : SourceState). ReadsBytes from.source.left s.left (lines_text before.raws ++ now.held)) (sym same) before.read;
        leads = before.leads;
        ends = ends;
        whole = at_end;
        wrote = wrote due result (before.text ++ last) from.sink new r hands finishes.empty finishes.is;
      };
      reads = record {
        failed = λ failed. absurd (no_read_fault due result r finishes.is not_read failed);
        unfailed = λ _. ap (λ (s : SourceState). s.read_faults) same ∙ before.faults;
      };
      writes = record {
        failed = λ failed. hands.counted.failed (write_failed due result r finishes.is not_write failed);
        unfailed = λ well. hands.counted.unfailed (λ failed. well (failed_so due result r finishes.is failed));
      };
      read_sure = λ sure failed. no_read_fault due result r finishes.is not_read failed;
      write_sure = λ sure failed. hands.sure sure (write_failed due result r finishes.is not_write failed);
    }

stop_ends : (d : DeskState) (held : List ℕ) (result : SessionEnd) → IsStop result → EndsBy d held result [] d
stop_ends d held result (inl is) = subst (λ (r : SessionEnd). EndsBy d held r [] d) (sym is) (refl, refl)
stop_ends d held result (inr is) = subst (λ (r : SessionEnd). EndsBy d held r [] d) (sym is) (inl (refl, refl))

stop_unread : (result : SessionEnd) (source : SourceState) (bytes : List ℕ) → IsStop result → IsAtEnd result source bytes
stop_unread result source bytes (inl is) = subst (λ (r : SessionEnd). IsAtEnd r source bytes) (sym is) tt
stop_unread result source bytes (inr is) = subst (λ (r : SessionEnd). IsAtEnd r source bytes) (sym is) tt

stop_no_read : (result : SessionEnd) → IsStop result → result ≡ end.ReadFault → ⊥
stop_no_read result (inl is) failed = let same = sym is ∙ failed in cc
stop_no_read result (inr is) failed = let same = sym is ∙ failed in cc

-- a write has failed, or memory has run out
pub stopped : (from now : Moment) (result : SessionEnd) (source : SourceState) (new : Flow) (fault : SinkFault)
    → IsSoFar from now → source ≡ now.source → HandsOn [] (flow_at now) new (Err fault)
    → ((due : SessionEnd) → EndIs due (Err fault) result) → IsStop result
    → IsOver from result source new.sink now.desk
stopped from now result source new fault before same hands is stop =
    over from now result result [] source (flow_at now) new now.desk before (stop_ends now.desk now.held result stop)
    (stop_unread result from.source (lines_text before.raws ++ now.held) stop) same (stop_no_read result stop)
    (ap (λ (l : List ℕ). record { sink = now.sink; kept = l }) (sym (append-nil now.kept)))
    (record { wrote = Err fault; hands = hands; empty = tt; is = is result }) (λ well. absurd (cc))

-- memory has run out where nothing is kept
pub no_memory : (from now : Moment) (source : SourceState) (sink : SinkState) → IsSoFar from now → now.kept ≡ [] → source ≡ now.source
    → sink ≡ now.sink → IsOver from end.NoMemory source sink now.desk
no_memory from now source sink before empty same is =
    subst (λ (s : SinkState). IsOver from end.NoMemory source s now.desk) (sym is)
    (over from now end.NoMemory end.NoMemory [] source (flow_at now) (flow_at now) now.desk before (inl (refl, refl)) tt same (λ failed. cc)
    (ap (λ (l : List ℕ). record { sink = now.sink; kept = l }) (sym (append-nil now.kept)))
    (record { wrote = Ok tt; hands = nothing_handed (flow_at now); empty = empty; is = refl }) (λ well failed. cc))

-- memory has run out for more bytes
pub no_room : (from now : Moment) (source : SourceState) (sink : SinkState) → IsSoFar from now → now.kept ≡ [] → source.left ≡ now.source.left
    → source.read_faults ≡ now.source.read_faults → source.sure ≡ now.source.sure → sink ≡ now.sink
    → IsOver from end.NoMemory source sink now.desk
no_room from now source sink before empty left faults sure same =
    no_memory from (record { source = source; sink = sink; held = now.held; kept = now.kept; desk = now.desk }) source sink
    (read_on from now source sink [] now.held before (subst (λ (l : Option (List ℕ)). ReadsBytes now.source.left l []) (sym left) (ReadsBytes-none now.source.left))
    faults sure same (sym (append-nil now.held))) empty refl refl

-- memory has run out, and the replies that are kept are written
pub memory_over : (from now : Moment) (result : SessionEnd) (source : SourceState) (kept : List ℕ) (new : Flow) → IsSoFar from now → source ≡ now.source
    → kept ≡ now.kept → Finishes end.NoMemory (record { sink = now.sink; kept = kept }) new result
    → IsOver from result source new.sink now.desk
memory_over from now result source kept new before same is finishes =
    over from now end.NoMemory result [] source (record { sink = now.sink; kept = kept }) new now.desk before (inl (refl, refl)) tt same (λ failed. cc)
    (ap (λ (l : List ℕ). record { sink = now.sink; kept = l }) (is ∙ sym (append-nil now.kept))) finishes (λ well failed. cc)

-- a line has asked for the end
pub quit_over : (from now : Moment) (asked : Result LineAsk BadLine) (result : SessionEnd) (source : SourceState) (kept rest : List ℕ) (new : Flow) (e : DeskState)
    → IsSoFar from now → BeginsWith now.held asked rest → asked ≡ Ok Quit → e ≡ now.desk → source ≡ now.source
    → kept ≡ now.kept ++ reply_line (codes "bye") → Finishes end.Quit (record { sink = now.sink; kept = kept }) new result
    → IsOver from result source new.sink e
quit_over from now asked result source kept rest new e before begins quits stays same is finishes =
    over from now end.Quit result (reply_line (codes "bye")) source (record { sink = now.sink; kept = kept }) new e before
    ((rest, subst (λ (a : Result LineAsk BadLine). BeginsWith now.held a rest) quits begins), refl, stays) tt same (λ failed. cc)
    (ap (λ (l : List ℕ). record { sink = now.sink; kept = l }) is) finishes (λ well failed. cc)

-- no memory was found for a line
pub none_over : (from now : Moment) (asked : Result LineAsk BadLine) (result : SessionEnd) (source : SourceState) (kept rest : List ℕ) (new : Flow) (e : DeskState)
    → IsSoFar from now → BeginsWith now.held asked rest → FindsNoMemory now.desk asked e → KeepsDesk now.desk e → source ≡ now.source
    → kept ≡ now.kept ++ error_line (codes "no memory") → Finishes end.NoMemory (record { sink = now.sink; kept = kept }) new result
    → IsOver from result source new.sink e
none_over from now asked result source kept rest new e before begins finds keeps same is finishes =
    over from now end.NoMemory result (error_line (codes "no memory")) source (record { sink = now.sink; kept = kept }) new e before
    (inr (inr (asked, rest, begins, finds, keeps, refl))) tt same (λ failed. cc)
    (ap (λ (l : List ℕ). record { sink = now.sink; kept = l }) is) finishes (λ well failed. cc)

longer_front : (result : SessionEnd) (text reply : List ℕ) (s t : SinkState) (r : Result (Unit {0}) SinkFault) → EndIs end.NoMemory r result
    → AppendsFront s.taken t.taken text → Wrote end.NoMemory (text ++ reply) s t result
longer_front result text reply s t (Ok done) is front =
    subst (Wrote end.NoMemory (text ++ reply) s t) (sym is) (front-longer s.taken t.taken text reply front)
longer_front result text reply s t (Err fault.Failed) is front =
    subst (Wrote end.NoMemory (text ++ reply) s t) (sym is) (front-longer s.taken t.taken text reply front)
longer_front result text reply s t (Err fault.NoMemory) is front =
    subst (Wrote end.NoMemory (text ++ reply) s t) (sym is) (front-longer s.taken t.taken text reply front)

-- a line was answered, and its reply found no room
pub unwritten_over : (from now : Moment) (asked : Result LineAsk BadLine) (reply : List ℕ) (result : SessionEnd) (source : SourceState) (kept rest : List ℕ) (new : Flow) (e : DeskState)
    → IsSoFar from now → BeginsWith now.held asked rest → Answers now.desk asked reply e → KeepsDesk now.desk e → source ≡ now.source
    → kept ≡ now.kept → Finishes end.NoMemory (record { sink = now.sink; kept = kept }) new result
    → IsOver from result source new.sink e
unwritten_over from now asked reply result source kept rest new e before begins answers keeps same is finishes =
    let start : Flow = record { sink = from.sink; kept = [] } in
    let r = finishes.wrote in
    let o = memory_over from now result source kept new before same is finishes in
    let hands : HandsOn (before.text ++ []) start new r =
    both before.text [] start (flow_at now) new r before.handed
    (subst (λ (l : List ℕ). HandsOn [] (record { sink = now.sink; kept = l }) new r) is finishes.hands) in
    record {
      session = record {
        raws = before.raws;
        bytes = now.held;
        text = before.text;
        last = reply;
        mid = now.desk;
        due = end.NoMemory;
        read = subst (λ (s : SourceState). ReadsBytes from.source.left s.left (lines_text before.raws ++ now.held)) (sym same) before.read;
        leads = before.leads;
        ends = inr (inl (asked, rest, begins, answers, keeps));
        whole = tt;
        wrote = longer_front result before.text reply from.sink new.sink r finishes.is
            (subst (AppendsFront from.sink.taken new.sink.taken) (append-nil before.text)
            (front (before.text ++ []) from.sink new r hands));
      };
      reads = o.reads;
      writes = o.writes;
      read_sure = o.read_sure;
      write_sure = o.write_sure;
    }

-- a line was too long
pub long_over : (from now : Moment) (result : SessionEnd) (source : SourceState) (kept : List ℕ) (new : Flow) → IsSoFar from now
    → HasNoBreak now.held → length now.held ≡ MOST_LINE + 1 → source ≡ now.source
    → kept ≡ now.kept ++ error_line (codes "line too long") → Finishes end.LineTooLong (record { sink = now.sink; kept = kept }) new result
    → IsOver from result source new.sink now.desk
long_over from now result source kept new before none long same is finishes =
    over from now end.LineTooLong result (error_line (codes "line too long")) source (record { sink = now.sink; kept = kept }) new now.desk before
    (none, long, refl, refl) tt same (λ failed. cc) (ap (λ (l : List ℕ). record { sink = now.sink; kept = l }) is) finishes (λ well failed. cc)

-- a read has failed where nothing is kept
pub read_failed : (from now : Moment) (source : SourceState) (sink : SinkState) → IsSoFar from now → now.kept ≡ [] → source.left ≡ now.source.left
    → CountRises now.source.read_faults source.read_faults → (IsTrue now.source.sure → ⊥) → sink ≡ now.sink
    → HasNoBreak now.held → length now.held ≤ MOST_LINE → IsOver from end.ReadFault source sink now.desk
read_failed from now source sink before empty left rises unsure is clear few =
    subst (λ (s : SinkState). IsOver from end.ReadFault source s now.desk) (sym is) (record {
      session = record {
        raws = before.raws;
        bytes = now.held;
        text = before.text;
        last = [];
        mid = now.desk;
        due = end.ReadFault;
        read = subst (λ (l : Option (List ℕ)). ReadsBytes from.source.left l (lines_text before.raws ++ now.held)) (sym left) before.read;
        leads = before.leads;
        ends = (clear, few, refl, refl);
        whole = tt;
        wrote = (refl, whole before.text from.sink (flow_at now) empty before.handed ∙ ap (λ l. appended from.sink.taken l) (sym (append-nil before.text)));
      };
      reads = record {
        failed = λ _. subst (λ n. CountRises n source.read_faults) before.faults rises;
        unfailed = λ well. absurd (well refl);
      };
      writes = record {
        failed = λ failed. absurd (cc);
        unfailed = λ _. before.handed.counted.unfailed (λ failed. cc);
      };
      read_sure = λ sure _. unsure (subst (λ b. IsTrue b) (sym before.sure) sure);
      write_sure = λ sure failed. cc;
    })

-- the input is at its end
pub input_ended : (from now : Moment) (result : SessionEnd) (source : SourceState) (new : Flow) → IsSoFar from now
    → ((all : List ℕ) → now.source.left ≡ Some all → all ≡ []) → HasNoBreak now.held → length now.held ≤ MOST_LINE → source ≡ now.source
    → Finishes end.EndOfInput (record { sink = now.sink; kept = now.kept ++ cut_text now.held }) new result
    → IsOver from result source new.sink now.desk
input_ended from now result source new before end_met none few same finishes =
    over from now end.EndOfInput result (cut_text now.held) source (record { sink = now.sink; kept = now.kept ++ cut_text now.held }) new now.desk before
    (none, few, refl, refl)
    (λ all is. all_read from.source.left now.source.left (lines_text before.raws ++ now.held) all before.read end_met is)
    same (λ failed. cc) refl finishes (λ well failed. cc)

no_front : (bytes rest : List ℕ) → [] ≡ bytes ++ rest → rest ≡ []
no_front [] rest is = sym is
no_front (b ∷ bytes) rest is = absurd (cc)

no_bytes : (bytes : List ℕ) → length bytes ≡ 0 → bytes ≡ []
no_bytes [] none = refl
no_bytes (b ∷ bytes) none = absurd (omega (arith, none))

-- nothing is left where nothing was read
at_end : (left rest : Option (List ℕ)) (n : ℕ) (old new : List ℕ) → Fills left rest n old new → n ≡ 0
    → (all : List ℕ) → rest ≡ Some all → all ≡ []
at_end None rest n old new fills none all is = let read : rest ≡ None = fills.read in absurd (cc)
at_end (Some l) rest n old new fills none all is =
    let read = fills.read in
    let behind : all ≡ read.0 = same_Some all read.0 (sym is ∙ read.2) in
    behind ∙ no_front fills.bytes read.0 (sym ((fills.end l refl).0 none) ∙ read.1)

-- a read has met the end of the input
pub input_over : (from now : Moment) (n : ℕ) (result : SessionEnd) (source after : SourceState) (sink : SinkState) (held : List ℕ) (new : Flow) → IsSoFar from now
    → Fills now.source.left source.left n now.held held → n ≡ 0 → source.read_faults ≡ now.source.read_faults → source.sure ≡ now.source.sure
    → sink ≡ now.sink → HasNoBreak now.held → length now.held ≤ MOST_LINE → after ≡ source
    → Finishes end.EndOfInput (record { sink = sink; kept = now.kept ++ cut_text held }) new result
    → IsOver from result after new.sink now.desk
input_over from now n result source after sink held new before fills none faults sure same clear few is finishes =
    let stays : held ≡ now.held = fills.behind ∙ ap (λ l. now.held ++ l) (no_bytes fills.bytes (fills.count ∙ none)) ∙ append-nil now.held in
    input_ended from (record { source = source; sink = sink; held = held; kept = now.kept; desk = now.desk }) result after new
    (read_on from now source sink fills.bytes held before fills.read faults sure same fills.behind)
    (at_end now.source.left source.left n now.held held fills none)
    (subst (λ (l : List ℕ). HasNoBreak l) (sym stays) clear) (subst (λ (l : List ℕ). length l ≤ MOST_LINE) (sym stays) few) is finishes

-- what is written of bytes that no LF ends
pub cut_some : (held : List ℕ) → 0 < length held → cut_text held ≡ error_line (codes "line cut")
cut_some [] some = absurd (omega (arith, some))
cut_some (b ∷ bytes) some = refl

pub cut_none : (held : List ℕ) → (0 < length held → ⊥) → cut_text held ≡ []
cut_none [] none = refl
cut_none (b ∷ bytes) none = absurd (none (omega arith))
