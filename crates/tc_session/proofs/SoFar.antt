-- A session, as it goes on.
use Rattle.std.proofs.Common.{◌≡◌, ℕ, List, [], ◌∷◌, ◌++◌, Option, Some, None, Result, Ok, refl, sym, ap, subst, ◌∙◌, append-nil, append_assoc}
use Rattle.std.proofs.lemmas.Option.{same_Some}
use Rattle.tc_io.specs.Flow.{Flow, HandsOn}
use Rattle.tc_io.specs.Sinks.{SinkState}
use Rattle.tc_io.specs.Sources.{SourceState, ReadsBytes}
use Rattle.tc_io.proofs.Flows.{both, kept_first, nothing_handed}
use Rattle.tc_io.proofs.Inputs.{ReadsBytes-none}
use Rattle.tc_desk.specs.Desks.{DeskState}
use Rattle.tc_lines.specs.Lines.{lines_text}
use Rattle.tc_lines.specs.Requests.{BeginsWith}
use Rattle.tc_lines.specs.declared.requests.BadLine.{BadLine}
use Rattle.tc_lines.specs.declared.requests.LineAsk.{LineAsk}
use Rattle.tc_session.specs.Answers.{Answers, KeepsDesk}
use Rattle.tc_session.specs.SoFar.{IsSoFar, Moment, flow_at}
use Rattle.tc_session.proofs.Leads.{leads_more, lines_more}

-- bytes that were read behind others
read_both : (old mid new : Option (List ℕ)) (bytes more : List ℕ) → ReadsBytes old mid bytes → ReadsBytes mid new more
    → ReadsBytes old new (bytes ++ more)
read_both None None new bytes more first second = second
read_both None (Some rest) new bytes more first second = absurd (cc)
read_both (Some left) None new bytes more first second = let impossible = first.2 in absurd (cc)
read_both (Some left) (Some rest) new bytes more first second =
    let same : rest ≡ first.0 = same_Some rest first.0 first.2 in
    (second.0, first.1 ∙ ap (λ l. bytes ++ l) (sym same ∙ second.1) ∙ sym (append_assoc bytes more second.0), second.2)

-- all replies were written
pub flushed : (from now : Moment) (source : SourceState) (sink : SinkState) (kept after : List ℕ) → IsSoFar from now → source ≡ now.source
    → HandsOn [] (flow_at now) (record { sink = sink; kept = kept }) (Ok tt) → after ≡ kept
    → IsSoFar from (record { source = source; sink = sink; held = now.held; kept = after; desk = now.desk })
flushed from now source sink kept after before same hands is =
    let start : Flow = record { sink = from.sink; kept = [] } in
    let new : Flow = record { sink = sink; kept = kept } in
    record {
      raws = before.raws;
      text = before.text;
      read = subst (λ (s : SourceState). ReadsBytes from.source.left s.left (lines_text before.raws ++ now.held)) (sym same) before.read;
      faults = ap (λ (s : SourceState). s.read_faults) same ∙ before.faults;
      sure = ap (λ (s : SourceState). s.sure) same ∙ before.sure;
      leads = before.leads;
      handed = subst (λ (l : List ℕ). HandsOn before.text start (record { sink = sink; kept = l }) (Ok tt)) (sym is)
          (subst (λ t. HandsOn t start new (Ok tt)) (append-nil before.text) (both before.text [] start (flow_at now) new (Ok tt) before.handed hands));
    }

-- more bytes were read
pub read_on : (from now : Moment) (source : SourceState) (sink : SinkState) (bytes held : List ℕ) → IsSoFar from now
    → ReadsBytes now.source.left source.left bytes → source.read_faults ≡ now.source.read_faults → source.sure ≡ now.source.sure
    → sink ≡ now.sink → held ≡ now.held ++ bytes
    → IsSoFar from (record { source = source; sink = sink; held = held; kept = now.kept; desk = now.desk })
read_on from now source sink bytes held before read faults sure same is = record {
  raws = before.raws;
  text = before.text;
  read = subst (ReadsBytes from.source.left source.left)
      (append_assoc (lines_text before.raws) now.held bytes ∙ ap (λ l. lines_text before.raws ++ l) (sym is))
      (read_both from.source.left now.source.left source.left (lines_text before.raws ++ now.held) bytes before.read read);
  faults = faults ∙ before.faults;
  sure = sure ∙ before.sure;
  leads = before.leads;
  handed = subst (λ (s : SinkState). HandsOn before.text (record { sink = from.sink; kept = [] }) (record { sink = s; kept = now.kept }) (Ok tt)) (sym same) before.handed;
}

-- a line was answered
pub answered : (from now : Moment) (asked : Result LineAsk BadLine) (reply rest kept : List ℕ) (e : DeskState) → IsSoFar from now
    → BeginsWith now.held asked rest → Answers now.desk asked reply e → KeepsDesk now.desk e → kept ≡ now.kept ++ reply
    → IsSoFar from (record { source = now.source; sink = now.sink; held = rest; kept = kept; desk = e })
answered from now asked reply rest kept e before begins answers keeps is =
    let start : Flow = record { sink = from.sink; kept = [] } in
    let new : Flow = record { sink = now.sink; kept = kept } in
    let more : Flow = record { sink = now.sink; kept = now.kept ++ reply } in
    let hands : HandsOn [] more new (Ok tt) = subst (λ (l : List ℕ). HandsOn [] (record { sink = now.sink; kept = l }) new (Ok tt)) is (nothing_handed new) in
    record {
      raws = before.raws ++ begins.raw ∷ [];
      text = before.text ++ reply;
      read = subst (ReadsBytes from.source.left now.source.left)
          (ap (λ l. lines_text before.raws ++ l) begins.is ∙ lines_more before.raws begins.raw rest) before.read;
      faults = before.faults;
      sure = before.sure;
      leads = leads_more from.desk before.raws before.text now.desk begins.raw asked reply e before.leads begins.asks answers keeps;
      handed = both before.text reply start (flow_at now) new (Ok tt) before.handed (kept_first reply (flow_at now) new (Ok tt) hands);
    }

-- a session begins
pub begins : (source : SourceState) (sink : SinkState) (d : DeskState) (held kept : List ℕ) → held ≡ [] → kept ≡ []
    → IsSoFar (record { source = source; sink = sink; held = []; kept = []; desk = d }) (record { source = source; sink = sink; held = held; kept = kept; desk = d })
begins source sink d held kept none empty = record {
  raws = [];
  text = [];
  read = subst (ReadsBytes source.left source.left) (sym none) (ReadsBytes-none source.left);
  faults = refl;
  sure = refl;
  leads = (refl, refl);
  handed = subst (λ (l : List ℕ). HandsOn [] (record { sink = sink; kept = [] }) (record { sink = sink; kept = l }) (Ok tt)) (sym empty)
      (nothing_handed (record { sink = sink; kept = [] }));
}
