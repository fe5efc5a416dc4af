-- Logs of desks that have ended agree with the histories of the centres, once these are closed.
use Rattle.std.proofs.Common.{◌≡◌, ℕ, ◌+◌, ◌<◌, ◌≤◌, false, List, [], ◌++◌, Some, All, length, map, sym, ap, ◌∙◌, subst, arith}
use Rattle.std.specs.List.{slice_get, AllZip}
use Rattle.std.proofs.lemmas.List.{append-nil, append_cancel_left, length-map}
use Rattle.std.proofs.lemmas.List.Elements.{All-nil, filter-append}
use Rattle.std.proofs.lemmas.Option.{same_Some}
use Rattle.std.proofs.lemmas.Slice.Zip.{AllZip-long}
use Rattle.tc_centre.specs.Centre.{Centre}
use Rattle.tc_desk.specs.Agreeing.{Agrees, AreLonger, HasRow, IsLonger}
use Rattle.tc_desk.specs.declared.rows.LogRow.{LogRow}
use Rattle.tc_desk.proofs.Growing.{Agrees-longer}
use Rattle.tc_lists.proofs.Elements.{All-slice_get, All-from_slice_get}
use Rattle.tc_model.specs.Calls.{id_of, is_call_of, calls_of}
use Rattle.tc_model.specs.State.{Origin}
use Rattle.tc_model.specs.declared.entries.Entry.{Entry}
use Rattle.tc_shared.specs.Passes.{IsAtRest}
use Rattle.tc_turn.specs.Passes.{TurnstileState, PassState}
use Rattle.tc_site.specs.Columns.{AreClosedFrom, AreColumns, IsClosedAt, IsSeenBy}
use Rattle.tc_site.specs.Sites.{SiteState, EndedDeskState, AllAgree, AreClosed, AreOfSite, ArePasses, AgreesSeen, HasPasses, IsEndedDesk, IsSite, PendsBehind, core_histories, histories_of, origins_of}
use Rattle.tc_lists.proofs.Sets.{slice_get-as_long, slice_get-map_at, slice_get-map_from}
use Rattle.tc_lists.proofs.Zips.{AllZip-slice_get}
use Rattle.tc_site.proofs.Taken.{closed-at, closed-origins}

-- the agent has made nothing behind what its pass has seen
none-behind : (agent : ℕ) (seen more history : List Entry) → seen ++ more ≡ history → calls_of agent history ≡ calls_of agent seen → calls_of agent more ≡ []
none-behind agent seen more history grown mine =
    append_cancel_left (calls_of agent seen) (calls_of agent more) []
    (sym (filter-append (is_call_of agent) seen more) ∙ ap (calls_of agent) grown ∙ mine ∙ sym (append-nil (calls_of agent seen)))

pub longer-seen : (agent top : ℕ) (p : PassState Entry Origin) (history : List Entry) → IsSeenBy history agent p → IsLonger agent top p.seen history
longer-seen agent top p history seen = record {
  more = seen.seen.0;
  grown = sym seen.seen.1;
  above = subst (All (λ (e : Entry). top < (id_of e).number)) (sym (none-behind agent p.seen seen.seen.0 history seen.seen.1 seen.mine))
      (All-nil (λ (e : Entry). top < (id_of e).number));
}

-- the log of a desk that has ended agrees with the histories that are left
module _ (origins : List Origin) (names : List (List ℕ)) (columns : List (List (PassState Entry Origin))) (ts : List (TurnstileState Origin)) (cores : List Centre)
    (closed : AreClosedFrom columns 0 ts cores) (agent : ℕ) (column : List (PassState Entry Origin)) (at : slice_get columns agent ≡ Some column)
    (wide : length column ≡ length ts) where
  -- the pass of the agent at the place of a history
  seen-at : (place : ℕ) (history : List Entry) → slice_get (map (λ (x : Centre). x.history) cores) place ≡ Some history
      → (p : PassState Entry Origin) × (slice_get column place ≡ Some p) × IsSeenBy history agent p
  seen-at place history there =
      let x = slice_get-map_from (λ (y : Centre). y.history) cores place history there in
      let t = closed-at columns 0 ts cores closed place x.0 x.1 in
      let p = slice_get-as_long ts column place t.0 wide t.1 in
      let same : 0 + place ≡ place = omega arith in
      let here : IsClosedAt columns place t.0 x.0 = subst (λ n. IsClosedAt columns n t.0 x.0) same t.2 in
      (p.0, p.1, subst (λ h. IsSeenBy h agent p.0) x.2 (here.each agent column p.0 at p.1))

  cores-count : length cores ≡ length ts
  cores-count =
      sym (length-map cores (λ (x : Centre). x.origin)) ∙ ap length (closed-origins columns 0 ts cores closed)
      ∙ length-map ts (λ (t : TurnstileState Origin). t.origin)

  are-longer : (top : ℕ) → AreLonger agent top (histories_of column) (map (λ (x : Centre). x.history) cores)
  are-longer top = record {
    whole = length-map cores (λ (x : Centre). x.history) ∙ cores-count ∙ sym wide ∙ sym (length-map column (λ (p : PassState Entry Origin). p.seen));
    each = λ place old new was now.
        let q = slice_get-map_from (λ (p : PassState Entry Origin). p.seen) column place old was in
        let got = seen-at place new now in
        let same : got.0 ≡ q.0 = same_Some got.0 q.0 (sym got.1 ∙ q.1) in
        subst (λ h. IsLonger agent top h new) (ap (λ (p : PassState Entry Origin). p.seen) same ∙ q.2)
        (longer-seen agent top got.0 new got.2);
  }

  pub agrees-left : (log : List LogRow) → Agrees origins names (histories_of column) agent log
      → Agrees origins names (map (λ (x : Centre). x.history) cores) agent log
  agrees-left log agrees =
      Agrees-longer origins names (histories_of column) (map (λ (x : Centre). x.history) cores) agent log agrees (are-longer (length log))
      (λ place centre history named there.
      let got = seen-at place history there in
      subst (All (HasRow log centre)) (sym got.2.mine)
      (agrees.calls place centre got.0.seen named (slice_get-map_at (λ (p : PassState Entry Origin). p.seen) column place got.0 got.1)))

module _ {W : Type 0} (s : SiteState W) (es : List (EndedDeskState W)) (columns : List (List (PassState Entry Origin)))
    (every : AreOfSite (λ (e : EndedDeskState W). e.site) (λ (e : EndedDeskState W). e.agent) s es)
    (zip : AllZip (λ (e : EndedDeskState W) (passes : List (PassState Entry Origin)). IsEndedDesk e passes) es columns) where
  pub columns-count : length columns ≡ length s.roles
  columns-count = AllZip-long (λ (e : EndedDeskState W) (passes : List (PassState Entry Origin)). IsEndedDesk e passes) es columns zip ∙ every.whole

  -- the passes of an agent, which its desk has left
  passes-at : (agent : ℕ) (column : List (PassState Entry Origin)) → slice_get columns agent ≡ Some column
      → ArePasses agent s.centres column × All (λ (p : PassState Entry Origin). p.holds ≡ false) column
  passes-at agent column at =
      let e = AllZip-slice_get (λ (d : EndedDeskState W) (passes : List (PassState Entry Origin)). IsEndedDesk d passes) es columns agent column zip at in
      let is = every.each agent e.0 e.1 in (
        subst (λ n. ArePasses n s.centres column) is.1 (subst (λ (t : SiteState W). ArePasses e.0.agent t.centres column) is.0 e.2.are),
        e.2.free,
      )

  pub are-columns : AreColumns s.centres columns
  are-columns = record { are = λ agent column at. (passes-at agent column at).0; free = λ agent column at. (passes-at agent column at).1 }

  pub all-have : IsSite s.names s.centres s.roles → All (HasPasses (length columns)) s.centres
  all-have site = subst (λ n. All (HasPasses n) s.centres) (sym columns-count) site.passes

  pub all-agree : (cores : List Centre) (logs : List (List LogRow)) → AreClosedFrom columns 0 s.centres cores → logs ≡ map (λ (e : EndedDeskState W). e.log) es
      → AllAgree s.names cores logs
  all-agree cores logs closed are agent log at =
      let e = slice_get-map_from (λ (d : EndedDeskState W). d.log) es agent log (subst (λ ls. slice_get ls agent ≡ Some log) are at) in
      let column = slice_get-as_long es columns agent e.0 (columns-count ∙ sym every.whole) e.1 in
      let d = AllZip-slice_get (λ (d : EndedDeskState W) (passes : List (PassState Entry Origin)). IsEndedDesk d passes) es columns agent column.0 zip column.1 in
      let is = every.each agent d.0 d.1 in
      let log_is : d.0.log ≡ log = ap (λ (f : EndedDeskState W). f.log) (same_Some d.0 e.0 (sym d.1 ∙ e.1)) ∙ e.2 in
      let agrees : AgreesSeen s.centres s.names column.0 agent log =
      subst (λ l. AgreesSeen s.centres s.names column.0 agent l) log_is
      (subst (λ n. AgreesSeen s.centres s.names column.0 n d.0.log) is.1
      (subst (λ (t : SiteState W). AgreesSeen t.centres t.names column.0 d.0.agent d.0.log) is.0 d.2.agrees)) in
      subst (λ os. Agrees os s.names (core_histories cores) agent log) (sym (closed-origins columns 0 s.centres cores closed))
      (agrees-left (origins_of s.centres) s.names columns s.centres cores closed agent column.0 column.1 ((passes-at agent column.0 column.1).0.wide) log agrees)

  -- no row behind one that is pending was served
  pub all-pend : (logs : List (List LogRow)) → logs ≡ map (λ (e : EndedDeskState W). e.log) es → All PendsBehind logs
  all-pend logs are =
      All-from_slice_get PendsBehind logs
      (λ agent log at.
      let e = slice_get-map_from (λ (d : EndedDeskState W). d.log) es agent log (subst (λ ls. slice_get ls agent ≡ Some log) are at) in
      let column = slice_get-as_long es columns agent e.0 (columns-count ∙ sym every.whole) e.1 in
      let d = AllZip-slice_get (λ (d : EndedDeskState W) (passes : List (PassState Entry Origin)). IsEndedDesk d passes) es columns agent column.0 zip column.1 in
      subst PendsBehind (ap (λ (f : EndedDeskState W). f.log) (same_Some d.0 e.0 (sym d.1 ∙ e.1)) ∙ e.2) d.2.pends)

  pub are-closed : (cores : List Centre) → AreClosedFrom columns 0 s.centres cores → AreClosed s cores
  are-closed cores closed = record {
    origins = closed-origins columns 0 s.centres cores closed;
    rest = All-from_slice_get (λ (x : Centre). IsAtRest x.origin x.history) cores
        (λ k x at. (closed-at columns 0 s.centres cores closed k x at).2.left.rest);
  }

  pub others-none : (cores : List Centre) → AreClosedFrom columns 0 s.centres cores → IsSite s.names s.centres s.roles → (agent : ℕ) → length s.roles ≤ agent
      → All (λ (x : Centre). calls_of agent x.history ≡ []) cores
  others-none cores closed site agent past =
      All-from_slice_get (λ (x : Centre). calls_of agent x.history ≡ []) cores
      (λ k x at.
      let t = closed-at columns 0 s.centres cores closed k x at in
      let have = All-slice_get (HasPasses (length s.roles)) s.centres k t.0 site.passes t.1 in
      t.2.left.others agent (subst (λ n. n ≤ agent) (sym have.passes) past))
