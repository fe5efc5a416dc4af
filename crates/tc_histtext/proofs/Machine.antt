-- The machine takes the beginnings of the lines of texts, and no other lines.
use Rattle.std.proofs.Common.{◌≡◌, ℕ, suc, ◌+◌, if◌then◌else◌, Bool, List, [], ◌∷◌, ◌++◌, map, length, Some, None, Option, refl, sym, ap, subst, ◌∙◌, arith, append_assoc}
use Rattle.std.specs.List.{flat_map}
use Rattle.std.specs.Str.{bytes_eq}
use Rattle.std.proofs.lemmas.Slice.Eq.{bytes_eq-Decides}
use Rattle.std.proofs.lemmas.Option.{none-some, same_Some, cond_some}
use Rattle.tc_model.specs.declared.entries.Entry.{Entry}
use Rattle.tc_model.specs.declared.entries.Entry.TheVariants.{Called, Gave, Looked}
use Rattle.tc_model.specs.declared.items.Item.{Item}
use Rattle.tc_histtext.specs.Machine.{Stage, Start, Before, Within, Reacting, Telling, Done, if_same, centre_head, agent_head, where_none_is_left, after_entry, heading, in_history, behind_entry, in_log, at_start, next, go_on, takes, AreLogs, AreHistories, AreEntries, AreReactions, AreRows, AreAll, IsBareEntry, IsBare, AreBare, Rest}
use Rattle.tc_histtext.specs.ReadTexts.{entry_lines, histories_lines, logs_lines}
use Rattle.tc_histline.specs.declared.lines.Line.{Line}
use Rattle.tc_histline.specs.declared.lines.Line.TheVariants.{First, Centre, Agent, Reaction, Row, End}
use Rattle.tc_histline.specs.declared.lines.Line.TheVariants as line
use Rattle.tc_histline.specs.declared.lines.TextRow.{TextRow}

pub if_same-some : (n m : List ℕ) (s t : Stage) → if_same n m s ≡ Some t → (n ≡ m) × (s ≡ t)
if_same-some n m s t e = let both = cond_some (bytes_eq n m) s t e in ((bytes_eq-Decides n m).0 both.0, both.1)

-- no name is left, and nothing else may come
none_left-some : (left : List (List ℕ)) (o : Option Stage) (t : Stage) → where_none_is_left left o ≡ Some t → (left ≡ []) × (o ≡ Some t)
none_left-some [] o t e = (refl, e)
none_left-some (m ∷ ms) o t e = absurd (none-some t e)

module _ (centres agents : List (List ℕ)) where
  -- one line before what a text has from the next stage on
  agent_head-rest : (left : List (List ℕ)) (n : List ℕ) (t : Stage) (ls : List Line) → agent_head left n ≡ Some t → Rest centres agents t ls → AreLogs centres agents left (Agent n ∷ ls)
  agent_head-rest [] n t ls e rest = absurd (none-some t e)
  agent_head-rest (m ∷ ms) n t ls e rest =
      let both = if_same-some n m (Telling ms) t e in
      let rows : AreRows centres agents ms ls = subst (λ s. Rest centres agents s ls) (sym both.1) rest in
      record {
        logs = rows.rows ∷ rows.logs.logs;
        end = rows.logs.end;
        whole = ap suc rows.logs.whole;
        lines = ap (λ k. Agent k ∷ ls) both.0
            ∙ ap (λ l. Agent m ∷ l) (rows.lines ∙ (ap (λ l. map Row rows.rows ++ l) rows.logs.lines
            ∙ sym (append_assoc (map Row rows.rows) (logs_lines ms rows.logs.logs) (End rows.logs.end ∷ []))));
      }

  end-rest : (left : List (List ℕ)) (b : Bool) (t : Stage) (ls : List Line) → where_none_is_left left (Some Done) ≡ Some t → Rest centres agents t ls → AreLogs centres agents left (End b ∷ ls)
  end-rest [] b t ls e rest =
      let none : ls ≡ [] = subst (λ s. Rest centres agents s ls) (sym (same_Some Done t e)) rest in
      record { logs = []; end = b; whole = refl; lines = ap (λ l. End b ∷ l) none }
  end-rest (m ∷ ms) b t ls e rest = absurd (none-some t e)

  centre_head-rest : (left : List (List ℕ)) (n : List ℕ) (t : Stage) (ls : List Line) → centre_head left n ≡ Some t → Rest centres agents t ls → AreHistories centres agents left (Centre n ∷ ls)
  centre_head-rest [] n t ls e rest = absurd (none-some t e)
  centre_head-rest (m ∷ ms) n t ls e rest =
      let both = if_same-some n m (Within ms) t e in
      let es : AreEntries centres agents ms ls = subst (λ s. Rest centres agents s ls) (sym both.1) rest in
      record {
        histories = es.entries ∷ es.histories.histories;
        whole = ap suc es.histories.whole;
        rest = es.histories.rest;
        logs = es.histories.logs;
        lines = ap (λ k. Centre k ∷ ls) both.0
            ∙ ap (λ l. Centre m ∷ l) (es.lines ∙ (ap (λ l. flat_map entry_lines es.entries ++ l) es.histories.lines
            ∙ sym (append_assoc (flat_map entry_lines es.entries) (histories_lines ms es.histories.histories) es.histories.rest)));
      }

  -- no centre is left, and then logs
  pub no_centre : (ls : List Line) → AreLogs centres agents agents ls → AreHistories centres agents [] ls
  no_centre ls logs = record { histories = []; whole = refl; rest = ls; logs = logs; lines = refl }

  heading-rest : (left : List (List ℕ)) (l : Line) (t : Stage) (ls : List Line) → heading centres agents left l ≡ Some t → Rest centres agents t ls → AreHistories centres agents left (l ∷ ls)
  heading-rest left (Centre n) t ls e rest = centre_head-rest left n t ls e rest
  heading-rest [] (Agent n) t ls e rest = no_centre (Agent n ∷ ls) (agent_head-rest agents n t ls e rest)
  heading-rest (m ∷ ms) (Agent n) t ls e rest = absurd (none-some t e)
  heading-rest [] (End b) t ls e rest = no_centre (End b ∷ ls) (end-rest agents b t ls e rest)
  heading-rest (m ∷ ms) (End b) t ls e rest = absurd (none-some t e)
  heading-rest left (First v) t ls e rest = absurd (none-some t e)
  heading-rest left (line.Entry d) t ls e rest = absurd (none-some t e)
  heading-rest left (Reaction i) t ls e rest = absurd (none-some t e)
  heading-rest left (Row r) t ls e rest = absurd (none-some t e)

  pub no_entry : (left : List (List ℕ)) (ls : List Line) → AreHistories centres agents left ls → AreEntries centres agents left ls
  no_entry left ls hs = record { entries = []; rest = ls; histories = hs; lines = refl }

  abbrev pub no_reaction : (left : List (List ℕ)) (ls : List Line) → AreEntries centres agents left ls → AreReactions centres agents left ls
  no_reaction left ls es = record { items = []; rest = ls; entries = es; lines = refl }

  -- an entry and its reactions before others
  before_entries : (left : List (List ℕ)) (d : Line) (e : Entry) (ls : List Line) (rs : AreReactions centres agents left ls)
      → entry_lines e ≡ d ∷ map Reaction rs.items → AreEntries centres agents left (d ∷ ls)
  before_entries left d e ls rs is = record {
    entries = e ∷ rs.entries.entries;
    rest = rs.entries.rest;
    histories = rs.entries.histories;
    lines = ap (λ l. d ∷ l) (rs.lines ∙ ap (λ l. map Reaction rs.items ++ l) rs.entries.lines)
        ∙ (ap (λ l. l ++ (flat_map entry_lines rs.entries.entries ++ rs.entries.rest)) (sym is)
        ∙ sym (append_assoc (entry_lines e) (flat_map entry_lines rs.entries.entries) rs.entries.rest));
  }

  entry-rest : (left : List (List ℕ)) (d : Entry) (ls : List Line) → IsBareEntry d → Rest centres agents (after_entry left d) ls → AreEntries centres agents left (line.Entry d ∷ ls)
  entry-rest left (Called id op o items) ls is rs =
      before_entries left (line.Entry (Called id op o items)) (Called id op o rs.items) ls rs (ap (λ x. line.Entry (Called id op o x) ∷ map Reaction rs.items) (sym is))
  entry-rest left (Gave id o items) ls is rs =
      before_entries left (line.Entry (Gave id o items)) (Gave id o rs.items) ls rs (ap (λ x. line.Entry (Gave id o x) ∷ map Reaction rs.items) (sym is))
  entry-rest left (Looked id asked told) ls is es =
      before_entries left (line.Entry (Looked id asked told)) (Looked id asked told) ls (no_reaction left ls es) refl

  in_history-rest : (left : List (List ℕ)) (l : Line) (t : Stage) (ls : List Line) → IsBare l → in_history centres agents left l ≡ Some t → Rest centres agents t ls → AreEntries centres agents left (l ∷ ls)
  in_history-rest left (line.Entry d) t ls is e rest = entry-rest left d ls is (subst (λ s. Rest centres agents s ls) (sym (same_Some (after_entry left d) t e)) rest)
  in_history-rest left (Centre n) t ls is e rest = no_entry left (Centre n ∷ ls) (heading-rest left (Centre n) t ls e rest)
  in_history-rest left (Agent n) t ls is e rest = no_entry left (Agent n ∷ ls) (heading-rest left (Agent n) t ls e rest)
  in_history-rest left (End b) t ls is e rest = no_entry left (End b ∷ ls) (heading-rest left (End b) t ls e rest)
  in_history-rest left (First v) t ls is e rest = absurd (none-some t e)
  in_history-rest left (Reaction i) t ls is e rest = absurd (none-some t e)
  in_history-rest left (Row r) t ls is e rest = absurd (none-some t e)

  behind_entry-rest : (left : List (List ℕ)) (l : Line) (t : Stage) (ls : List Line) → IsBare l → behind_entry centres agents left l ≡ Some t → Rest centres agents t ls → AreReactions centres agents left (l ∷ ls)
  behind_entry-rest left (Reaction i) t ls is e rest =
      let rs : AreReactions centres agents left ls = subst (λ s. Rest centres agents s ls) (sym (same_Some (Reacting left) t e)) rest in
      record { items = i ∷ rs.items; rest = rs.rest; entries = rs.entries; lines = ap (λ l. Reaction i ∷ l) rs.lines }
  behind_entry-rest left (line.Entry d) t ls is e rest = no_reaction left (line.Entry d ∷ ls) (in_history-rest left (line.Entry d) t ls is e rest)
  behind_entry-rest left (Centre n) t ls is e rest = no_reaction left (Centre n ∷ ls) (in_history-rest left (Centre n) t ls is e rest)
  behind_entry-rest left (Agent n) t ls is e rest = no_reaction left (Agent n ∷ ls) (in_history-rest left (Agent n) t ls is e rest)
  behind_entry-rest left (End b) t ls is e rest = no_reaction left (End b ∷ ls) (in_history-rest left (End b) t ls is e rest)
  behind_entry-rest left (First v) t ls is e rest = absurd (none-some t e)
  behind_entry-rest left (Row r) t ls is e rest = absurd (none-some t e)

  pub no_row : (left : List (List ℕ)) (ls : List Line) → AreLogs centres agents left ls → AreRows centres agents left ls
  no_row left ls logs = record { rows = []; rest = ls; logs = logs; lines = refl }

  in_log-rest : (left : List (List ℕ)) (l : Line) (t : Stage) (ls : List Line) → in_log centres agents left l ≡ Some t → Rest centres agents t ls → AreRows centres agents left (l ∷ ls)
  in_log-rest left (Row r) t ls e rest =
      let rs : AreRows centres agents left ls = subst (λ s. Rest centres agents s ls) (sym (same_Some (Telling left) t e)) rest in
      record { rows = r ∷ rs.rows; rest = rs.rest; logs = rs.logs; lines = ap (λ l. Row r ∷ l) rs.lines }
  in_log-rest left (Agent n) t ls e rest = no_row left (Agent n ∷ ls) (agent_head-rest left n t ls e rest)
  in_log-rest left (End b) t ls e rest = no_row left (End b ∷ ls) (end-rest left b t ls e rest)
  in_log-rest left (First v) t ls e rest = absurd (none-some t e)
  in_log-rest left (Centre n) t ls e rest = absurd (none-some t e)
  in_log-rest left (line.Entry d) t ls e rest = absurd (none-some t e)
  in_log-rest left (Reaction i) t ls e rest = absurd (none-some t e)

  at_start-rest : (l : Line) (t : Stage) (ls : List Line) → at_start centres agents l ≡ Some t → Rest centres agents t ls → AreAll centres agents (l ∷ ls)
  at_start-rest (First v) t ls e rest =
      record { version = v; rest = ls; histories = subst (λ s. Rest centres agents s ls) (sym (same_Some (Before centres) t e)) rest; lines = refl }
  at_start-rest (Centre n) t ls e rest = absurd (none-some t e)
  at_start-rest (Agent n) t ls e rest = absurd (none-some t e)
  at_start-rest (line.Entry d) t ls e rest = absurd (none-some t e)
  at_start-rest (Reaction i) t ls e rest = absurd (none-some t e)
  at_start-rest (Row r) t ls e rest = absurd (none-some t e)
  at_start-rest (End b) t ls e rest = absurd (none-some t e)

  -- a line that may come goes before what a text has from the next stage on
  next-rest : (s : Stage) (l : Line) (t : Stage) (ls : List Line) → IsBare l → next centres agents s l ≡ Some t → Rest centres agents t ls → Rest centres agents s (l ∷ ls)
  next-rest Start l t ls is e rest = at_start-rest l t ls e rest
  next-rest (Before left) l t ls is e rest = heading-rest left l t ls e rest
  next-rest (Within left) l t ls is e rest = in_history-rest left l t ls is e rest
  next-rest (Reacting left) l t ls is e rest = behind_entry-rest left l t ls is e rest
  next-rest (Telling left) l t ls is e rest = in_log-rest left l t ls e rest
  next-rest Done l t ls is e rest = absurd (none-some t e)

  -- what the machine takes stands before what a text has from there on
  pub takes-rest : (s : Stage) (ls : List Line) (t : Stage) (more : List Line) → AreBare ls → takes centres agents s ls ≡ Some t → Rest centres agents t more → Rest centres agents s (ls ++ more)
  takes-rest s [] t more are e rest = subst (λ q. Rest centres agents q more) (sym (same_Some s t e)) rest
  takes-rest s (l ∷ ls) t more are e rest = by (next centres agents s l) refl e (λ q g. takes-rest q ls t more are.1 g rest)
    where
      by : (o : Option Stage) → next centres agents s l ≡ o → go_on centres agents o (λ q. takes centres agents q ls) ≡ Some t → ((q : Stage) → takes centres agents q ls ≡ Some t → Rest centres agents q (ls ++ more)) → Rest centres agents s (l ∷ (ls ++ more))
      by None f g on = absurd (none-some t g)
      by (Some q) f g on = next-rest s l q (ls ++ more) are.0 f (on q g)

  -- lines after lines
  pub takes-append : (s : Stage) (ls ms : List Line) → takes centres agents s (ls ++ ms) ≡ go_on centres agents (takes centres agents s ls) (λ t. takes centres agents t ms)
  takes-append s [] ms = refl
  takes-append s (l ∷ ls) ms = by (next centres agents s l) (λ q. takes-append q ls ms)
    where
      by : (o : Option Stage) → ((q : Stage) → takes centres agents q (ls ++ ms) ≡ go_on centres agents (takes centres agents q ls) (λ t. takes centres agents t ms)) → go_on centres agents o (λ t. takes centres agents t (ls ++ ms)) ≡ go_on centres agents (go_on centres agents o (λ t. takes centres agents t ls)) (λ t. takes centres agents t ms)
      by None more = refl
      by (Some q) more = more q

  pub same_head : (n : List ℕ) (s : Stage) → if_same n n s ≡ Some s
  same_head n s = ap (λ b. if b then Some s else None) ((bytes_eq-Decides n n).1 refl)

  rows_pass : (left : List (List ℕ)) (rs : List TextRow) (ls : List Line) → takes centres agents (Telling left) (map Row rs ++ ls) ≡ takes centres agents (Telling left) ls
  rows_pass left [] ls = refl
  rows_pass left (r ∷ rs) ls = rows_pass left rs ls

  reactions_pass : (left : List (List ℕ)) (is : List Item) (ls : List Line) → takes centres agents (Reacting left) (map Reaction is ++ ls) ≡ takes centres agents (Reacting left) ls
  reactions_pass left [] ls = refl
  reactions_pass left (i ∷ is) ls = reactions_pass left is ls

  -- logs are taken to the end, in a log and where a heading is due
  logs_pass : (left : List (List ℕ)) (logs : List (List TextRow)) (b : Bool) → length logs ≡ length left → takes centres agents (Telling left) (logs_lines left logs ++ End b ∷ []) ≡ Some Done
  logs_pass [] logs b whole = refl
  logs_pass (n ∷ ns) [] b whole = absurd (omega (arith, whole))
  logs_pass (n ∷ ns) (l ∷ ls) b whole =
      ap (λ o. go_on centres agents o (λ t. takes centres agents t ((map Row l ++ logs_lines ns ls) ++ End b ∷ []))) (same_head n (Telling ns))
      ∙ (ap (takes centres agents (Telling ns)) (append_assoc (map Row l) (logs_lines ns ls) (End b ∷ []))
      ∙ (rows_pass ns l (logs_lines ns ls ++ End b ∷ []) ∙ logs_pass ns ls b (omega (arith, whole))))

  -- the stages where a heading is due
  data IsDue : Stage → List (List ℕ) → Type 0 where
    due_before : {left : List (List ℕ)} → IsDue (Before left) left
    due_within : {left : List (List ℕ)} → IsDue (Within left) left
    due_reacting : {left : List (List ℕ)} → IsDue (Reacting left) left

  first_logs : {s : Stage} → IsDue s [] → (named : List (List ℕ)) → named ≡ agents → (logs : List (List TextRow)) (b : Bool) → length logs ≡ length named
      → takes centres agents s (logs_lines named logs ++ End b ∷ []) ≡ takes centres agents (Telling named) (logs_lines named logs ++ End b ∷ [])
  first_logs due_before [] same logs b whole = ap (λ (o : List (List ℕ)). go_on centres agents (where_none_is_left o (Some Done)) (λ t. takes centres agents t [])) (sym same)
  first_logs due_within [] same logs b whole = ap (λ (o : List (List ℕ)). go_on centres agents (where_none_is_left o (Some Done)) (λ t. takes centres agents t [])) (sym same)
  first_logs due_reacting [] same logs b whole = ap (λ (o : List (List ℕ)). go_on centres agents (where_none_is_left o (Some Done)) (λ t. takes centres agents t [])) (sym same)
  first_logs due (n ∷ ns) same [] b whole = absurd (omega (arith, whole))
  first_logs due_before (n ∷ ns) same (l ∷ ls) b whole = ap (λ (o : List (List ℕ)). go_on centres agents (agent_head o n) (λ t. takes centres agents t ((map Row l ++ logs_lines ns ls) ++ End b ∷ []))) (sym same)
  first_logs due_within (n ∷ ns) same (l ∷ ls) b whole = ap (λ (o : List (List ℕ)). go_on centres agents (agent_head o n) (λ t. takes centres agents t ((map Row l ++ logs_lines ns ls) ++ End b ∷ []))) (sym same)
  first_logs due_reacting (n ∷ ns) same (l ∷ ls) b whole = ap (λ (o : List (List ℕ)). go_on centres agents (agent_head o n) (λ t. takes centres agents t ((map Row l ++ logs_lines ns ls) ++ End b ∷ []))) (sym same)

  due_logs : {s : Stage} → IsDue s [] → (ls : List Line) → AreLogs centres agents agents ls → takes centres agents s ls ≡ Some Done
  due_logs {s} due ls logs =
      ap (takes centres agents s) logs.lines ∙ (first_logs due agents refl logs.logs logs.end logs.whole ∙ logs_pass agents logs.logs logs.end logs.whole)

  -- the stages in a history
  data IsOpen : Stage → List (List ℕ) → Type 0 where
    open_within : {left : List (List ℕ)} → IsOpen (Within left) left
    open_reacting : {left : List (List ℕ)} → IsOpen (Reacting left) left

  open_due : {s : Stage} {left : List (List ℕ)} → IsOpen s left → IsDue s left
  open_due open_within = due_within
  open_due open_reacting = due_reacting

  -- from a stage lines lead on to a stage in the same history
  record LeadsOn (s : Stage) (left : List (List ℕ)) (ls tail : List Line) : Type 0 where
    at : Stage
    opened : IsOpen at left
    same : takes centres agents s (ls ++ tail) ≡ takes centres agents at tail

  entry_taken : {s : Stage} {left : List (List ℕ)} → IsOpen s left → (e : Entry) (ls : List Line) → takes centres agents s (line.Entry e ∷ ls) ≡ takes centres agents (after_entry left e) ls
  entry_taken open_within e ls = refl
  entry_taken open_reacting e ls = refl

  entry_pass : {s : Stage} {left : List (List ℕ)} → IsOpen s left → (e : Entry) (tail : List Line) → LeadsOn s left (entry_lines e) tail
  entry_pass {s} {left} opened (Called id op o items) tail =
      record { at = Reacting left; opened = open_reacting; same = entry_taken opened (Called id op o []) (map Reaction items ++ tail) ∙ reactions_pass left items tail }
  entry_pass {s} {left} opened (Gave id o items) tail =
      record { at = Reacting left; opened = open_reacting; same = entry_taken opened (Gave id o []) (map Reaction items ++ tail) ∙ reactions_pass left items tail }
  entry_pass {s} {left} opened (Looked id asked told) tail =
      record { at = Within left; opened = open_within; same = entry_taken opened (Looked id asked told) tail }

  entries_pass : (es : List Entry) (tail : List Line) {s : Stage} {left : List (List ℕ)} → IsOpen s left → LeadsOn s left (flat_map entry_lines es) tail
  entries_pass [] tail {s} opened = record { at = s; opened = opened; same = refl }
  entries_pass (e ∷ es) tail {s} opened =
      let one = entry_pass opened e (flat_map entry_lines es ++ tail) in
      let more = entries_pass es tail one.opened in
      record { at = more.at; opened = more.opened; same = ap (takes centres agents s) (append_assoc (entry_lines e) (flat_map entry_lines es) tail) ∙ (one.same ∙ more.same) }

  head_taken : {s : Stage} (n : List ℕ) (ns : List (List ℕ)) → IsDue s (n ∷ ns) → (ls : List Line) → takes centres agents s (Centre n ∷ ls) ≡ takes centres agents (Within ns) ls
  head_taken n ns due_before ls = ap (λ o. go_on centres agents o (λ t. takes centres agents t ls)) (same_head n (Within ns))
  head_taken n ns due_within ls = ap (λ o. go_on centres agents o (λ t. takes centres agents t ls)) (same_head n (Within ns))
  head_taken n ns due_reacting ls = ap (λ o. go_on centres agents o (λ t. takes centres agents t ls)) (same_head n (Within ns))

  histories_pass : (left : List (List ℕ)) (hs : List (List Entry)) → length hs ≡ length left → {s : Stage} → IsDue s left → (rest : List Line) → AreLogs centres agents agents rest
      → takes centres agents s (histories_lines left hs ++ rest) ≡ Some Done
  histories_pass [] hs whole due rest logs = due_logs due rest logs
  histories_pass (n ∷ ns) [] whole due rest logs = absurd (omega (arith, whole))
  histories_pass (n ∷ ns) (h ∷ hs) whole due rest logs =
      let on = entries_pass h (histories_lines ns hs ++ rest) open_within in
      head_taken n ns due ((flat_map entry_lines h ++ histories_lines ns hs) ++ rest)
      ∙ (ap (takes centres agents (Within ns)) (append_assoc (flat_map entry_lines h) (histories_lines ns hs) rest)
      ∙ (on.same ∙ histories_pass ns hs (omega (arith, whole)) (open_due on.opened) rest logs))

  -- the lines of a text are taken to the end
  pub all_pass : (ls : List Line) → AreAll centres agents ls → takes centres agents Start ls ≡ Some Done
  all_pass ls all =
      ap (takes centres agents Start) all.lines
      ∙ (ap (takes centres agents (Before centres)) all.histories.lines
      ∙ histories_pass centres all.histories.histories all.histories.whole due_before all.histories.rest all.histories.logs)
