-- Each line that comes where it may, and each that may not.
use Rattle.std.proofs.Common.{◌≡◌, ◌≢◌, ◌<◌, ◌≤◌, ◌+◌, ◌==◌, ℕ, if◌then◌else◌, Bool, true, false, List, [], ◌∷◌, ◌++◌, map, length, drop, Some, None, Option, refl, sym, ap, subst, ◌∙◌, arith, append_assoc, append-nil}
use Rattle.std.proofs.lemmas.Bool.{eq-eqb, eqb-true, true≢false}
use Rattle.std.proofs.lemmas.List.{drop_all, length-append, length-drop}
use Rattle.tc_model.specs.declared.entries.Entry.{Entry}
use Rattle.tc_model.specs.declared.entries.Entry.TheVariants.{Called, Gave, Looked}
use Rattle.tc_model.specs.declared.items.Item.{Item}
use Rattle.tc_histline.specs.declared.versions.Version.{Version}
use Rattle.tc_histtext.specs.Machine.{Stage, next, centre_head, agent_head, where_none_is_left, IsBareEntry}
use Rattle.tc_histtext.specs.Machine as stage
use Rattle.tc_histtext.specs.ReadTexts.{entry_lines, histories_lines, logs_lines}
use Rattle.tc_histtext.specs.Reading.{stage_behind, first_lines, last_lines, IsAt, PutLast, PutLastReactions, is_in_histories, is_in_history, is_next, may_tell, place_behind}
use Rattle.tc_histline.specs.declared.lines.Line.{Line}
use Rattle.tc_histline.specs.declared.lines.Line.TheVariants.{First, Centre, Agent, Reaction, Row, End}
use Rattle.tc_histline.specs.declared.lines.Line.TheVariants as line
use Rattle.tc_histline.specs.declared.lines.TextRow.{TextRow}
use Rattle.tc_histtext.specs.declared.reading.Place.{Place}
use Rattle.tc_histtext.specs.declared.reading.Place.TheVariants.{Start, Before, Within, Reacting, Telling, Done}
use Rattle.tc_histtext.proofs.Growing.{no_histories, no_logs, histories_lines-open, histories_lines-grow, logs_lines-open, logs_lines-grow, entries_lines-grow, entries_lines-push, drop-rest, drop-less}
use Rattle.tc_histtext.proofs.Machine.{same_head}

false_not : {X : Type 0} → false ≡ true → X
false_not e = absurd (true≢false (sym e))

true_not : {X : Type 0} → true ≡ false → X
true_not e = absurd (true≢false e)

same_length : (n m : ℕ) → (n == m) ≡ true → n ≡ m
same_length n m e = eqb-true n m e

other_length : (n m : ℕ) → (n == m) ≡ false → n ≢ m
other_length n m e same = true≢false (sym (eq-eqb n m same) ∙ e)

-- an entry without reactions has one line
bare-line : (e : Entry) → IsBareEntry e → entry_lines e ≡ line.Entry e ∷ []
bare-line (Called id op o items) is =
    ap (λ x. line.Entry (Called id op o []) ∷ map Reaction x) is ∙ ap (λ x. line.Entry (Called id op o x) ∷ []) (sym is)
bare-line (Gave id o items) is =
    ap (λ x. line.Entry (Gave id o []) ∷ map Reaction x) is ∙ ap (λ x. line.Entry (Gave id o x) ∷ []) (sym is)
bare-line (Looked id asked told) is = refl

-- where names are left, or are none
left-none : (l : List (List ℕ)) (o : Option Stage) → 0 < length l → where_none_is_left l o ≡ None
left-none [] o some = absurd (omega (arith, some))
left-none (n ∷ ns) o some = refl

still-none : (l : List (List ℕ)) → where_none_is_left l None ≡ None
still-none [] = refl
still-none (n ∷ ns) = refl

no_head : (l : List (List ℕ)) (n : List ℕ) → is_next l n ≡ false → agent_head l n ≡ None
no_head [] n e = refl
no_head (m ∷ ms) n e = ap (λ b. if b then Some (stage.Telling ms) else None) e

length-push : {X : Type 0} (xs : List X) (x : X) → length (xs ++ x ∷ []) ≡ length xs + 1
length-push xs x = length-append xs (x ∷ [])

length-put : {X : Type 0} (xs : List (List X)) (x : X) (ys : List (List X)) → PutLast xs x ys → length ys ≡ length xs
length-put xs x ys put =
    ap length put.is ∙ (length-push put.before (put.last ++ x ∷ []) ∙ (sym (length-push put.before put.last) ∙ sym (ap length put.was)))

module _ (C A : List (List ℕ)) where
  abbrev pub lines_in : Place → Version → List (List Entry) → List (List TextRow) → Bool → List Line
  lines_in p v hs ls b = first_lines p v ++ (histories_lines C hs ++ (logs_lines A ls ++ last_lines p b))

  -- the line comes, and goes behind the others
  abbrev pub Grows : Place → Version → List (List Entry) → List (List TextRow) → Bool → Line
      → Place → Version → List (List Entry) → List (List TextRow) → Bool → Type 0
  Grows p v hs ls a l q w gs ms b =
      (next C A (stage_behind p C A hs ls) l ≡ Some (stage_behind q C A gs ms))
      × (lines_in q w gs ms b ≡ lines_in p v hs ls a ++ l ∷ [])
      × IsAt q C A gs ms

  -- texts of which one part grows
  no_log_lines : (ls : List (List TextRow)) → ls ≡ [] → logs_lines A ls ++ [] ≡ []
  no_log_lines ls e = ap (λ x. logs_lines A x ++ []) e ∙ (append-nil (logs_lines A []) ∙ no_logs A)

  pub nothing : (hs : List (List Entry)) (ls : List (List TextRow)) → hs ≡ [] → ls ≡ [] → histories_lines C hs ++ (logs_lines A ls ++ []) ≡ []
  nothing hs ls none no_log =
      ap (λ x. histories_lines C hs ++ x) (no_log_lines ls no_log)
      ∙ (append-nil (histories_lines C hs) ∙ (ap (histories_lines C) none ∙ no_histories C))

  history_more : (hs gs : List (List Entry)) (ls : List (List TextRow)) (more : List Line) → ls ≡ [] → histories_lines C gs ≡ histories_lines C hs ++ more
      → histories_lines C gs ++ (logs_lines A ls ++ []) ≡ (histories_lines C hs ++ (logs_lines A ls ++ [])) ++ more
  history_more hs gs ls more e is =
      let none = no_log_lines ls e in
      ap (λ x. histories_lines C gs ++ x) none
      ∙ (append-nil (histories_lines C gs) ∙ (is ∙ ap (λ x. x ++ more) (sym (ap (λ x. histories_lines C hs ++ x) none ∙ append-nil (histories_lines C hs)))))

  log_more : (h : List Line) (ls ms : List (List TextRow)) (more : List Line) → logs_lines A ms ≡ logs_lines A ls ++ more
      → h ++ (logs_lines A ms ++ []) ≡ (h ++ (logs_lines A ls ++ [])) ++ more
  log_more h ls ms more is =
      ap (λ x. h ++ x) (append-nil (logs_lines A ms) ∙ (is ∙ ap (λ x. x ++ more) (sym (append-nil (logs_lines A ls)))))
      ∙ sym (append_assoc h (logs_lines A ls ++ []) more)

  -- the first line
  begins_at_start : (v w : Version) (hs : List (List Entry)) (ls : List (List TextRow)) (a : Bool) → IsAt Start C A hs ls → Grows Start v hs ls a (First w) Before w hs ls a
  begins_at_start v w hs ls a sound =
      let none = nothing hs ls sound.0 sound.1 in (
        ap (λ (x : List (List Entry)). Some (stage.Before (drop (length x) C))) (sym sound.0),
        ap (λ x. First w ∷ x) none ∙ ap (λ x. x ++ First w ∷ []) (sym none),
        sound,
      )

  pub begins : (p : Place) (v w : Version) (hs : List (List Entry)) (ls : List (List TextRow)) (a : Bool) → p ≡ Start → IsAt p C A hs ls → Grows p v hs ls a (First w) Before w hs ls a
  begins p v w hs ls a e = subst (λ q. IsAt q C A hs ls → Grows q v hs ls a (First w) Before w hs ls a) (sym e) (begins_at_start v w hs ls a)

  -- a centre's heading
  opened : (v : Version) (hs : List (List Entry)) (ls : List (List TextRow)) (a : Bool) (n : List ℕ) (rest : List (List ℕ)) → drop (length hs) C ≡ n ∷ rest → ls ≡ []
      → (centre_head (drop (length hs) C) n ≡ Some (stage_behind Within C A (hs ++ [] ∷ []) ls))
      × (lines_in Within v (hs ++ [] ∷ []) ls a ≡ (First v ∷ (histories_lines C hs ++ (logs_lines A ls ++ []))) ++ Centre n ∷ [])
      × IsAt Within C A (hs ++ [] ∷ []) ls
  opened v hs ls a n rest e none = (
    ap (λ l. centre_head l n) e ∙ (same_head C A n (stage.Within rest) ∙ ap (λ l. Some (stage.Within l)) (sym (ap (λ k. drop k C) (length-push hs []) ∙ drop-rest (length hs) C n rest e))),
    ap (λ x. First v ∷ x) (history_more hs (hs ++ [] ∷ []) ls (Centre n ∷ []) none (histories_lines-open C hs n rest e)),
    (omega (arith, length-push hs []), omega (arith, length-push hs [], drop-less (length hs) C n rest e), none),
  )

  pub opens_history : (p : Place) (v : Version) (hs : List (List Entry)) (ls : List (List TextRow)) (a : Bool) (n : List ℕ) (rest : List (List ℕ)) → is_in_histories p ≡ true
      → drop (length hs) C ≡ n ∷ rest → IsAt p C A hs ls → Grows p v hs ls a (Centre n) Within v (hs ++ [] ∷ []) ls a
  opens_history Start v hs ls a n rest is e sound = false_not is
  opens_history Before v hs ls a n rest is e sound = opened v hs ls a n rest e sound.1
  opens_history Within v hs ls a n rest is e sound = opened v hs ls a n rest e sound.2
  opens_history Reacting v hs ls a n rest is e sound = opened v hs ls a n rest e sound.2
  opens_history Telling v hs ls a n rest is e sound = false_not is
  opens_history Done v hs ls a n rest is e sound = false_not is

  -- an agent's heading
  log_opened : (v : Version) (hs : List (List Entry)) (ls : List (List TextRow)) (a : Bool) (n : List ℕ) (rest : List (List ℕ)) → drop (length ls) A ≡ n ∷ rest → length hs ≡ length C
      → (agent_head (drop (length ls) A) n ≡ Some (stage_behind Telling C A hs (ls ++ [] ∷ [])))
      × (lines_in Telling v hs (ls ++ [] ∷ []) a ≡ (First v ∷ (histories_lines C hs ++ (logs_lines A ls ++ []))) ++ Agent n ∷ [])
      × IsAt Telling C A hs (ls ++ [] ∷ [])
  log_opened v hs ls a n rest e whole = (
    ap (λ l. agent_head l n) e ∙ (same_head C A n (stage.Telling rest) ∙ ap (λ l. Some (stage.Telling l)) (sym (ap (λ k. drop k A) (length-push ls []) ∙ drop-rest (length ls) A n rest e))),
    ap (λ x. First v ∷ x) (log_more (histories_lines C hs) ls (ls ++ [] ∷ []) (Agent n ∷ []) (logs_lines-open A ls n rest e)),
    (whole, omega (arith, length-push ls []), omega (arith, length-push ls [], drop-less (length ls) A n rest e)),
  )

  -- where no log has come
  first_log : (v : Version) (hs : List (List Entry)) (ls : List (List TextRow)) (a : Bool) (n : List ℕ) (rest : List (List ℕ)) → drop (length ls) A ≡ n ∷ rest → ls ≡ [] → length hs ≡ length C
      → (where_none_is_left (drop (length hs) C) (agent_head A n) ≡ Some (stage_behind Telling C A hs (ls ++ [] ∷ [])))
      × (lines_in Telling v hs (ls ++ [] ∷ []) a ≡ (First v ∷ (histories_lines C hs ++ (logs_lines A ls ++ []))) ++ Agent n ∷ [])
      × IsAt Telling C A hs (ls ++ [] ∷ [])
  first_log v hs ls a n rest e none whole =
      let on = log_opened v hs ls a n rest e whole in (
        ap (λ l. where_none_is_left l (agent_head A n)) (drop_all (length hs) C (omega (arith, whole)))
            ∙ (ap (λ (x : List (List TextRow)). agent_head (drop (length x) A) n) (sym none) ∙ on.0),
        on.1,
        on.2,
      )

  pub opens_log : (p : Place) (v : Version) (hs : List (List Entry)) (ls : List (List TextRow)) (a : Bool) (n : List ℕ) (rest : List (List ℕ)) → may_tell p (length hs == length C) ≡ true
      → drop (length ls) A ≡ n ∷ rest → IsAt p C A hs ls → Grows p v hs ls a (Agent n) Telling v hs (ls ++ [] ∷ []) a
  opens_log Start v hs ls a n rest may e sound = false_not may
  opens_log Before v hs ls a n rest may e sound = first_log v hs ls a n rest e sound.1 (same_length (length hs) (length C) may)
  opens_log Within v hs ls a n rest may e sound = first_log v hs ls a n rest e sound.2 (same_length (length hs) (length C) may)
  opens_log Reacting v hs ls a n rest may e sound = first_log v hs ls a n rest e sound.2 (same_length (length hs) (length C) may)
  opens_log Telling v hs ls a n rest may e sound = log_opened v hs ls a n rest e sound.0
  opens_log Done v hs ls a n rest may e sound = false_not may

  -- an entry
  entry_lines_in : (hs gs : List (List Entry)) (ls : List (List TextRow)) (e : Entry) → IsBareEntry e → length hs ≤ length C → ls ≡ [] → PutLast hs e gs
      → histories_lines C gs ++ (logs_lines A ls ++ []) ≡ (histories_lines C hs ++ (logs_lines A ls ++ [])) ++ line.Entry e ∷ []
  entry_lines_in hs gs ls e bare few none put =
      history_more hs gs ls (line.Entry e ∷ []) none
      (ap (histories_lines C) put.is
      ∙ (histories_lines-grow C put.before put.last (put.last ++ e ∷ []) (line.Entry e ∷ []) (omega (arith, few, ap length put.was, length-push put.before put.last))
      (entries_lines-push put.last e (line.Entry e) (bare-line e bare))
      ∙ ap (λ x. histories_lines C x ++ line.Entry e ∷ []) (sym put.was)))

  entry_in : (v : Version) (hs gs : List (List Entry)) (ls : List (List TextRow)) (a : Bool) (e : Entry) → IsBareEntry e → 0 < length hs → length hs ≤ length C → ls ≡ [] → PutLast hs e gs
      → (Some (stage.after_entry (drop (length hs) C) e) ≡ Some (stage_behind (place_behind e) C A gs ls))
      × (lines_in (place_behind e) v gs ls a ≡ (First v ∷ (histories_lines C hs ++ (logs_lines A ls ++ []))) ++ line.Entry e ∷ [])
      × IsAt (place_behind e) C A gs ls
  entry_in v hs gs ls a (Called id op o items) bare some few none put = (
    ap (λ k. Some (stage.Reacting (drop k C))) (sym (length-put hs _ gs put)),
    ap (λ x. First v ∷ x) (entry_lines_in hs gs ls (Called id op o items) bare few none put),
    (record { before = put.before; entries = put.last; last = Called id op o items; is = put.is; reacts = tt }, omega (arith, few, length-put hs _ gs put), none),
  )
  entry_in v hs gs ls a (Gave id o items) bare some few none put = (
    ap (λ k. Some (stage.Reacting (drop k C))) (sym (length-put hs _ gs put)),
    ap (λ x. First v ∷ x) (entry_lines_in hs gs ls (Gave id o items) bare few none put),
    (record { before = put.before; entries = put.last; last = Gave id o items; is = put.is; reacts = tt }, omega (arith, few, length-put hs _ gs put), none),
  )
  entry_in v hs gs ls a (Looked id asked told) bare some few none put = (
    ap (λ k. Some (stage.Within (drop k C))) (sym (length-put hs _ gs put)),
    ap (λ x. First v ∷ x) (entry_lines_in hs gs ls (Looked id asked told) bare few none put),
    (omega (arith, some, length-put hs _ gs put), omega (arith, few, length-put hs _ gs put), none),
  )

  pub some_history : (p : Place) (hs : List (List Entry)) (ls : List (List TextRow)) → is_in_history p ≡ true → IsAt p C A hs ls → 0 < length hs
  some_history Start hs ls is sound = false_not is
  some_history Before hs ls is sound = false_not is
  some_history Within hs ls is sound = sound.0
  some_history Reacting hs ls is sound =
      let may = sound.0 in
      omega (arith, ap length may.is, length-push may.before (may.entries ++ may.last ∷ []))
  some_history Telling hs ls is sound = false_not is
  some_history Done hs ls is sound = false_not is

  pub adds_entry : (p : Place) (v : Version) (hs gs : List (List Entry)) (ls : List (List TextRow)) (a : Bool) (e : Entry) → is_in_history p ≡ true → IsBareEntry e → PutLast hs e gs
      → IsAt p C A hs ls → Grows p v hs ls a (line.Entry e) (place_behind e) v gs ls a
  adds_entry Start v hs gs ls a e is bare put sound = false_not is
  adds_entry Before v hs gs ls a e is bare put sound = false_not is
  adds_entry Within v hs gs ls a e is bare put sound = entry_in v hs gs ls a e bare sound.0 sound.1 sound.2 put
  adds_entry Reacting v hs gs ls a e is bare put sound = entry_in v hs gs ls a e bare (some_history Reacting hs ls refl sound) sound.1 sound.2 put
  adds_entry Telling v hs gs ls a e is bare put sound = false_not is
  adds_entry Done v hs gs ls a e is bare put sound = false_not is

  -- reactions that the last entry is given
  pub reactions_put : (v : Version) (hs gs : List (List Entry)) (ls : List (List TextRow)) (a : Bool) (items : List Item) → PutLastReactions hs items gs → IsAt Reacting C A hs ls
      → (length gs ≡ length hs) × (lines_in Reacting v gs ls a ≡ lines_in Reacting v hs ls a ++ map Reaction items) × IsAt Reacting C A gs ls
  reactions_put v hs gs ls a items put sound =
      let same : length gs ≡ length hs =
      ap length put.is ∙ (length-push put.before (put.entries ++ put.grown ∷ []) ∙ (sym (length-push put.before (put.entries ++ put.last ∷ [])) ∙ sym (ap length put.was))) in (
        same,
        ap (λ x. First v ∷ x) (history_more hs gs ls (map Reaction items) sound.2
            (ap (histories_lines C) put.is
            ∙ (histories_lines-grow C put.before (put.entries ++ put.last ∷ []) (put.entries ++ put.grown ∷ []) (map Reaction items)
            (omega (arith, sound.1, ap length put.was, length-push put.before (put.entries ++ put.last ∷ [])))
            (entries_lines-grow put.entries put.last put.grown (map Reaction items) put.put.lines)
            ∙ ap (λ x. histories_lines C x ++ map Reaction items) (sym put.was)))),
        (record { before = put.before; entries = put.entries; last = put.grown; is = put.is; reacts = put.put.reacts }, omega (arith, sound.1, same), sound.2),
      )

  -- a row
  row_at : (v : Version) (hs : List (List Entry)) (ls ms : List (List TextRow)) (a : Bool) (r : TextRow) → PutLast ls r ms → IsAt Telling C A hs ls → Grows Telling v hs ls a (Row r) Telling v hs ms a
  row_at v hs ls ms a r put sound =
      let same = length-put ls r ms put in (
        ap (λ k. Some (stage.Telling (drop k A))) (sym same),
        ap (λ x. First v ∷ x) (log_more (histories_lines C hs) ls ms (Row r ∷ [])
            (ap (logs_lines A) put.is
            ∙ (logs_lines-grow A put.before put.last r (omega (arith, sound.2, ap length put.was, length-push put.before put.last))
            ∙ ap (λ x. logs_lines A x ++ Row r ∷ []) (sym put.was)))),
        (sound.0, omega (arith, sound.1, same), omega (arith, sound.2, same)),
      )

  pub adds_row : (p : Place) (v : Version) (hs : List (List Entry)) (ls ms : List (List TextRow)) (a : Bool) (r : TextRow) → p ≡ Telling → PutLast ls r ms → IsAt p C A hs ls
      → Grows p v hs ls a (Row r) p v hs ms a
  adds_row p v hs ls ms a r e put = subst (λ q. IsAt q C A hs ls → Grows q v hs ls a (Row r) q v hs ms a) (sym e) (row_at v hs ls ms a r put)

  -- what may not come

  some_left : (hs : List (List Entry)) (o : Option Stage) → length hs ≤ length C → (length hs == length C) ≡ false → where_none_is_left (drop (length hs) C) o ≡ None
  some_left hs o few other = left-none (drop (length hs) C) o (omega (arith, few, other_length (length hs) (length C) other, length-drop (length hs) C))

  pub no_log_yet : (p : Place) (hs : List (List Entry)) (ls : List (List TextRow)) (n : List ℕ) → may_tell p (length hs == length C) ≡ false → IsAt p C A hs ls
      → next C A (stage_behind p C A hs ls) (Agent n) ≡ None
  no_log_yet Start hs ls n may sound = refl
  no_log_yet Before hs ls n may sound = some_left hs (agent_head A n) (omega (arith, ap length sound.0)) may
  no_log_yet Within hs ls n may sound = some_left hs (agent_head A n) sound.1 may
  no_log_yet Reacting hs ls n may sound = some_left hs (agent_head A n) sound.1 may
  no_log_yet Telling hs ls n may sound = true_not may
  no_log_yet Done hs ls n may sound = refl

  other_first : (hs : List (List Entry)) (ls : List (List TextRow)) (n : List ℕ) → ls ≡ [] → is_next (drop (length ls) A) n ≡ false → where_none_is_left (drop (length hs) C) (agent_head A n) ≡ None
  other_first hs ls n none other =
      ap (where_none_is_left (drop (length hs) C)) (no_head A n (ap (λ (x : List (List TextRow)). is_next (drop (length x) A) n) (sym none) ∙ other)) ∙ still-none (drop (length hs) C)

  pub other_log : (p : Place) (hs : List (List Entry)) (ls : List (List TextRow)) (n : List ℕ) → is_next (drop (length ls) A) n ≡ false → IsAt p C A hs ls
      → next C A (stage_behind p C A hs ls) (Agent n) ≡ None
  other_log Start hs ls n other sound = refl
  other_log Before hs ls n other sound = other_first hs ls n sound.1 other
  other_log Within hs ls n other sound = other_first hs ls n sound.2 other
  other_log Reacting hs ls n other sound = other_first hs ls n sound.2 other
  other_log Telling hs ls n other sound = no_head (drop (length ls) A) n other
  other_log Done hs ls n other sound = refl

  pub no_end_yet : (p : Place) (hs : List (List Entry)) (ls : List (List TextRow)) (b : Bool) → may_tell p (length hs == length C) ≡ false → IsAt p C A hs ls
      → next C A (stage_behind p C A hs ls) (End b) ≡ None
  no_end_yet Start hs ls b may sound = refl
  no_end_yet Before hs ls b may sound = some_left hs _ (omega (arith, ap length sound.0)) may
  no_end_yet Within hs ls b may sound = some_left hs _ sound.1 may
  no_end_yet Reacting hs ls b may sound = some_left hs _ sound.1 may
  no_end_yet Telling hs ls b may sound = true_not may
  no_end_yet Done hs ls b may sound = refl

  no_log_left : (hs : List (List Entry)) (ls : List (List TextRow)) → ls ≡ [] → length ls ≢ length A → where_none_is_left (drop (length hs) C) (where_none_is_left A (Some stage.Done)) ≡ None
  no_log_left hs ls none other =
      ap (where_none_is_left (drop (length hs) C)) (left-none A (Some stage.Done) (omega (arith, other, ap length none))) ∙ still-none (drop (length hs) C)

  pub logs_left : (p : Place) (hs : List (List Entry)) (ls : List (List TextRow)) (b : Bool) → length ls ≢ length A → IsAt p C A hs ls
      → next C A (stage_behind p C A hs ls) (End b) ≡ None
  logs_left Start hs ls b other sound = refl
  logs_left Before hs ls b other sound = no_log_left hs ls sound.1 other
  logs_left Within hs ls b other sound = no_log_left hs ls sound.2 other
  logs_left Reacting hs ls b other sound = no_log_left hs ls sound.2 other
  logs_left Telling hs ls b other sound = left-none (drop (length ls) A) (Some stage.Done) (omega (arith, other, sound.2, length-drop (length ls) A))
  logs_left Done hs ls b other sound = refl
