-- Lists of lines and their texts.
use Rattle.std.proofs.Common.{◌≡◌, ◌+◌, ℕ, suc, Bool, List, [], ◌∷◌, ◌++◌, length, get_or, Some, None, All, refl, sym, ap, ap₂, subst, ◌∙◌, arith, append_assoc, append-nil}
use Rattle.std.specs.List.{flat_map}
use Rattle.std.proofs.lemmas.Grind.{flat_map-append}
use Rattle.std.proofs.lemmas.List.Elements.{All-append, All-cons, All-head, All-nil, All-tail}
use Rattle.std.proofs.lemmas.Option.{none-some, same_Some}
use Rattle.tc_histline.specs.declared.versions.Version.{Version}
use Rattle.tc_histline.specs.Lines.{EndsOnce, HasLine, HasNoFeed, line_text}
use Rattle.tc_histtext.specs.Machine.{Stage, Start, Done, next, go_on, takes, IsBare, AreBare, AreAll}
use Rattle.tc_histtext.specs.ReadTexts.{IsBegun, IsFirstFault, IsText, ended, histories_lines, lines_of, logs_lines, text_of}
use Rattle.tc_histline.specs.declared.lines.Line.{Line}
use Rattle.tc_histline.specs.declared.lines.Line.TheVariants.{First, Centre, Agent, Reaction, Row, End}
use Rattle.tc_histline.specs.declared.lines.Line.TheVariants as line
use Rattle.tc_histtext.specs.declared.read_texts.Text.{Text}
use Rattle.tc_histtext.proofs.Completing.{AreDue, completes, histories}
use Rattle.tc_histtext.proofs.LineEnds.{ended-one}
use Rattle.tc_histtext.proofs.Machine.{all_pass, takes-append, takes-rest}

-- lines that have come so far: none, or the first tells the version
abbrev pub StartsWith : Version → List Line → Type 0
StartsWith v [] = Unit {0}
StartsWith v (l ∷ ls) = l ≡ First v

-- the version that the line tells, if it is the first
abbrev pub version_or : Version → Line → Version
version_or u (First x) = x
version_or u (Centre n) = u
version_or u (Agent n) = u
version_or u (line.Entry e) = u
version_or u (Reaction i) = u
version_or u (Row r) = u
version_or u (End b) = u

-- the first line and the last can be had in each version
abbrev pub has_first : (A : List (List ℕ)) (v w : Version) → HasLine v A (First w)
has_first A v w = tt

abbrev pub has_end : (A : List (List ℕ)) (v : Version) (b : Bool) → HasLine v A (End b)
has_end A v b = tt

module _ (A : List (List ℕ))
    (one : (v : Version) (l m : Line) (r s : List ℕ) → HasLine v A l → HasLine v A m → line_text v A l ++ r ≡ line_text v A m ++ s → (l ≡ m) × (r ≡ s))
    (ends : (v : Version) (l : Line) → HasLine v A l → EndsOnce (line_text v A l))
    (bare : (v : Version) (l : Line) → HasLine v A l → IsBare l) where
  abbrev texts : Version → List Line → List ℕ
  texts v ls = flat_map (line_text v A) ls

  all_bare : (v : Version) (ls : List Line) → All (HasLine v A) ls → AreBare ls
  all_bare v [] all = tt
  all_bare v (l ∷ ls) all = (bare v l (All-head (HasLine v A) l ls all), all_bare v ls (All-tail (HasLine v A) l ls all))

  some : (v : Version) (l : Line) (rest : List ℕ) → HasLine v A l → line_text v A l ++ rest ≡ [] → ⊥
  some v l rest has none =
      let one_line = ends v l has in
      no_line one_line.front (ap (λ t. t ++ rest) (sym one_line.ends) ∙ none)
    where
      no_line : (line : List ℕ) → ended line ++ rest ≡ [] → ⊥
      no_line [] e = omega (arith, ap length e)
      no_line (b ∷ bs) e = omega (arith, ap length e)

  -- lines whose texts begin the texts of others are their beginning
  pub front : (v : Version) (xs ys : List Line) (rest : List ℕ) → All (HasLine v A) xs → All (HasLine v A) ys → texts v xs ++ rest ≡ texts v ys
      → (more : List Line) × (ys ≡ xs ++ more) × (rest ≡ texts v more)
  front v [] ys rest ours theirs same = (ys, refl, same)
  front v (x ∷ xs) [] rest ours theirs same =
      absurd (some v x (texts v xs ++ rest) (All-head (HasLine v A) x xs ours) (sym (append_assoc (line_text v A x) (texts v xs) rest) ∙ same))
  front v (x ∷ xs) (y ∷ ys) rest ours theirs same =
      let both = one v x y (texts v xs ++ rest) (texts v ys) (All-head (HasLine v A) x xs ours) (All-head (HasLine v A) y ys theirs)
      (sym (append_assoc (line_text v A x) (texts v xs) rest) ∙ same) in
      let on = front v xs ys rest (All-tail (HasLine v A) x xs ours) (All-tail (HasLine v A) y ys theirs) both.1 in
      (on.0, ap₂ (λ z zs. z ∷ zs) (sym both.0) on.1, on.2)

  -- the same lines as bytes
  record AreBytesOf (v : Version) (ls : List Line) : Type 0 where
    bytes : List (List ℕ)
    counted : length bytes ≡ length ls
    clean : All HasNoFeed bytes
    same : flat_map ended bytes ≡ texts v ls

  bytes_of : (v : Version) (ls : List Line) → All (HasLine v A) ls → AreBytesOf v ls
  bytes_of v [] all = record { bytes = []; counted = refl; clean = All-nil HasNoFeed; same = refl }
  bytes_of v (l ∷ ls) all =
      let one_line = ends v l (All-head (HasLine v A) l ls all) in
      let more = bytes_of v ls (All-tail (HasLine v A) l ls all) in
      record {
        bytes = one_line.front ∷ more.bytes;
        counted = ap suc more.counted;
        clean = All-cons HasNoFeed one_line.front more.bytes one_line.clean more.clean;
        same = ap₂ (λ t ts. t ++ ts) (sym one_line.ends) more.same;
      }

  module _ (C : List (List ℕ)) (grouped : (t : Text) → text_of C A t ≡ texts t.version (lines_of C A t)) where
    -- the lines of a text are taken to the end
    pub text_taken : (t : Text) → length t.histories ≡ length C → length t.logs ≡ length A → takes C A Start (lines_of C A t) ≡ Some Done
    text_taken t whole all =
        all_pass C A (lines_of C A t)
        (record {
          version = t.version;
          rest = histories_lines C t.histories ++ (logs_lines A t.logs ++ End t.blocked ∷ []);
          histories = record {
            histories = t.histories;
            whole = whole;
            rest = logs_lines A t.logs ++ End t.blocked ∷ [];
            logs = record { logs = t.logs; end = t.blocked; whole = all; lines = refl };
            lines = refl;
          };
          lines = refl;
        })

    -- the lines of a text behind those that have come
    record Behind (v : Version) (ls : List Line) (t : Text) (x : List ℕ) : Type 0 where
      more : List Line
      lines : lines_of C A t ≡ ls ++ more
      text : x ≡ texts t.version more
      next : (k : Line) (ks : List Line) → more ≡ k ∷ ks → HasLine v A k × (line_text t.version A k ≡ line_text v A k)
      all : All (HasLine t.version A) more

    behind : (v : Version) (ls : List Line) (t : Text) (x : List ℕ) → StartsWith v ls → All (HasLine v A) ls → All (HasLine t.version A) (lines_of C A t)
        → texts v ls ++ x ≡ texts t.version (lines_of C A t) → Behind v ls t x
    behind v [] t x starts ours theirs same = record {
      more = lines_of C A t;
      lines = refl;
      text = same;
      next = λ k ks e. first k (sym (ap (λ l. get_or l 0 k) e));
      all = theirs;
    }
      where
        first : (k : Line) → k ≡ First t.version → HasLine v A k × (line_text t.version A k ≡ line_text v A k)
        first k e = subst (λ l. HasLine v A l × (line_text t.version A l ≡ line_text v A l)) (sym e) (tt, refl)
    behind v (l ∷ ls) t x starts ours theirs same =
        let version : v ≡ t.version = ap (version_or v)
        (sym starts
        ∙ (one v l (First t.version) (texts v ls ++ x) (texts t.version (histories_lines C t.histories ++ (logs_lines A t.logs ++ End t.blocked ∷ [])))
        (All-head (HasLine v A) l ls ours) tt (sym (append_assoc (line_text v A l) (texts v ls) x) ∙ same)).0) in
        let good : All (HasLine v A) (lines_of C A t) = subst (λ w. All (HasLine w A) (lines_of C A t)) (sym version) theirs in
        let on = front v (l ∷ ls) (lines_of C A t) x ours good (same ∙ ap (λ w. texts w (lines_of C A t)) (sym version)) in
        let rest : All (HasLine v A) on.0 = All-behind (l ∷ ls) on.0 (subst (All (HasLine v A)) on.1 good) in
        record {
          more = on.0;
          lines = on.1;
          text = on.2 ∙ ap (λ w. texts w on.0) version;
          next = λ k ks e. (All-head (HasLine v A) k ks (subst (All (HasLine v A)) e rest), ap (λ w. line_text w A k) (sym version));
          all = subst (λ w. All (HasLine w A) on.0) version rest;
        }
      where
        All-behind : (us ws : List Line) → All (HasLine v A) (us ++ ws) → All (HasLine v A) ws
        All-behind [] ws all = all
        All-behind (u ∷ us) ws all = All-behind us ws (All-tail (HasLine v A) u (us ++ ws) all)

    -- two texts with the same bytes have the same lines
    pub texts-same_lines : (t u : Text) (bytes : List ℕ) → IsText C A t bytes → IsText C A u bytes → lines_of C A u ≡ lines_of C A t
    texts-same_lines t u bytes is also =
        let on = behind t.version (lines_of C A t) u [] refl is.lines also.lines
        (append-nil (texts t.version (lines_of C A t)) ∙ (sym (grouped t) ∙ (sym is.is ∙ (also.is ∙ grouped u)))) in
        by on.more on.lines on.text on.all
      where
        by : (more : List Line) → lines_of C A u ≡ lines_of C A t ++ more → [] ≡ texts u.version more → All (HasLine u.version A) more → lines_of C A u ≡ lines_of C A t
        by [] lines text all = lines ∙ append-nil (lines_of C A t)
        by (k ∷ ks) lines text all = absurd (some u.version k (texts u.version ks) (All-head (HasLine u.version A) k ks all) (sym text))

    -- a line may follow others in the lines of a text
    goes_on : (ls : List Line) (s : Stage) (t : Text) (k : Line) (ks : List Line) → takes C A Start ls ≡ Some s → length t.histories ≡ length C → length t.logs ≡ length A
        → lines_of C A t ≡ ls ++ k ∷ ks → next C A s k ≡ None → ⊥
    goes_on ls s t k ks taken whole all lines none =
        none-some Done
        (sym (ap (λ o. go_on C A o (λ q. takes C A q (k ∷ ks))) taken ∙ ap (λ o. go_on C A o (λ q. takes C A q ks)) none)
        ∙ (sym (takes-append C A Start ls (k ∷ ks)) ∙ (ap (takes C A Start) (sym lines) ∙ text_taken t whole all)))

    -- lines that make up a text are one
    pub text_from : (v : Version) (ls : List Line) (all : AreAll C A ls) → v ≡ all.version → All (HasLine v A) ls → (t : Text) × IsText C A t (texts v ls)
    text_from v ls all version good =
        let t : Text = record { version = all.version; histories = all.histories.histories; logs = all.histories.logs.logs; blocked = all.histories.logs.end } in
        let lines : ls ≡ lines_of C A t =
        all.lines ∙ ap (λ r. First all.version ∷ r) (all.histories.lines ∙ ap (λ r. histories_lines C all.histories.histories ++ r) all.histories.logs.lines) in (
          t,
          record {
            histories = all.histories.whole;
            logs = all.histories.logs.whole;
            lines = subst (λ w. All (HasLine w A) (lines_of C A t)) version (subst (All (HasLine v A)) lines good);
            is = ap (texts v) lines ∙ (ap (λ w. texts w (lines_of C A t)) version ∙ sym (grouped t));
          },
        )

    first-same : (v w : Version) (l : Line) (ls ms : List Line) → l ≡ First v → l ∷ ls ≡ First w ∷ ms → v ≡ w
    first-same v w l ls ms is e = ap (version_or v) (sym is) ∙ ap (λ k. version_or v (get_or k 0 l)) e

    -- lines that have come begin a text
    begun : (v : Version) (ls : List Line) (s : Stage) → StartsWith v ls → All (HasLine v A) ls → takes C A Start ls ≡ Some s
        → AreDue (HasLine v A) (has_first A v) (has_end A v) C A Start → AreDue (HasLine v A) (has_first A v) (has_end A v) C A s → IsBegun C A (texts v ls)
    begun v [] s starts good taken names due =
        let hs = histories (HasLine v A) (has_first A v) (has_end A v) C A C names.0 names.1 in
        let on = text_from v (First v ∷ hs.0) (record { version = v; rest = hs.0; histories = hs.1; lines = refl }) refl (All-cons (HasLine v A) (First v) hs.0 tt hs.2) in
        record { text = on.0; rest = texts v (First v ∷ hs.0); is = on.1 }
    begun v (l ∷ ls) s starts good taken names due =
        let more = completes (HasLine v A) (has_first A v) (has_end A v) C A s due in
        let all = takes-rest C A Start (l ∷ ls) s more.lines (all_bare v (l ∷ ls) good) taken more.rest in
        let on = text_from v (l ∷ (ls ++ more.lines)) all (first-same v all.version l (ls ++ more.lines) all.rest starts all.lines)
        (All-append (HasLine v A) (l ∷ ls) more.lines good more.are) in
        record { text = on.0; rest = texts v more.lines; is = subst (IsText C A on.0) (flat_map-append (line_text v A) (l ∷ ls) more.lines) on.1 }

    -- where no line can follow, and the end hasn't come or isn't that of the bytes, the next line is at fault
    module _ (v : Version) (ls : List Line) (s : Stage) (starts : StartsWith v ls) (good : All (HasLine v A) ls) (taken : takes C A Start ls ≡ Some s)
        (x : List ℕ) (stuck : (k : Line) (r : List ℕ) → HasLine v A k → x ≡ line_text v A k ++ r → next C A s k ≡ None)
        (early : x ≡ [] → s ≡ Done → ⊥) where
      no_more : (t : Text) → length t.histories ≡ length C → length t.logs ≡ length A → (on : Behind v ls t x) → ⊥
      no_more t whole all on = by on.more on.lines on.text on.next
        where
          by : (more : List Line) → lines_of C A t ≡ ls ++ more → x ≡ texts t.version more
              → ((k : Line) (ks : List Line) → more ≡ k ∷ ks → HasLine v A k × (line_text t.version A k ≡ line_text v A k)) → ⊥
          by [] lines text first =
              early text (same_Some s Done (sym taken ∙ (ap (takes C A Start) (sym (append-nil ls)) ∙ (ap (takes C A Start) (sym lines) ∙ text_taken t whole all))))
          by (k ∷ ks) lines text first =
              let is = first k ks refl in
              goes_on ls s t k ks taken whole all lines (stuck k (texts t.version ks) is.0 (text ∙ ap (λ l. l ++ texts t.version ks) is.1))

      -- the line that the bytes go on with is none of a text
      no_line : (t : Text) (line rest more : List ℕ) → HasNoFeed line → x ≡ ended line ++ more → length t.histories ≡ length C → length t.logs ≡ length A
          → (on : Behind v ls t (ended line ++ rest)) → ⊥
      no_line t line rest more clean front whole all on = by on.more on.lines on.text on.next on.all
        where
          by : (ks : List Line) → lines_of C A t ≡ ls ++ ks → ended line ++ rest ≡ texts t.version ks
              → ((k : Line) (js : List Line) → ks ≡ k ∷ js → HasLine v A k × (line_text t.version A k ≡ line_text v A k)) → All (HasLine t.version A) ks → ⊥
          by [] lines text first has = no_end line text
            where
              no_end : (l : List ℕ) → ended l ++ rest ≡ [] → ⊥
              no_end [] e = omega (arith, ap length e)
              no_end (b ∷ bs) e = omega (arith, ap length e)
          by (k ∷ ks) lines text first has =
              let is = first k ks refl in
              let one_line = ends v k is.0 in
              let same = ended-one line one_line.front rest (texts t.version ks) clean one_line.clean
              (text ∙ ap (λ l. l ++ texts t.version ks) (is.1 ∙ one_line.ends)) in
              goes_on ls s t k ks taken whole all lines
              (stuck k more is.0 (front ∙ ap (λ l. l ++ more) (ap ended same.0 ∙ sym one_line.ends)))

      pub fault : (bytes : List ℕ) → bytes ≡ texts v ls ++ x → AreDue (HasLine v A) (has_first A v) (has_end A v) C A Start → AreDue (HasLine v A) (has_first A v) (has_end A v) C A s
          → IsFirstFault C A bytes (length ls + 1)
      fault bytes split names due =
          let lines = bytes_of v ls good in
          record {
            lines = lines.bytes;
            rest = x;
            counted = ap (λ n. n + 1) (sym lines.counted);
            whole = lines.clean;
            split = split ∙ ap (λ l. l ++ x) (sym lines.same);
            begun = subst (IsBegun C A) (sym lines.same) (begun v ls s starts good taken names due);
            faulty = λ line more clean front begins.
                no_line begins.text line begins.rest more clean front begins.is.histories begins.is.logs
                (behind v ls begins.text (ended line ++ begins.rest) starts good begins.is.lines
                (ap (λ l. l ++ (ended line ++ begins.rest)) (sym lines.same)
                ∙ (sym (append_assoc (flat_map ended lines.bytes) (ended line) begins.rest) ∙ (begins.is.is ∙ grouped begins.text))));
            unfinished = λ t is. no_more t is.histories is.logs (behind v ls t x starts good is.lines (sym split ∙ (is.is ∙ grouped t)));
          }
