-- How the lines so far grow by one.
use Rattle.std.proofs.Common.{◌≡◌, ◌<◌, ◌+◌, ℕ, true, false, List, [], ◌∷◌, ◌++◌, map, length, drop, get_or, refl, sym, ap, ◌∙◌, arith, append_assoc, append-nil}
use Rattle.std.specs.List.{flat_map}
use Rattle.std.proofs.lemmas.Bool.{true≢false}
use Rattle.std.proofs.lemmas.Grind.{flat_map-append}
use Rattle.std.proofs.lemmas.List.{drop-drop, length-drop, map-append}
use Rattle.std.proofs.lemmas.Slice.Eq.{bytes_eq-Decides}
use Rattle.tc_model.specs.declared.entries.Entry.{Entry}
use Rattle.tc_histtext.specs.ReadTexts.{entry_lines, histories_lines, logs_lines}
use Rattle.tc_histtext.specs.Reading.{is_next}
use Rattle.tc_histline.specs.declared.lines.Line.{Line}
use Rattle.tc_histline.specs.declared.lines.Line.TheVariants.{Centre, Agent, Row}
use Rattle.tc_histline.specs.declared.lines.TextRow.{TextRow}

-- no histories, no lines
pub no_histories : (ns : List (List ℕ)) → histories_lines ns [] ≡ []
no_histories [] = refl
no_histories (n ∷ ns) = refl

pub no_logs : (ns : List (List ℕ)) → logs_lines ns [] ≡ []
no_logs [] = refl
no_logs (n ∷ ns) = refl

behind_histories : (ns : List (List ℕ)) (ls : List Line) → ls ++ histories_lines ns [] ≡ ls
behind_histories ns ls = ap (λ x. ls ++ x) (no_histories ns) ∙ append-nil ls

behind_logs : (ns : List (List ℕ)) (ls : List Line) → ls ++ logs_lines ns [] ≡ ls
behind_logs ns ls = ap (λ x. ls ++ x) (no_logs ns) ∙ append-nil ls

first-same : (m n : List ℕ) (ms ns : List (List ℕ)) → m ∷ ms ≡ n ∷ ns → m ≡ n
first-same m n ms ns e = ap (λ l. get_or l 0 []) e

-- a history is begun by its heading
pub histories_lines-open : (ns : List (List ℕ)) (hs : List (List Entry)) (n : List ℕ) (rest : List (List ℕ)) → drop (length hs) ns ≡ n ∷ rest
    → histories_lines ns (hs ++ [] ∷ []) ≡ histories_lines ns hs ++ Centre n ∷ []
histories_lines-open [] [] n rest e = absurd (omega (arith, ap length e))
histories_lines-open [] (h ∷ hs) n rest e = absurd (omega (arith, ap length e))
histories_lines-open (m ∷ ms) [] n rest e = ap (λ l. Centre m ∷ l) (no_histories ms) ∙ ap (λ k. Centre k ∷ []) (first-same m n ms rest e)
histories_lines-open (m ∷ ms) (h ∷ hs) n rest e =
    ap (λ l. Centre m ∷ l) (ap (λ l. flat_map entry_lines h ++ l) (histories_lines-open ms hs n rest e)
    ∙ sym (append_assoc (flat_map entry_lines h) (histories_lines ms hs) (Centre n ∷ [])))

pub logs_lines-open : (ns : List (List ℕ)) (ls : List (List TextRow)) (n : List ℕ) (rest : List (List ℕ)) → drop (length ls) ns ≡ n ∷ rest
    → logs_lines ns (ls ++ [] ∷ []) ≡ logs_lines ns ls ++ Agent n ∷ []
logs_lines-open [] [] n rest e = absurd (omega (arith, ap length e))
logs_lines-open [] (l ∷ ls) n rest e = absurd (omega (arith, ap length e))
logs_lines-open (m ∷ ms) [] n rest e = ap (λ l. Agent m ∷ l) (no_logs ms) ∙ ap (λ k. Agent k ∷ []) (first-same m n ms rest e)
logs_lines-open (m ∷ ms) (l ∷ ls) n rest e =
    ap (λ x. Agent m ∷ x) (ap (λ x. map Row l ++ x) (logs_lines-open ms ls n rest e)
    ∙ sym (append_assoc (map Row l) (logs_lines ms ls) (Agent n ∷ [])))

-- the last history grows
pub histories_lines-grow : (ns : List (List ℕ)) (hs : List (List Entry)) (h k : List Entry) (more : List Line) → length hs < length ns
    → flat_map entry_lines k ≡ flat_map entry_lines h ++ more
    → histories_lines ns (hs ++ k ∷ []) ≡ histories_lines ns (hs ++ h ∷ []) ++ more
histories_lines-grow [] hs h k more less e = absurd (omega (arith, less))
histories_lines-grow (n ∷ ns) [] h k more less e =
    ap (λ l. Centre n ∷ l) (behind_histories ns (flat_map entry_lines k) ∙ (e ∙ ap (λ l. l ++ more) (sym (behind_histories ns (flat_map entry_lines h)))))
histories_lines-grow (n ∷ ns) (g ∷ gs) h k more less e =
    ap (λ l. Centre n ∷ l) (ap (λ l. flat_map entry_lines g ++ l) (histories_lines-grow ns gs h k more (omega (arith, less)) e)
    ∙ sym (append_assoc (flat_map entry_lines g) (histories_lines ns (gs ++ h ∷ [])) more))

pub logs_lines-grow : (ns : List (List ℕ)) (ls : List (List TextRow)) (l : List TextRow) (r : TextRow) → length ls < length ns
    → logs_lines ns (ls ++ (l ++ r ∷ []) ∷ []) ≡ logs_lines ns (ls ++ l ∷ []) ++ Row r ∷ []
logs_lines-grow [] ls l r less = absurd (omega (arith, less))
logs_lines-grow (n ∷ ns) [] l r less =
    ap (λ x. Agent n ∷ x) (behind_logs ns (map Row (l ++ r ∷ [])) ∙ (map-append Row l (r ∷ []) ∙ ap (λ x. x ++ Row r ∷ []) (sym (behind_logs ns (map Row l)))))
logs_lines-grow (n ∷ ns) (g ∷ gs) l r less =
    ap (λ x. Agent n ∷ x) (ap (λ x. map Row g ++ x) (logs_lines-grow ns gs l r (omega (arith, less)))
    ∙ sym (append_assoc (map Row g) (logs_lines ns (gs ++ l ∷ [])) (Row r ∷ [])))

-- an entry grows behind others
pub entries_lines-grow : (es : List Entry) (e g : Entry) (more : List Line) → entry_lines g ≡ entry_lines e ++ more
    → flat_map entry_lines (es ++ g ∷ []) ≡ flat_map entry_lines (es ++ e ∷ []) ++ more
entries_lines-grow es e g more is =
    flat_map-append entry_lines es (g ∷ [])
    ∙ (ap (λ l. flat_map entry_lines es ++ l) (append-nil (entry_lines g) ∙ (is ∙ ap (λ l. l ++ more) (sym (append-nil (entry_lines e)))))
    ∙ (sym (append_assoc (flat_map entry_lines es) (flat_map entry_lines (e ∷ [])) more)
    ∙ ap (λ l. l ++ more) (sym (flat_map-append entry_lines es (e ∷ [])))))

pub entries_lines-push : (es : List Entry) (e : Entry) (l : Line) → entry_lines e ≡ l ∷ []
    → flat_map entry_lines (es ++ e ∷ []) ≡ flat_map entry_lines es ++ l ∷ []
entries_lines-push es e l is =
    flat_map-append entry_lines es (e ∷ []) ∙ ap (λ x. flat_map entry_lines es ++ x) (append-nil (entry_lines e) ∙ is)

-- the next name, and what is left behind it
pub next-some : (left : List (List ℕ)) (name : List ℕ) → is_next left name ≡ true → (rest : List (List ℕ)) × (left ≡ name ∷ rest)
next-some [] name e = absurd (true≢false (sym e))
next-some (n ∷ ns) name e = (ns, ap (λ m. m ∷ ns) (sym ((bytes_eq-Decides name n).0 e)))

pub drop-rest : (k : ℕ) (ns : List (List ℕ)) (n : List ℕ) (rest : List (List ℕ)) → drop k ns ≡ n ∷ rest → drop (k + 1) ns ≡ rest
drop-rest k ns n rest e = sym (drop-drop 1 k ns) ∙ ap (drop 1) e

pub drop-less : (k : ℕ) (ns : List (List ℕ)) (n : List ℕ) (rest : List (List ℕ)) → drop k ns ≡ n ∷ rest → k < length ns
drop-less k ns n rest e = omega (arith, length-drop k ns, ap length e)
