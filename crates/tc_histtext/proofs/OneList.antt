-- The lines of a text tell all of it.
use Rattle.std.proofs.Common.{◌≡◌, ℕ, Bool, List, [], ◌∷◌, ◌++◌, map, length, drop, get_or, refl, sym, ap, ap₂, ◌∙◌, arith, append_assoc}
use Rattle.std.specs.List.{flat_map}
use Rattle.tc_model.specs.declared.entries.Entry.{Entry}
use Rattle.tc_model.specs.declared.entries.Entry.TheVariants.{Called, Gave, Looked}
use Rattle.tc_model.specs.declared.items.Item.{Item}
use Rattle.tc_histtext.specs.ReadTexts.{entry_lines, histories_lines, lines_of, logs_lines}
use Rattle.tc_histline.specs.declared.lines.Line.{Line}
use Rattle.tc_histline.specs.declared.lines.Line.TheVariants.{First, Centre, Agent, Reaction, Row, End}
use Rattle.tc_histline.specs.declared.lines.Line.TheVariants as line
use Rattle.tc_histline.specs.declared.lines.TextRow.{TextRow}
use Rattle.tc_histtext.specs.declared.read_texts.Text.{Text}
use Rattle.tc_histtext.proofs.Decoding.{version_or}

-- which of these a line is; of no list, a heading
abbrev kind : Line → ℕ
kind (line.Entry e) = 1
kind (Reaction i) = 2
kind (Row r) = 3
kind (First v) = 0
kind (Centre n) = 0
kind (Agent n) = 0
kind (End b) = 0

abbrev front_kind : List Line → ℕ
front_kind [] = 0
front_kind (l ∷ ls) = kind l

abbrev item_or : Item → Line → Item
item_or j (Reaction i) = i
item_or j (line.Entry e) = j
item_or j (Row r) = j
item_or j (First v) = j
item_or j (Centre n) = j
item_or j (Agent n) = j
item_or j (End b) = j

abbrev entry_or : Entry → Line → Entry
entry_or d (line.Entry e) = e
entry_or d (Reaction i) = d
entry_or d (Row r) = d
entry_or d (First v) = d
entry_or d (Centre n) = d
entry_or d (Agent n) = d
entry_or d (End b) = d

abbrev row_or : TextRow → Line → TextRow
row_or q (Row r) = r
row_or q (line.Entry e) = q
row_or q (Reaction i) = q
row_or q (First v) = q
row_or q (Centre n) = q
row_or q (Agent n) = q
row_or q (End b) = q

abbrev end_or : Bool → Line → Bool
end_or c (End b) = b
end_or c (line.Entry e) = c
end_or c (Reaction i) = c
end_or c (Row r) = c
end_or c (First v) = c
end_or c (Centre n) = c
end_or c (Agent n) = c

first-same : (a b : Line) (ls ms : List Line) → a ∷ ls ≡ b ∷ ms → a ≡ b
first-same a b ls ms e = ap (λ l. get_or l 0 a) e

-- an entry by its line and its reactions
abbrev bare : Entry → Entry
bare (Called id op o items) = Called id op o []
bare (Gave id o items) = Gave id o []
bare (Looked id asked told) = Looked id asked told

abbrev items_of : Entry → List Item
items_of (Called id op o items) = items
items_of (Gave id o items) = items
items_of (Looked id asked told) = []

abbrev with_items : List Item → Entry → Entry
with_items items (Called id op o none) = Called id op o items
with_items items (Gave id o none) = Gave id o items
with_items items (Looked id asked told) = Looked id asked told

entry_lines-parts : (e : Entry) → entry_lines e ≡ line.Entry (bare e) ∷ map Reaction (items_of e)
entry_lines-parts (Called id op o items) = refl
entry_lines-parts (Gave id o items) = refl
entry_lines-parts (Looked id asked told) = refl

entry-parts : (e : Entry) → with_items (items_of e) (bare e) ≡ e
entry-parts (Called id op o items) = refl
entry-parts (Gave id o items) = refl
entry-parts (Looked id asked told) = refl

items-one : (is js : List Item) (x y : List Line) → (front_kind x ≡ 2 → ⊥) → (front_kind y ≡ 2 → ⊥) → map Reaction is ++ x ≡ map Reaction js ++ y → (is ≡ js) × (x ≡ y)
items-one [] [] x y stops stop same = (refl, same)
items-one [] (j ∷ js) x y stops stop same = absurd (stops (ap front_kind same))
items-one (i ∷ is) [] x y stops stop same = absurd (stop (ap front_kind (sym same)))
items-one (i ∷ is) (j ∷ js) x y stops stop same =
    let on = items-one is js x y stops stop (ap (drop 1) same) in
    (ap₂ (λ k ks. k ∷ ks) (ap (item_or i) (first-same (Reaction i) (Reaction j) (map Reaction is ++ x) (map Reaction js ++ y) same)) on.0, on.1)

entry-one : (e g : Entry) (x y : List Line) → (front_kind x ≡ 2 → ⊥) → (front_kind y ≡ 2 → ⊥) → entry_lines e ++ x ≡ entry_lines g ++ y → (e ≡ g) × (x ≡ y)
entry-one e g x y stops stop same =
    let parts : line.Entry (bare e) ∷ (map Reaction (items_of e) ++ x) ≡ line.Entry (bare g) ∷ (map Reaction (items_of g) ++ y) =
    ap (λ l. l ++ x) (sym (entry_lines-parts e)) ∙ (same ∙ ap (λ l. l ++ y) (entry_lines-parts g)) in
    let items = items-one (items_of e) (items_of g) x y stops stop (ap (drop 1) parts) in
    let entry = ap (entry_or e) (first-same (line.Entry (bare e)) (line.Entry (bare g)) (map Reaction (items_of e) ++ x) (map Reaction (items_of g) ++ y) parts) in
    (sym (entry-parts e) ∙ (ap₂ with_items items.0 entry ∙ entry-parts g), items.1)

entries-front : (es : List Entry) (x : List Line) → (front_kind x ≡ 2 → ⊥) → front_kind (flat_map entry_lines es ++ x) ≡ 2 → ⊥
entries-front [] x stops e = stops e
entries-front (d ∷ es) x stops e =
    omega (arith, sym (ap (λ l. front_kind ((l ++ flat_map entry_lines es) ++ x)) (entry_lines-parts d)) ∙ e)

entry-front : (e : Entry) (x y : List Line) → front_kind ((entry_lines e ++ x) ++ y) ≡ 1
entry-front e x y = ap (λ l. front_kind ((l ++ x) ++ y)) (entry_lines-parts e)

entries-one : (es gs : List Entry) (x y : List Line) → front_kind x ≡ 0 → front_kind y ≡ 0 → flat_map entry_lines es ++ x ≡ flat_map entry_lines gs ++ y → (es ≡ gs) × (x ≡ y)
entries-one [] [] x y stops stop same = (refl, same)
entries-one [] (g ∷ gs) x y stops stop same = absurd (omega (arith, sym stops ∙ (ap front_kind same ∙ entry-front g (flat_map entry_lines gs) y)))
entries-one (e ∷ es) [] x y stops stop same = absurd (omega (arith, sym stop ∙ (ap front_kind (sym same) ∙ entry-front e (flat_map entry_lines es) x)))
entries-one (e ∷ es) (g ∷ gs) x y stops stop same =
    let one = entry-one e g (flat_map entry_lines es ++ x) (flat_map entry_lines gs ++ y)
    (entries-front es x (λ two. omega (arith, two, stops))) (entries-front gs y (λ two. omega (arith, two, stop)))
    (sym (append_assoc (entry_lines e) (flat_map entry_lines es) x) ∙ (same ∙ append_assoc (entry_lines g) (flat_map entry_lines gs) y)) in
    let on = entries-one es gs x y stops stop one.1 in
    (ap₂ (λ d ds. d ∷ ds) one.0 on.0, on.1)

histories-front : (ns : List (List ℕ)) (hs : List (List Entry)) (x : List Line) → front_kind x ≡ 0 → front_kind (histories_lines ns hs ++ x) ≡ 0
histories-front [] hs x stops = stops
histories-front (n ∷ ns) [] x stops = stops
histories-front (n ∷ ns) (h ∷ hs) x stops = refl

histories-one : (ns : List (List ℕ)) (hs gs : List (List Entry)) (x y : List Line) → length hs ≡ length ns → length gs ≡ length ns → front_kind x ≡ 0 → front_kind y ≡ 0
    → histories_lines ns hs ++ x ≡ histories_lines ns gs ++ y → (hs ≡ gs) × (x ≡ y)
histories-one [] [] [] x y whole all stops stop same = (refl, same)
histories-one [] (h ∷ hs) gs x y whole all stops stop same = absurd (omega (arith, whole))
histories-one [] [] (g ∷ gs) x y whole all stops stop same = absurd (omega (arith, all))
histories-one (n ∷ ns) [] gs x y whole all stops stop same = absurd (omega (arith, whole))
histories-one (n ∷ ns) (h ∷ hs) [] x y whole all stops stop same = absurd (omega (arith, all))
histories-one (n ∷ ns) (h ∷ hs) (g ∷ gs) x y whole all stops stop same =
    let first = entries-one h g (histories_lines ns hs ++ x) (histories_lines ns gs ++ y) (histories-front ns hs x stops) (histories-front ns gs y stop)
    (sym (append_assoc (flat_map entry_lines h) (histories_lines ns hs) x) ∙ (ap (drop 1) same ∙ append_assoc (flat_map entry_lines g) (histories_lines ns gs) y)) in
    let on = histories-one ns hs gs x y (omega (arith, whole)) (omega (arith, all)) stops stop first.1 in
    (ap₂ (λ k ks. k ∷ ks) first.0 on.0, on.1)

rows-one : (l m : List TextRow) (x y : List Line) → front_kind x ≡ 0 → front_kind y ≡ 0 → map Row l ++ x ≡ map Row m ++ y → (l ≡ m) × (x ≡ y)
rows-one [] [] x y stops stop same = (refl, same)
rows-one [] (r ∷ m) x y stops stop same = absurd (omega (arith, sym stops ∙ ap front_kind same))
rows-one (r ∷ l) [] x y stops stop same = absurd (omega (arith, sym stop ∙ ap front_kind (sym same)))
rows-one (r ∷ l) (q ∷ m) x y stops stop same =
    let on = rows-one l m x y stops stop (ap (drop 1) same) in
    (ap₂ (λ k ks. k ∷ ks) (ap (row_or r) (first-same (Row r) (Row q) (map Row l ++ x) (map Row m ++ y) same)) on.0, on.1)

logs-front : (ns : List (List ℕ)) (ls : List (List TextRow)) (b : Bool) → front_kind (logs_lines ns ls ++ End b ∷ []) ≡ 0
logs-front [] ls b = refl
logs-front (n ∷ ns) [] b = refl
logs-front (n ∷ ns) (l ∷ ls) b = refl

logs-one : (ns : List (List ℕ)) (ls ms : List (List TextRow)) (b c : Bool) → length ls ≡ length ns → length ms ≡ length ns → logs_lines ns ls ++ End b ∷ [] ≡ logs_lines ns ms ++ End c ∷ []
    → (ls ≡ ms) × (b ≡ c)
logs-one [] [] [] b c whole all same = (refl, ap (end_or b) (first-same (End b) (End c) [] [] same))
logs-one [] (l ∷ ls) ms b c whole all same = absurd (omega (arith, whole))
logs-one [] [] (m ∷ ms) b c whole all same = absurd (omega (arith, all))
logs-one (n ∷ ns) [] ms b c whole all same = absurd (omega (arith, whole))
logs-one (n ∷ ns) (l ∷ ls) [] b c whole all same = absurd (omega (arith, all))
logs-one (n ∷ ns) (l ∷ ls) (m ∷ ms) b c whole all same =
    let first = rows-one l m (logs_lines ns ls ++ End b ∷ []) (logs_lines ns ms ++ End c ∷ []) (logs-front ns ls b) (logs-front ns ms c)
    (sym (append_assoc (map Row l) (logs_lines ns ls) (End b ∷ [])) ∙ (ap (drop 1) same ∙ append_assoc (map Row m) (logs_lines ns ms) (End c ∷ []))) in
    let on = logs-one ns ls ms b c (omega (arith, whole)) (omega (arith, all)) first.1 in
    (ap₂ (λ k ks. k ∷ ks) first.0 on.0, on.1)

-- two texts with the same lines are one
pub lines_of-one : (C A : List (List ℕ)) (t u : Text) → length t.histories ≡ length C → length u.histories ≡ length C → length t.logs ≡ length A → length u.logs ≡ length A
    → lines_of C A t ≡ lines_of C A u → t ≡ u
lines_of-one C A t u whole all wide broad same =
    let first = ap (version_or t.version)
    (first-same (First t.version) (First u.version) (histories_lines C t.histories ++ (logs_lines A t.logs ++ End t.blocked ∷ [])) (histories_lines C u.histories ++ (logs_lines A u.logs ++ End u.blocked ∷ [])) same) in
    let hs = histories-one C t.histories u.histories (logs_lines A t.logs ++ End t.blocked ∷ []) (logs_lines A u.logs ++ End u.blocked ∷ []) whole all
    (logs-front A t.logs t.blocked) (logs-front A u.logs u.blocked) (ap (drop 1) same) in
    let ls = logs-one A t.logs u.logs t.blocked u.blocked wide broad hs.1 in
    ap₂ (λ v h. record { version = v; histories = h; logs = t.logs; blocked = t.blocked }) first hs.0
    ∙ ap₂ (λ l b. record { version = u.version; histories = u.histories; logs = l; blocked = b }) ls.0 ls.1
