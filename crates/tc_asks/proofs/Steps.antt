-- The items of scripts, and what stands at a place among them.
use Rattle.std.proofs.Common.{◌≡◌, ◌<◌, ◌≤◌, ◌+◌, inl, inr, ℕ, List, [], ◌∷◌, ◌++◌, Some, length, take, drop, All, ap, sym, ◌∙◌, length-append, arith, refl}
use Rattle.std.specs.List.{slice_get}
use Rattle.std.specs.Option.{option_map}
use Rattle.std.proofs.lemmas.Bool.{cases_lt}
use Rattle.std.proofs.lemmas.List.{append_assoc, get_or_default, get_or_past, length-map, length-take-le, take-append-drop, take_all}
use Rattle.std.proofs.lemmas.List.Elements.{All-append, All-map, All-nil, All-weaker}
use Rattle.std.proofs.lemmas.Option.{slice_get-map, slice_get_within}
use Rattle.tc_lists.proofs.Parts.{drop_read, take_read}
use Rattle.tc_lists.proofs.Places.{slice_get_longer, slice_get_behind}
use Rattle.tc_model.specs.Scripts.{Lines}
use Rattle.tc_model.specs.declared.scripts.ScriptItem.{ScriptItem}
use Rattle.tc_desk.specs.Asks.{ScriptStep, steps_at, steps_from, steps_of}
use Rattle.tc_asks.specs.Places.{IsBehindItems, IsItemAt, IsPlaced, script_at}

-- the items of the first scripts, and those of the others
pub steps_from-append : (place : ℕ) (ss ts : List Lines) → steps_from place (ss ++ ts) ≡ steps_from place ss ++ steps_from (place + length ss) ts
steps_from-append place [] ts = ap (λ n. steps_from n ts) (omega arith)
steps_from-append place (s ∷ ss) ts =
    ap (λ steps. steps_at place s ++ steps) (steps_from-append (place + 1) ss ts)
    ∙ sym (append_assoc (steps_at place s) (steps_from (place + 1) ss) (steps_from (place + 1 + length ss) ts))
    ∙ ap (λ n. (steps_at place s ++ steps_from (place + 1) ss) ++ steps_from n ts) (omega arith)

-- items are of the scripts that they stand in
pub steps_from-below : (place : ℕ) (ss : List Lines) → All (λ step. step.script < place + length ss) (steps_from place ss)
steps_from-below place [] = All-nil (λ step. step.script < place + 0)
steps_from-below place (s ∷ ss) =
    All-append (λ step. step.script < place + length (s ∷ ss)) (steps_at place s) (steps_from (place + 1) ss)
    (All-map (λ step. step.script < place + length (s ∷ ss)) (λ (i : ScriptItem). record { script = place; vars = s.vars; item = i }) s.items (λ k d inside. omega arith))
    (All-weaker (λ step. step.script < place + 1 + length ss) (λ step. step.script < place + length (s ∷ ss)) (λ step below. omega (arith, below)) (steps_from (place + 1) ss) (steps_from-below (place + 1) ss))

-- the items of the scripts before a place, and those from there on
pub steps-split : (scripts : List Lines) (n : ℕ) → steps_of scripts ≡ steps_of (take n scripts) ++ steps_from (length (take n scripts)) (drop n scripts)
steps-split scripts n =
    ap steps_of (sym (take-append-drop n scripts)) ∙ steps_from-append 0 (take n scripts) (drop n scripts)
    ∙ ap (λ k. steps_of (take n scripts) ++ steps_from k (drop n scripts)) (omega arith)

length-steps_at : (place : ℕ) (s : Lines) → length (steps_at place s) ≡ length s.items
length-steps_at place s =
    let step : ScriptItem → ScriptStep = λ i. record { script = place; vars = s.vars; item = i } in
    length-map s.items step

-- one script more
pub length-steps-next : (scripts : List Lines) (n : ℕ) → n < length scripts →
    length (steps_of (take (n + 1) scripts)) ≡ length (steps_of (take n scripts)) + length (script_at scripts n).items
length-steps-next scripts n inside =
    let s = script_at scripts n in
    let ss = take n scripts in
    ap (λ ts. length (steps_of ts)) (take_read scripts n s inside (get_or_default scripts n (record { vars = 0; items = [] }) s inside))
    ∙ ap length (steps_from-append 0 ss (s ∷ []))
    ∙ length-append (steps_of ss) (steps_from (0 + length ss) (s ∷ []))
    ∙ ap (λ k. length (steps_of ss) + k) (length-append (steps_at (0 + length ss) s) [])
    ∙ omega (arith, length-steps_at (0 + length ss) s)

-- no script has an item behind the last script
items_past : (scripts : List Lines) (n : ℕ) → length scripts ≤ n → length (script_at scripts n).items ≡ 0
items_past scripts n past = ap (λ (s : Lines). length s.items) (get_or_past scripts n (record { vars = 0; items = [] }) past)

-- the item of a place is the item of its number
pub step_at : (scripts : List Lines) (n k count : ℕ) (i : ScriptItem) → IsPlaced scripts n k count → IsItemAt scripts n k i →
    slice_get (steps_of scripts) count ≡ Some (record { script = n; vars = (script_at scripts n).vars; item = i })
step_at scripts n k count i placed at =
    let s = script_at scripts n in
    let within : k < length s.items = slice_get_within s.items k i at.stands in
    elim (cases_lt n (length scripts)) [
      | inl inside ↦
          let front = steps_of (take n scripts) in
          let step : ScriptItem → ScriptStep = λ i. record { script = n; vars = s.vars; item = i } in
          let behind : steps_from n (drop n scripts) ≡ steps_at n s ++ steps_from (n + 1) (drop (n + 1) scripts) =
          ap (steps_from n) (drop_read scripts n s inside (get_or_default scripts n (record { vars = 0; items = [] }) s inside)) in
          let split : steps_of scripts ≡ front ++ (steps_at n s ++ steps_from (n + 1) (drop (n + 1) scripts)) =
          steps-split scripts n ∙ ap (λ m. front ++ steps_from m (drop n scripts)) (length-take-le n scripts (omega (arith, inside)))
          ∙ ap (λ steps. front ++ steps) behind in
          ap (λ m. slice_get (steps_of scripts) m) placed.before
          ∙ ap (λ steps. slice_get steps (length front + k)) split
          ∙ slice_get_behind front (steps_at n s ++ steps_from (n + 1) (drop (n + 1) scripts)) (length front + k) k refl
          ∙ slice_get_longer (steps_at n s) (steps_from (n + 1) (drop (n + 1) scripts)) k (step i) (slice_get-map step s.items k ∙ ap (option_map step) at.stands)
      | inr past ↦ absurd (omega (arith, within, items_past scripts n past))
    ]

-- behind the last script stand all items
pub steps_end : (scripts : List Lines) (n k count : ℕ) → IsPlaced scripts n k count → length scripts ≤ n → length (steps_of scripts) ≡ count
steps_end scripts n k count placed past =
    omega (arith, placed.before, placed.inside, items_past scripts n past, ap (λ ss. length (steps_of ss)) (take_all n scripts past))

-- the end of a script is the beginning of the next one
pub placed_next : (scripts : List Lines) (n k count : ℕ) → n < length scripts → IsBehindItems scripts n k → IsPlaced scripts n k count → IsPlaced scripts (n + 1) 0 count
placed_next scripts n k count inside end placed = record {
  before = omega (arith, placed.before, placed.inside, end, length-steps-next scripts n inside);
  inside = omega arith;
}
