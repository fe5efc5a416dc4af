-- Reactions that are held, and those that the last entry is given.
use Rattle.std.proofs.Common.{◌≡◌, ◌≢◌, ℕ, Bool, true, false, List, [], ◌∷◌, ◌++◌, map, drop, refl, sym, ap, ◌∙◌, append_assoc, append-nil}
use Rattle.std.proofs.lemmas.List.{map-append}
use Rattle.tc_model.specs.declared.entries.Entry.{Entry}
use Rattle.tc_model.specs.declared.items.Item.{Item}
use Rattle.tc_histline.specs.declared.lines.Line.{Line}
use Rattle.tc_histline.specs.declared.lines.Line.TheVariants.{Reaction}
use Rattle.tc_histline.specs.declared.lines.TextRow.{TextRow}
use Rattle.tc_histline.specs.declared.versions.Version.{Version}
use Rattle.tc_histtext.specs.Machine.{next}
use Rattle.tc_histtext.specs.Machine as stage
use Rattle.tc_histtext.specs.Reading.{Answers, IsAt, IsHeld, IsSound, MayReact, PutLastReactions, Settles, stage_behind}
use Rattle.tc_histtext.specs.declared.reading.Place.{Place}
use Rattle.tc_histtext.specs.declared.reading.Place.TheVariants.{Start, Before, Within, Reacting, Telling, Done}
use Rattle.tc_histtext.specs.declared.reading.Reading.{Reading}
use Rattle.tc_histtext.proofs.Steps.{lines_in, reactions_put}

pub none-held : (p : Place) (items : List Item) → items ≡ [] → IsHeld p items
none-held Start items none = none
none-held Before items none = none
none-held Within items none = none
none-held Reacting items none = tt
none-held Telling items none = none
none-held Done items none = none

-- lines behind which none are held
lines-settled : (ls : List Line) (items : List Item) → items ≡ [] → ls ++ map Reaction items ≡ ls
lines-settled ls items none = ap (λ x. ls ++ map Reaction x) none ∙ append-nil ls

-- there a line goes behind them
pub settled-push : (ls ms : List Line) (l : Line) (items : List Item) → items ≡ [] → ms ≡ ls ++ l ∷ []
    → ms ++ map Reaction items ≡ (ls ++ map Reaction items) ++ l ∷ []
settled-push ls ms l items none is = lines-settled ms items none ∙ (is ∙ ap (λ x. x ++ l ∷ []) (sym (lines-settled ls items none)))

-- one more is held
pub held-push : (ls : List Line) (items : List Item) (i : Item) → ls ++ map Reaction (items ++ i ∷ []) ≡ (ls ++ map Reaction items) ++ Reaction i ∷ []
held-push ls items i = ap (λ x. ls ++ x) (map-append Reaction items (i ∷ [])) ∙ sym (append_assoc ls (map Reaction items) (Reaction i ∷ []))

module _ (C A : List (List ℕ)) where
  -- where some are held, the last entry may have them
  pub may_react : (p : Place) (hs : List (List Entry)) (ls : List (List TextRow)) (items : List Item) → items ≢ [] → IsAt p C A hs ls → IsHeld p items → MayReact hs
  may_react Start hs ls items some sound held = absurd (some held)
  may_react Before hs ls items some sound held = absurd (some held)
  may_react Within hs ls items some sound held = absurd (some held)
  may_react Reacting hs ls items some sound held = sound.0
  may_react Telling hs ls items some sound held = absurd (some held)
  may_react Done hs ls items some sound held = absurd (some held)

  puts : (p : Place) (v : Version) (hs gs : List (List Entry)) (ls : List (List TextRow)) (a : Bool) (items : List Item) → items ≢ [] → PutLastReactions hs items gs
      → IsAt p C A hs ls → IsHeld p items
      → (stage_behind p C A gs ls ≡ stage_behind p C A hs ls) × (lines_in C A p v gs ls a ≡ lines_in C A p v hs ls a ++ map Reaction items) × IsAt p C A gs ls
  puts Start v hs gs ls a items some put sound held = absurd (some held)
  puts Before v hs gs ls a items some put sound held = absurd (some held)
  puts Within v hs gs ls a items some put sound held = absurd (some held)
  puts Reacting v hs gs ls a items some put sound held =
      let on = reactions_put C A v hs gs ls a items put sound in
      (ap (λ k. stage.Reacting (drop k C)) on.0, on.1, on.2)
  puts Telling v hs gs ls a items some put sound held = absurd (some held)
  puts Done v hs gs ls a items some put sound held = absurd (some held)

  -- nothing is to be done where none are held
  pub settles-none : (r : Reading) → r.items.items ≡ [] → IsSound C A r → Settles C A r r
  settles-none r none sound = record { stage = refl; lines = refl; sound = sound; none = none }

  -- the last entry is given those that are held
  pub settles : (p : Place) (v : Version) (hs gs : List (List Entry)) (ls : List (List TextRow)) (a : Bool) (items none : List Item) → items ≢ [] → none ≡ [] → PutLastReactions hs items gs
      → IsAt p C A hs ls × IsHeld p items
      → (stage_behind p C A gs ls ≡ stage_behind p C A hs ls)
      × (lines_in C A p v gs ls a ++ map Reaction none ≡ lines_in C A p v hs ls a ++ map Reaction items)
      × (IsAt p C A gs ls × IsHeld p none)
  settles p v hs gs ls a items none some is put sound =
      let on = puts p v hs gs ls a items some put sound.0 sound.1 in
      (on.0, lines-settled (lines_in C A p v gs ls a) none is ∙ on.1, (on.2, none-held p none is))

  -- what is answered to a line then is the answer to it
  pub answers-settled : (old mid new : Reading) (l : Line) (taken : Bool) → Settles C A old mid → Answers C A mid l taken new → Answers C A old l taken new
  answers-settled old mid new l true s on = record {
    next = ap (λ t. next C A t l) (sym s.stage) ∙ on.next;
    lines = on.lines ∙ ap (λ x. x ++ l ∷ []) s.lines;
    sound = on.sound;
  }
  answers-settled old mid new l false s on = ap (λ t. next C A t l) (sym s.stage) ∙ on
