-- Lines that have come, one after another.
use Rattle.std.proofs.Common.{◌≡◌, ◌≢◌, ◌<◌, ◌≤◌, ◌+◌, ℕ, Bool, List, [], ◌∷◌, ◌++◌, length, map, drop, Some, None, All, refl, sym, ap, subst, ◌∙◌, arith, append_assoc, append-nil}
use Rattle.std.specs.List.{flat_map}
use Rattle.std.proofs.lemmas.Grind.{flat_map-append}
use Rattle.std.proofs.lemmas.List.{length-append, length-drop}
use Rattle.std.proofs.lemmas.List.Elements.{All-cons, All-drop, All-nil, All-push}
use Rattle.tc_model.specs.Typed.{AreBytes}
use Rattle.tc_histline.specs.declared.versions.Version.{Version}
use Rattle.tc_histtext.proofs.LineLaws.{LineLaws}
use Rattle.tc_histline.specs.Lines.{HasLine, line_text}
use Rattle.tc_histtext.specs.Machine.{Stage, next, go_on, takes}
use Rattle.tc_histtext.specs.Machine as stage
use Rattle.tc_histtext.specs.Reading.{GoesOn, IsAt, IsHeld, IsSound, IsStuck, IsWhole, lines_so_far, stage_of, stage_behind}
use Rattle.tc_histtext.specs.ReadTexts.{IsFirstFault, IsText, lines_of}
use Rattle.tc_histline.specs.declared.lines.Line.{Line}
use Rattle.tc_histline.specs.declared.lines.Line.TheVariants.{First, Reaction}
use Rattle.tc_histline.specs.declared.lines.TextRow.{TextRow}
use Rattle.tc_histtext.specs.declared.reading.Place.{Place}
use Rattle.tc_histtext.specs.declared.reading.Place.TheVariants.{Start, Before, Within, Reacting, Telling, Done}
use Rattle.tc_histtext.specs.declared.reading.Reading.{Reading}
use Rattle.tc_histtext.specs.declared.read_texts.Text.{Text}
use Rattle.tc_model.specs.declared.entries.Entry.{Entry}
use Rattle.tc_model.specs.declared.items.Item.{Item}
use Rattle.tc_histtext.proofs.Completing.{AreDue}
use Rattle.tc_histtext.proofs.Decoding.{StartsWith, fault, has_end, has_first, version_or}
use Rattle.tc_histtext.proofs.Machine.{takes-append}
use Rattle.tc_histtext.proofs.Regrouping.{grouped}
use Rattle.tc_histtext.proofs.Steps.{lines_in, nothing}

-- some byte stands in a line
pub some-byte : (A : List (List ℕ)) → LineLaws A → (v : Version) (l : Line) → HasLine v A l → 0 < length (line_text v A l)
some-byte A laws v l has =
    let one = laws.ends v l has in omega (arith, ap length one.ends, length-append one.front (10 ∷ []))

module _ (C A : List (List ℕ)) where
  starts-place : (p : Place) (v : Version) (hs : List (List Entry)) (ls : List (List TextRow)) (b : Bool) (items : List Item) → IsAt p C A hs ls → IsHeld p items
      → StartsWith v (lines_in C A p v hs ls b ++ map Reaction items)
  starts-place Start v hs ls b items sound held =
      subst (StartsWith v) (sym (ap (λ x. x ++ map Reaction items) (nothing C A hs ls sound.0 sound.1) ∙ ap (map Reaction) held)) tt
  starts-place Before v hs ls b items sound held = refl
  starts-place Within v hs ls b items sound held = refl
  starts-place Reacting v hs ls b items sound held = refl
  starts-place Telling v hs ls b items sound held = refl
  starts-place Done v hs ls b items sound held = refl

  starts : (r : Reading) → IsSound C A r → StartsWith r.version (lines_so_far C A r)
  starts r sound = starts-place r.place r.version r.histories.items r.logs.items r.blocked r.items.items sound.0 sound.1

  abbrev AreNamed : Version → Stage → Type 0
  AreNamed v s = AreDue (HasLine v A) (has_first A v) (has_end A v) C A s

  -- headings that are still due are of names
  due-place : (v : Version) (p : Place) (hs : List (List Entry)) (ls : List (List TextRow)) → All AreBytes C → All AreBytes A → AreNamed v (stage_behind p C A hs ls)
  due-place v Start hs ls named all = (named, all)
  due-place v Before hs ls named all = (All-drop AreBytes (length hs) C named, all)
  due-place v Within hs ls named all = (All-drop AreBytes (length hs) C named, all)
  due-place v Reacting hs ls named all = (All-drop AreBytes (length hs) C named, all)
  due-place v Telling hs ls named all = All-drop AreBytes (length ls) A all
  due-place v Done hs ls named all = tt

  -- so many lines have come, and these bytes are left
  pub record HasCome (bytes : List ℕ) (r : Reading) (rest : List ℕ) (count : ℕ) : Type 0 where
    pub sound : IsSound C A r
    pub good : All (HasLine r.version A) (lines_so_far C A r)
    pub taken : takes C A stage.Start (lines_so_far C A r) ≡ Some (stage_of C A r)
    pub split : bytes ≡ flat_map (line_text r.version A) (lines_so_far C A r) ++ rest
    pub counted : count ≡ length (lines_so_far C A r)
    pub fits : count + length rest ≤ length bytes

  -- before the first line
  pub none-come : (bytes : List ℕ) (r : Reading) → stage_of C A r ≡ stage.Start → lines_so_far C A r ≡ [] → IsSound C A r → HasCome bytes r bytes 0
  none-come bytes r start none sound = record {
    sound = sound;
    good = subst (All (HasLine r.version A)) (sym none) (All-nil (HasLine r.version A));
    taken = ap (takes C A stage.Start) none ∙ ap Some (sym start);
    split = ap (λ ls. flat_map (line_text r.version A) ls ++ bytes) (sym none);
    counted = ap length (sym none);
    fits = omega arith;
  }

  -- the lines so far and one more, in whichever version they were read
  one-more : (v w : Version) (ls : List Line) (l : Line) (ms : List Line) (bytes rest more : List ℕ) → StartsWith v ls → StartsWith w ms → ms ≡ ls ++ l ∷ []
      → All (HasLine v A) ls → HasLine v A l → bytes ≡ flat_map (line_text v A) ls ++ rest → rest ≡ line_text v A l ++ more
      → All (HasLine w A) ms × (bytes ≡ flat_map (line_text w A) ms ++ more)
  one-more v w [] l ms bytes rest more start on same good has split front =
      let first : l ≡ First w = subst (StartsWith w) same on in (
        subst (All (HasLine w A)) (sym same) (subst (λ k. All (HasLine w A) (k ∷ [])) (sym first) (All-cons (HasLine w A) (First w) [] tt (All-nil (HasLine w A)))),
        split ∙ (front ∙ (ap (λ k. line_text v A k ++ more) first
            ∙ (ap (λ x. x ++ more) (sym (append-nil (line_text w A (First w))))
            ∙ ap (λ ks. flat_map (line_text w A) ks ++ more) (sym (same ∙ ap (λ k. k ∷ []) first))))),
      )
  one-more v w (k ∷ ks) l ms bytes rest more start on same good has split front =
      let version : v ≡ w = ap (version_or v) (sym start ∙ subst (StartsWith w) same on) in
      subst (λ u. All (HasLine u A) ms × (bytes ≡ flat_map (line_text u A) ms ++ more)) version (
        subst (All (HasLine v A)) (sym same) (All-push (HasLine v A) (k ∷ ks) l good has),
        split ∙ (ap (λ x. flat_map (line_text v A) (k ∷ ks) ++ x) front
            ∙ (sym (append_assoc (flat_map (line_text v A) (k ∷ ks)) (line_text v A l) more)
            ∙ ap (λ x. x ++ more) (ap (λ x. flat_map (line_text v A) (k ∷ ks) ++ x) (sym (append-nil (line_text v A l)))
            ∙ (sym (flat_map-append (line_text v A) (k ∷ ks) (l ∷ [])) ∙ ap (flat_map (line_text v A)) (sym same))))),
      )

  -- one more has come
  pub more-come : (laws : LineLaws A) (bytes : List ℕ) (r q : Reading) (rest : List ℕ) (count : ℕ) (l : Line) (size : ℕ) → HasCome bytes r rest count → HasLine r.version A l → size ≤ length rest
      → rest ≡ line_text r.version A l ++ drop size rest → GoesOn C A r l q → HasCome bytes q (drop size rest) (count + 1)
  more-come laws bytes r q rest count l size come has inside front on =
      let both = one-more r.version q.version (lines_so_far C A r) l (lines_so_far C A q) bytes rest (drop size rest) (starts r come.sound) (starts q on.sound) on.lines come.good has come.split front in
      record {
        sound = on.sound;
        good = both.0;
        taken = ap (takes C A stage.Start) on.lines
            ∙ (takes-append C A stage.Start (lines_so_far C A r) (l ∷ [])
            ∙ (ap (λ o. go_on C A o (λ t. takes C A t (l ∷ []))) come.taken ∙ ap (λ o. go_on C A o (λ t. Some t)) on.next));
        split = both.1;
        counted = omega (arith, come.counted, ap length on.lines, length-append (lines_so_far C A r) (l ∷ []));
        fits = omega (arith, come.fits, length-drop size rest, ap length front, length-append (line_text r.version A l) (drop size rest), some-byte A laws r.version l has);
      }

  module _ (laws : LineLaws A) (named : All AreBytes C) (all : All AreBytes A) (bytes : List ℕ) (r : Reading) (rest : List ℕ) (count : ℕ) (come : HasCome bytes r rest count) where
    at_fault : ((k : Line) (more : List ℕ) → HasLine r.version A k → rest ≡ line_text r.version A k ++ more → next C A (stage_of C A r) k ≡ None)
        → (rest ≡ [] → stage_of C A r ≡ stage.Done → ⊥) → IsFirstFault C A bytes (count + 1)
    at_fault stuck early =
        subst (λ n. IsFirstFault C A bytes (n + 1)) (sym come.counted)
        (fault A laws.one laws.ends laws.bare C (grouped C A) r.version (lines_so_far C A r) (stage_of C A r) (starts r come.sound) come.good come.taken rest stuck early
        bytes come.split (named, all) (due-place r.version r.place r.histories.items r.logs.items named all))

    -- no line that stands there may come
    pub stuck-fault : IsStuck C A r rest → rest ≢ [] → IsFirstFault C A bytes (count + 1)
    stuck-fault stuck some = at_fault stuck (λ empty done. some empty)

    -- the bytes end too early
    pub early-fault : rest ≡ [] → (stage_of C A r ≡ stage.Done → ⊥) → IsFirstFault C A bytes (count + 1)
    early-fault empty more =
        at_fault (λ k rest_k has front.
        absurd (omega (arith, some-byte A laws r.version k has, ap length empty, ap length front, length-append (line_text r.version A k) rest_k)))
        (λ none. more)

    -- the text has come to its end
    pub whole-text : (t : Text) → rest ≡ [] → IsWhole C A r t → IsText C A t bytes
    whole-text t empty whole = record {
      histories = whole.histories;
      logs = whole.logs;
      lines = subst (λ v. All (HasLine v A) (lines_of C A t)) (sym whole.version) (subst (All (HasLine r.version A)) (sym whole.lines) come.good);
      is = come.split
          ∙ (ap (λ x. flat_map (line_text r.version A) (lines_so_far C A r) ++ x) empty
          ∙ (append-nil (flat_map (line_text r.version A) (lines_so_far C A r))
          ∙ (ap (flat_map (line_text r.version A)) (sym whole.lines)
          ∙ (ap (λ v. flat_map (line_text v A) (lines_of C A t)) (sym whole.version) ∙ sym (grouped C A t)))));
    }

-- what stands behind a line is shorter
pub behind-shorter : (A : List (List ℕ)) → LineLaws A → (v : Version) (l : Line) (size : ℕ) (rest : List ℕ) → HasLine v A l → rest ≡ line_text v A l ++ drop size rest → length (drop size rest) < length rest
behind-shorter A laws v l size rest has front =
    omega (arith, some-byte A laws v l has, ap length front, length-append (line_text v A l) (drop size rest))
