-- Places of an agenda, in its parts.
use Rattle.std.proofs.Common.{◌≡◌, ℕ, zero, suc, ◌+◌, ◌-◌, ◌≤◌, ◌<◌, List, [], ◌∷◌, ◌++◌, length, take, drop, set, get_or, Bool, IsTrue, Option, Some, None, IfSome, IfNone, is_some, ◌↔◌, refl, sym, ap, ap₂, subst, ◌∙◌, arith, append_assoc, append-nil, length-append, length-take, length-drop}
use Rattle.std.specs.List.{slice_get, flat_map}
use Rattle.std.proofs.Math.Seq.{drop-append_seam}
use Rattle.std.proofs.lemmas.List.{map-append, set_split, take-append-le, drop-append-le, drop-drop, drop_all, length-map, get_or-map, take-map, drop-map, nil_from_length}
use Rattle.std.proofs.lemmas.Option.{slice_get_within, slice_get_read, get_or_from_slice_get}
use Rattle.std.proofs.lemmas.Bool.{true≢false}
use Rattle.std.proofs.lemmas.List.Concat.{flat_map-append, get_or-flat_map}
use Rattle.std.proofs.lemmas.List.Folds.{length-flat_map-take}
use mathlib.Core.Bool.{not}
use Rattle.tc_lists.proofs.Parts.{split_read}
use Rattle.tc_model.specs.Events.{Occurrence}
use Rattle.tc_model.specs.Triggers.{Member, members}
use Rattle.tc_model.specs.Cascades.{without}
use Rattle.tc_replay.specs.declared.group.Batch.{Batch}
use Rattle.tc_replay.proofs.Told.{not_false, not_true}
use Rattle.tc_replay.specs.Agendas.{LiesAt, members_of}

-- the middle one of three lists, shortened at a place
module _ {X : Type 0} where
  take_behind : (fs bs : List X) (k n : ℕ) → n ≡ length fs + k → take n (fs ++ bs) ≡ fs ++ take k bs
  take_behind [] bs k n is = ap (λ m. take m bs) (let e : n ≡ k = omega (arith, is) in e)
  take_behind (f ∷ fs) bs k zero is = absurd (omega (arith, is))
  take_behind (f ∷ fs) bs k (suc n) is = ap (λ xs. f ∷ xs) (take_behind fs bs k n (omega (arith, is)))

  without-middle : (fs bs cs : List X) (k : ℕ) → k < length bs
      → without (length fs + k) (fs ++ (bs ++ cs)) ≡ fs ++ (without k bs ++ cs)
  without-middle fs bs cs k inside =
      let front : take (length fs + k) (fs ++ (bs ++ cs)) ≡ fs ++ take k bs =
      take_behind fs (bs ++ cs) k (length fs + k) refl ∙ ap (λ xs. fs ++ xs) (take-append-le k bs cs (omega (arith, inside))) in
      let behind : length fs + k + 1 ≡ length fs + (k + 1) = omega arith in
      let rest : drop (length fs + k + 1) (fs ++ (bs ++ cs)) ≡ drop (k + 1) bs ++ cs =
      ap (λ n. drop n (fs ++ (bs ++ cs))) behind
      ∙ (sym (drop-drop (k + 1) (length fs) (fs ++ (bs ++ cs)))
      ∙ (ap (drop (k + 1)) (drop-append_seam fs (bs ++ cs)) ∙ drop-append-le (k + 1) bs cs (omega (arith, inside)))) in
      ap₂ (λ xs ys. xs ++ ys) front rest
      ∙ (append_assoc fs (take k bs) (drop (k + 1) bs ++ cs)
      ∙ ap (λ xs. fs ++ xs) (sym (append_assoc (take k bs) (drop (k + 1) bs) cs)))

-- a list has one element less without one of them
without-length : {X : Type 0} (xs : List X) (k : ℕ) → k < length xs → length (without k xs) + 1 ≡ length xs
without-length xs k inside =
    omega (arith, inside, length-append (take k xs) (drop (k + 1) xs), length-take k xs, length-drop (k + 1) xs)

-- the member of a batch at a place, and the members without one
pub batch-member : (b : Batch) (k n : ℕ) → k < length b.numbers.items → n ≡ get_or b.numbers.items k n
    → slice_get (members_of b) k ≡ Some (record { clause = n; event = b.event })
batch-member b k n inside read =
    let m : Member = record { clause = n; event = b.event } in
    let as_member : ℕ → Member = λ number. record { clause = number; event = b.event } in
    slice_get_read (members_of b) (length (members_of b)) k m refl
    (omega (arith, inside, length-map b.numbers.items as_member))
    (ap as_member read ∙ sym (get_or-map as_member b.numbers.items k n m inside))

members-without : (e : Occurrence) (numbers : List ℕ) (k : ℕ) → members e (without k numbers) ≡ without k (members e numbers)
members-without e numbers k =
    map-append (λ (n : ℕ). record { clause = n; event = e }) (take k numbers) (drop (k + 1) numbers)
    ∙ ap₂ (λ xs ys. xs ++ ys)
    (sym (take-map (λ (n : ℕ). record { clause = n; event = e }) k numbers))
    (sym (drop-map (λ (n : ℕ). record { clause = n; event = e }) (k + 1) numbers))

module _ {X : Type 0} (f : X → List Member) where
  -- the members of the parts round one
  around : (xs : List X) (at : ℕ) (x : X) → at < length xs → x ≡ get_or xs at x
      → flat_map f xs ≡ flat_map f (take at xs) ++ (f x ++ flat_map f (drop (at + 1) xs))
  around xs at x inside is =
      ap (flat_map f) (split_read xs at x inside is) ∙ flat_map-append f (take at xs) (x ∷ drop (at + 1) xs)

  around_set : (xs : List X) (at : ℕ) (y : X) → at < length xs
      → flat_map f (set xs at y) ≡ flat_map f (take at xs) ++ (f y ++ flat_map f (drop (at + 1) xs))
  around_set xs at y inside =
      let next : suc at ≡ at + 1 = omega arith in
      ap (flat_map f) (set_split xs at y inside ∙ ap (λ n. take at xs ++ y ∷ drop n xs) next)
      ∙ flat_map-append f (take at xs) (y ∷ drop (at + 1) xs)

  -- the last part, with more members at its end
  pub set_last-more : (xs : List X) (at : ℕ) (x y : X) (more : List Member) → at + 1 ≡ length xs → x ≡ get_or xs at x
      → f y ≡ f x ++ more → flat_map f (set xs at y) ≡ flat_map f xs ++ more
  set_last-more xs at x y more last is grown =
      let inside : at < length xs = omega (arith, last) in
      let none : flat_map f (drop (at + 1) xs) ≡ [] = ap (flat_map f) (drop_all (at + 1) xs (omega (arith, last))) in
      around_set xs at y inside
      ∙ (ap₂ (λ ys zs. flat_map f (take at xs) ++ (ys ++ zs)) grown none
      ∙ (ap (λ ys. flat_map f (take at xs) ++ ys) (append-nil (f x ++ more))
      ∙ (sym (append_assoc (flat_map f (take at xs)) (f x) more)
      ∙ ap (λ ys. ys ++ more) (sym (around xs at x inside is ∙ ap (λ ys. flat_map f (take at xs) ++ ys) (ap (λ zs. f x ++ zs) none ∙ append-nil (f x)))))))

  module _ (xs : List X) (place at offset : ℕ) (lies : LiesAt f xs place at offset) where
    lies-within : at < length xs
    lies-within = slice_get_within xs at lies.part lies.stands

    lies-is : (x : X) → x ≡ get_or xs at x → x ≡ lies.part
    lies-is x is = is ∙ get_or_from_slice_get xs at lies.part x lies.stands

    pub lies-inside : (x : X) → x ≡ get_or xs at x → offset < length (f x)
    lies-inside x is = subst (λ (y : X). offset < length (f y)) (sym (lies-is x is)) lies.inside

    -- a place that lies in a part is one of the members
    pub lies-below : place < length (flat_map f xs)
    lies-below =
        let part : get_or xs at lies.part ≡ lies.part = get_or_from_slice_get xs at lies.part lies.part lies.stands in
        let most = length-flat_map-take f xs at lies.part lies-within in
        omega (arith, most, ap (λ y. length (f y)) part, lies.inside, lies.counted)

    -- the member at the place
    pub lies-member : (x : X) (m : Member) → x ≡ get_or xs at x → slice_get (f x) offset ≡ Some m → slice_get (flat_map f xs) place ≡ Some m
    lies-member x m is read =
        let here : m ≡ get_or (flat_map f xs) place m =
        sym (ap (λ k. get_or (flat_map f xs) k m) lies.counted
        ∙ (get_or-flat_map f xs at offset x m lies-within (subst (λ (y : X). offset < length (f y)) is (lies-inside x is))
        ∙ (ap (λ y. get_or (f y) offset m) (sym is) ∙ get_or_from_slice_get (f x) offset m m read))) in
        slice_get_read (flat_map f xs) (length (flat_map f xs)) place m refl lies-below here

    -- all members but the one at the place
    pub lies-without : (x y : X) (new : List X) → x ≡ get_or xs at x → f y ≡ without offset (f x) → new ≡ set xs at y
        → flat_map f new ≡ without place (flat_map f xs)
    lies-without x y new is shorter written =
        ap (flat_map f) written
        ∙ (around_set xs at y lies-within
        ∙ (ap (λ ms. flat_map f (take at xs) ++ (ms ++ flat_map f (drop (at + 1) xs))) shorter
        ∙ (sym (without-middle (flat_map f (take at xs)) (f x) (flat_map f (drop (at + 1) xs)) offset (lies-inside x is))
        ∙ ap₂ without (sym lies.counted) (sym (around xs at x lies-within is)))))

    -- one member less, once the one at the place is gone
    pub lies-fewer : (new : List X) (count : ℕ) → count ≡ length (flat_map f xs) → flat_map f new ≡ without place (flat_map f xs)
        → count - 1 ≡ length (flat_map f new)
    lies-fewer new count counts removed =
        omega (arith, counts, ap length removed, without-length (flat_map f xs) place lies-below)

  -- no place lies in a part where there is no member
  pub none-lies : (xs : List X) (found : Option (ℕ × ℕ)) (b : Bool) → IfSome found (λ p. LiesAt f xs 0 p.0 p.1)
      → IfNone found (length (flat_map f xs) ≤ 0) → is_some found ≡ not b → (IsTrue b ↔ (flat_map f xs ≡ []))
  none-lies xs None b some none is =
      (λ _. nil_from_length (flat_map f xs) (omega (arith, none)), λ _. not_false b (sym is))
  none-lies xs (Some p) b some none is = (
    λ yes. absurd (true≢false (sym yes ∙ not_true b (sym is))),
    λ nil. absurd (omega (arith, lies-below xs 0 p.0 p.1 some, ap length nil)),
  )

-- the number of a batch that a place lies at
pub lies-number : (bs : List Batch) (place at offset : ℕ) → LiesAt members_of bs place at offset → (b : Batch)
    → b ≡ get_or bs at b → offset < length b.numbers.items
lies-number bs place at offset lies b is =
    let as_member : ℕ → Member = λ number. record { clause = number; event = b.event } in
    omega (arith, lies-inside members_of bs place at offset lies b is, length-map b.numbers.items as_member)

-- all members but the one at the place, once its number is gone from its batch
pub lies-without-number : (bs : List Batch) (place at offset : ℕ) (lies : LiesAt members_of bs place at offset) (b c : Batch) (new : List Batch)
    → b ≡ get_or bs at b → c.event ≡ b.event → c.numbers.items ≡ without offset b.numbers.items → new ≡ set bs at c
    → flat_map members_of new ≡ without place (flat_map members_of bs)
lies-without-number bs place at offset lies b c new is event numbers written =
    lies-without members_of bs place at offset lies b c new is
    (ap₂ members event numbers ∙ members-without b.event b.numbers.items offset) written
