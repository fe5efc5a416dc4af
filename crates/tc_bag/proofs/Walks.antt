-- Walks through places in order.
use Rattle.std.proofs.Common.{◌≡◌, ◌≤◌, ◌+◌, ◌==◌, ◌-◌, ℕ, zero, suc, slice_get, Bool, IsSome, IfSome, is_some, true, false, cond, Option, Some, None, List, [], ◌∷◌, length, map, filter, All, refl, ap, sym, subst, ◌∙◌, arith}
use Rattle.std.proofs.lemmas.Bool.{true≢false}
use Rattle.std.proofs.lemmas.List.Elements.{All-cons, All-head, All-tail}
use Rattle.std.specs.List.{cons_option}
use Rattle.std.specs.Option.{option_map}
use Rattle.tc_term.specs.Tree.{Tree}
use Rattle.tc_bag.specs.declared.slots.Place.{Place}
use Rattle.tc_bag.specs.declared.index.Index.{Index}
use Rattle.tc_bag.specs.Ages.{HasRow}
use Rattle.tc_bag.specs.Places.{slot_taken, slot_in, slots_of, tuple_of, tuple_by, row_in, row_there, there_in, HasTuple, IsEntered}
use Rattle.tc_bag.specs.Rows.{tuple_in}
use Rattle.tc_bag.proofs.ByAge.{tuple_if}
use Rattle.tc_bag.specs.Slots.{Slot, is_there, row_of, tuples_there}
use Rattle.tc_bag.specs.Stock.{tuples_of}

abbrev no_tree : Option Tree
no_tree = None

-- what is there in a place is so of its slot
pub there-slot : (rows : List (Option Tree)) (p : Place) → there_in rows p ≡ tuple_if (slot_in rows p)
there-slot rows p = go (tuple_of rows p)
  where
    none : (b : Bool) → cond b no_tree None ≡ no_tree
    none true = refl
    none false = refl

    go : (o : Option Tree) → cond (p.taken == 0) o None ≡ tuple_if (option_map (slot_taken p.age p.taken) o)
    go None = none (p.taken == 0)
    go (Some t) = refl

-- how many rows are there
abbrev pub count_there : List (Option Tree) → List Place → ℕ
count_there rows ps = length (filter is_there (slots_of rows ps))

-- by what is there in the first place
pub count_there-some : (rows : List (Option Tree)) (p : Place) (ps : List Place) (t : Tree) → there_in rows p ≡ Some t → count_there rows (p ∷ ps) ≡ count_there rows ps + 1
count_there-some rows p ps t = go (p.taken == 0) refl (tuple_of rows p)
  where
    go : (b : Bool) → (p.taken == 0) ≡ b → (o : Option Tree) → cond b o None ≡ Some t
        → length (filter is_there (cons_option (option_map (slot_taken p.age p.taken) o) (slots_of rows ps))) ≡ count_there rows ps + 1
    go true is None some =
        let nothing : None ≡ Some t = some in
        absurd (cc)
    go true is (Some u) some =
        ap (λ b. length (cond b (slot_taken p.age p.taken u ∷ filter is_there (slots_of rows ps)) (filter is_there (slots_of rows ps)))) is ∙ omega arith
    go false is o some =
        let nothing : None ≡ Some t = some in
        absurd (cc)

pub count_there-none : (rows : List (Option Tree)) (p : Place) (ps : List Place) → there_in rows p ≡ None → count_there rows (p ∷ ps) ≡ count_there rows ps
count_there-none rows p ps = go (p.taken == 0) refl (tuple_of rows p)
  where
    go : (b : Bool) → (p.taken == 0) ≡ b → (o : Option Tree) → cond b o None ≡ None
        → length (filter is_there (cons_option (option_map (slot_taken p.age p.taken) o) (slots_of rows ps))) ≡ count_there rows ps
    go b is None none = refl
    go true is (Some u) none =
        let nothing : Some u ≡ None = none in
        absurd (cc)
    go false is (Some u) none =
        ap (λ b. length (cond b (slot_taken p.age p.taken u ∷ filter is_there (slots_of rows ps)) (filter is_there (slots_of rows ps)))) is

pub tuples_there-some : (rows : List (Option Tree)) (p : Place) (ps : List Place) (t : Tree) → there_in rows p ≡ Some t
    → tuples_there (slots_of rows (p ∷ ps)) ≡ t ∷ tuples_there (slots_of rows ps)
tuples_there-some rows p ps t = go (p.taken == 0) refl (tuple_of rows p)
  where
    go : (b : Bool) → (p.taken == 0) ≡ b → (o : Option Tree) → cond b o None ≡ Some t
        → tuples_there (cons_option (option_map (slot_taken p.age p.taken) o) (slots_of rows ps)) ≡ t ∷ tuples_there (slots_of rows ps)
    go true is None some =
        let nothing : None ≡ Some t = some in
        absurd (cc)
    go true is (Some u) some =
        let known : Some u ≡ Some t = some in
        let same : u ≡ t = cc in
        ap (λ b. tuples_of (map row_of (cond b (slot_taken p.age p.taken u ∷ filter is_there (slots_of rows ps)) (filter is_there (slots_of rows ps))))) is
        ∙ ap (λ v. v ∷ tuples_there (slots_of rows ps)) same
    go false is o some =
        let nothing : None ≡ Some t = some in
        absurd (cc)

pub tuples_there-none : (rows : List (Option Tree)) (p : Place) (ps : List Place) → there_in rows p ≡ None
    → tuples_there (slots_of rows (p ∷ ps)) ≡ tuples_there (slots_of rows ps)
tuples_there-none rows p ps = go (p.taken == 0) refl (tuple_of rows p)
  where
    go : (b : Bool) → (p.taken == 0) ≡ b → (o : Option Tree) → cond b o None ≡ None
        → tuples_there (cons_option (option_map (slot_taken p.age p.taken) o) (slots_of rows ps)) ≡ tuples_there (slots_of rows ps)
    go b is None none = refl
    go true is (Some u) none =
        let nothing : Some u ≡ None = none in
        absurd (cc)
    go false is (Some u) none =
        ap (λ b. tuples_of (map row_of (cond b (slot_taken p.age p.taken u ∷ filter is_there (slots_of rows ps)) (filter is_there (slots_of rows ps))))) is

pub count_most : (rows : List (Option Tree)) (ps : List Place) → count_there rows ps ≤ length ps
count_most rows [] = omega arith
count_most rows (p ∷ ps) = go (tuple_of rows p) (count_most rows ps)
  where
    here : (b : Bool) (s : Slot) → count_there rows ps ≤ length ps
        → length (cond b (s ∷ filter is_there (slots_of rows ps)) (filter is_there (slots_of rows ps))) ≤ length (p ∷ ps)
    here true s most = omega (arith, most)
    here false s most = omega (arith, most)

    go : (o : Option Tree) → count_there rows ps ≤ length ps
        → length (filter is_there (cons_option (option_map (slot_taken p.age p.taken) o) (slots_of rows ps))) ≤ length (p ∷ ps)
    go None most = omega (arith, most)
    go (Some t) most = here (p.taken == 0) (slot_taken p.age p.taken t) most

-- an index has what is there, once it has it in the first place and behind
pub entered-some : (rows : List (Option Tree)) (index : Index) (p : Place) (ps : List Place) (t : Tree) → there_in rows p ≡ Some t → HasRow index p.age t
    → All (IsEntered index) (slots_of rows ps) → All (IsEntered index) (slots_of rows (p ∷ ps))
entered-some rows index p ps t = go (p.taken == 0) (tuple_of rows p)
  where
    go : (b : Bool) (o : Option Tree) → cond b o None ≡ Some t → HasRow index p.age t → All (IsEntered index) (slots_of rows ps)
        → All (IsEntered index) (cons_option (option_map (slot_taken p.age p.taken) o) (slots_of rows ps))
    go true None some has rest =
        let nothing : None ≡ Some t = some in
        absurd (cc)
    go true (Some u) some has rest =
        let known : Some u ≡ Some t = some in
        let same : u ≡ t = cc in
        All-cons (IsEntered index) (slot_taken p.age p.taken u) (slots_of rows ps) (λ there. subst (HasRow index p.age) (sym same) has) rest
    go false o some has rest =
        let nothing : None ≡ Some t = some in
        absurd (cc)

pub entered-none : (rows : List (Option Tree)) (index : Index) (p : Place) (ps : List Place) → there_in rows p ≡ None
    → All (IsEntered index) (slots_of rows ps) → All (IsEntered index) (slots_of rows (p ∷ ps))
entered-none rows index p ps = go (p.taken == 0) refl (tuple_of rows p)
  where
    go : (b : Bool) → (p.taken == 0) ≡ b → (o : Option Tree) → cond b o None ≡ None → All (IsEntered index) (slots_of rows ps)
        → All (IsEntered index) (cons_option (option_map (slot_taken p.age p.taken) o) (slots_of rows ps))
    go b is None none rest = rest
    go true is (Some u) none rest =
        let nothing : Some u ≡ None = none in
        absurd (cc)
    go false is (Some u) none rest =
        All-cons (IsEntered index) (slot_taken p.age p.taken u) (slots_of rows ps) (λ there. absurd (true≢false (sym there ∙ is))) rest

-- what is there in a place, by its row
pub there_row : (rows : List (Option Tree)) (p : Place) → there_in rows p ≡ tuple_by rows (row_there p)
there_row rows p = go (p.taken == 0)
  where
    go : (b : Bool) → cond b (tuple_of rows p) None ≡ tuple_by rows (cond b (row_in p) None)
    go true = refl
    go false = refl

pub full_there : (rows : List (Option Tree)) (p : Place) → HasTuple rows p → IfSome (row_there p) (λ row. IsSome (tuple_in row rows))
full_there rows p full = go (p.taken == 0) (row_in p) refl
  where
    go : (b : Bool) (o : Option ℕ) → row_in p ≡ o → IfSome (cond b o None) (λ row. IsSome (tuple_in row rows))
    go true None is = tt
    go true (Some row) is = full row is
    go false o is = tt

pub full_row : (rows : List (Option Tree)) (p : Place) → HasTuple rows p → IfSome (row_in p) (λ row. IsSome (tuple_in row rows))
full_row rows p full = go (row_in p) refl
  where
    go : (o : Option ℕ) → row_in p ≡ o → IfSome o (λ row. IsSome (tuple_in row rows))
    go None is = tt
    go (Some row) is = full row is

-- a row that has a tuple
pub some_row : (rows : List (Option Tree)) (o : Option ℕ) → IfSome o (λ row. IsSome (tuple_in row rows)) → is_some o ≡ is_some (tuple_by rows o)
some_row rows None full = refl
some_row rows (Some row) full = sym full

-- the tuple that one has
pub tuple_some : (o : Option Tree) → IsSome o → (t : Tree) × (o ≡ Some t)
tuple_some None some = absurd (true≢false (sym some))
tuple_some (Some t) some = (t, refl)

-- the tuple of a place's slot
pub slot_tuple : (rows : List (Option Tree)) (p : Place) → tuple_of rows p ≡ option_map (λ s. s.tuple) (slot_in rows p)
slot_tuple rows p = go (tuple_of rows p)
  where
    go : (o : Option Tree) → o ≡ option_map (λ s. s.tuple) (option_map (slot_taken p.age p.taken) o)
    go None = refl
    go (Some t) = refl

-- places whose rows are there
abbrev pub is_row_there : Place → Bool
is_row_there p = is_some (row_there p)

pub count_rows : (rows : List (Option Tree)) (ps : List Place) → All (HasTuple rows) ps → length (filter is_row_there ps) ≡ count_there rows ps
count_rows rows [] full = refl
count_rows rows (p ∷ ps) full =
    go (row_there p) refl (full_there rows p (All-head (HasTuple rows) p ps full)) (count_rows rows ps (All-tail (HasTuple rows) p ps full))
  where
    go : (o : Option ℕ) → row_there p ≡ o → IfSome (row_there p) (λ row. IsSome (tuple_in row rows))
        → length (filter is_row_there ps) ≡ count_there rows ps
        → length (cond (is_some o) (p ∷ filter is_row_there ps) (filter is_row_there ps)) ≡ count_there rows (p ∷ ps)
    go None is has rest = rest ∙ sym (count_there-none rows p ps (there_row rows p ∙ ap (tuple_by rows) is))
    go (Some row) is has rest =
        let known : IsSome (tuple_in row rows) = subst (λ (o : Option ℕ). IfSome o (λ r. IsSome (tuple_in r rows))) is has in
        let t = tuple_some (tuple_in row rows) known in
        let more = count_there-some rows p ps t.0 (there_row rows p ∙ ap (tuple_by rows) is ∙ t.1) in
        omega (arith, rest, more)

-- the next of a list behind its first
pub later_get : {X : Type 0} (x : X) (xs : List X) (n : ℕ) → (n ≡ 0 → ⊥) → slice_get (x ∷ xs) n ≡ slice_get xs (n - 1)
later_get x xs zero some = absurd (some refl)
later_get x xs (suc n) some = ap (slice_get xs) (omega arith)

pub filter_most : {X : Type 0} (p : X → Bool) (xs : List X) → length (filter p xs) ≤ length xs
filter_most p [] = omega arith
filter_most p (x ∷ xs) = go (p x) (filter_most p xs)
  where
    go : (b : Bool) → length (filter p xs) ≤ length xs → length (cond b (x ∷ filter p xs) (filter p xs)) ≤ length (x ∷ xs)
    go true most = omega (arith, most)
    go false most = omega (arith, most)
