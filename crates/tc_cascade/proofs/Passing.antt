-- Batches of triggered reactions: the first member, those behind it, and one more batch.
use Rattle.std.proofs.Common.{◌≡◌, ℕ, ◌+◌, ◌-◌, ◌≤◌, ◌<◌, List, [], ◌∷◌, ◌++◌, All, length, map, drop, get_or, refl, sym, ap, subst, ◌∙◌, arith, length-append, length-drop, append-nil}
use Rattle.std.specs.List.{flat_map}
use Rattle.std.proofs.Math.Seq.{drop-nil, drop-append_seam}
use Rattle.std.proofs.lemmas.List.{length-map, drop-drop, drop-append-le, drop-map}
use Rattle.std.proofs.lemmas.List.Elements.{All-head, All-tail, All-push}
use Rattle.std.proofs.lemmas.Grind.{flat_map-append}
use Rattle.tc_lists.proofs.Parts.{drop_read}
use Rattle.tc_cascade.specs.declared.queue.Batch.{Batch}
use Rattle.tc_cascade.specs.Batches.{members_of, triggered_in, IsQueue, HasSome, IsInFirst}

length_members : (b : Batch) → length (members_of b) ≡ length b.numbers.items
length_members b = length-map b.numbers.items (λ (n : ℕ). record { clause = n; event = b.event })

-- no batch, and a first one
pub none_triggered : (bs : List Batch) (place : ℕ) → length bs ≡ 0 → triggered_in bs place ≡ []
none_triggered [] place none = drop-nil place
none_triggered (b ∷ bs) place none = absurd (omega (arith, none))

-- the place is one of the first batch
pub in_first : (bs : List Batch) (b : Batch) (place len : ℕ) → 0 < length bs → b ≡ get_or bs 0 b → IsQueue bs place len
    → place < length b.numbers.items
in_first [] b place len some is q = absurd (omega (arith, some))
in_first (a ∷ bs) b place len some is q = subst (λ (c : Batch). place < length c.numbers.items) (sym is) q.inside

drop_place : (b : Batch) (bs : List Batch) (place : ℕ) → place ≤ length b.numbers.items
    → triggered_in (b ∷ bs) place ≡ drop place (members_of b) ++ flat_map members_of bs
drop_place b bs place inside =
    drop-append-le place (members_of b) (flat_map members_of bs) (let l = length_members b in omega (arith, l, inside))

-- the first that is left, and those behind it
pub first_triggered : (bs : List Batch) (b : Batch) (place len n : ℕ) → 0 < length bs → b ≡ get_or bs 0 b → IsQueue bs place len
    → n ≡ get_or b.numbers.items place n
    → triggered_in bs place ≡ record { clause = n; event = b.event } ∷ triggered_in bs (place + 1)
first_triggered [] b place len n some is q at = absurd (omega (arith, some))
first_triggered (a ∷ bs) b place len n some is q at =
    let inside : place < length b.numbers.items = in_first (a ∷ bs) b place len some is q in
    let here : drop place (members_of b) ≡ record { clause = n; event = b.event } ∷ drop (place + 1) (members_of b) =
    drop-map (λ (k : ℕ). record { clause = k; event = b.event }) place b.numbers.items
    ∙ (ap (map (λ (k : ℕ). record { clause = k; event = b.event })) (drop_read b.numbers.items place n inside at)
    ∙ ap (λ ms. record { clause = n; event = b.event } ∷ ms) (sym (drop-map (λ (k : ℕ). record { clause = k; event = b.event }) (place + 1) b.numbers.items))) in
    subst (λ (c : Batch). triggered_in (c ∷ bs) place ≡ record { clause = n; event = b.event } ∷ triggered_in (c ∷ bs) (place + 1)) is
    (drop_place b bs place (omega (arith, inside))
    ∙ (ap (λ ms. ms ++ flat_map members_of bs) here
    ∙ ap (λ ms. record { clause = n; event = b.event } ∷ ms) (sym (drop_place b bs (place + 1) (omega (arith, inside))))))

-- one behind another, and behind the last of the first batch
pub next_triggered : (bs : List Batch) (place : ℕ) → drop 1 (triggered_in bs place) ≡ triggered_in bs (place + 1)
next_triggered bs place = drop-drop 1 place (flat_map members_of bs)

pub batch_done : (bs : List Batch) (b : Batch) (place : ℕ) → 0 < length bs → b ≡ get_or bs 0 b → place ≡ length b.numbers.items
    → triggered_in bs place ≡ triggered_in (drop 1 bs) 0
batch_done [] b place some is end = absurd (omega (arith, some))
batch_done (a ∷ bs) b place some is end =
    ap (λ k. drop k (members_of a ++ flat_map members_of bs))
    (end ∙ (ap (λ (c : Batch). length c.numbers.items) is ∙ sym (length_members a)))
    ∙ drop-append_seam (members_of a) (flat_map members_of bs)

-- the place of a queue from which one has passed
pub queue_next : (bs : List Batch) (b : Batch) (place len : ℕ) → 0 < length bs → b ≡ get_or bs 0 b → IsQueue bs place len
    → place + 1 < length b.numbers.items → IsQueue bs (place + 1) (len - 1)
queue_next [] b place len some is q more = absurd (omega (arith, some))
queue_next (a ∷ bs) b place len some is q more = record {
  some = q.some;
  inside = subst (λ (c : Batch). place + 1 < length c.numbers.items) is more;
  count =
      let l = ap length (next_triggered (a ∷ bs) place) in
      let d = length-drop 1 (triggered_in (a ∷ bs) place) in
      let c = q.count in
      omega (arith, l, d, c);
}

at_start : (cs : List Batch) → All HasSome cs → IsInFirst cs 0
at_start [] all = refl
at_start (c ∷ cs) all = All-head HasSome c cs all

pub queue_done : (bs : List Batch) (b : Batch) (place len : ℕ) → 0 < length bs → b ≡ get_or bs 0 b → IsQueue bs place len
    → place + 1 ≡ length b.numbers.items → IsQueue (drop 1 bs) 0 (len - 1)
queue_done [] b place len some is q end = absurd (omega (arith, some))
queue_done (a ∷ bs) b place len some is q end =
    let rest : All HasSome bs = All-tail HasSome a bs q.some in
    record {
      some = rest;
      inside = at_start bs rest;
      count =
          let l = ap length (next_triggered (a ∷ bs) place ∙ batch_done (a ∷ bs) b (place + 1) some is end) in
          let d = length-drop 1 (triggered_in (a ∷ bs) place) in
          let c = q.count in
          omega (arith, l, d, c);
    }

-- something is left
pub some_triggered : (bs : List Batch) (b : Batch) (place len : ℕ) → 0 < length bs → b ≡ get_or bs 0 b → IsQueue bs place len
    → 0 < len
some_triggered [] b place len some is q = absurd (omega (arith, some))
some_triggered (a ∷ bs) b place len some is q =
    let inside = q.inside in
    let w = ap length (drop_place a bs place (omega (arith, inside))) in
    let l = length-append (drop place (members_of a)) (flat_map members_of bs) in
    let d = length-drop place (members_of a) in
    let m = length_members a in
    let c = q.count in
    omega (arith, inside, w, l, d, m, c)

-- one more batch
within_all : (bs : List Batch) (place len : ℕ) → IsQueue bs place len → place ≤ length (flat_map members_of bs)
within_all [] place len q = let i = q.inside in omega (arith, i)
within_all (a ∷ bs) place len q =
    let i = q.inside in
    let l = length-append (members_of a) (flat_map members_of bs) in
    let m = length_members a in
    omega (arith, i, l, m)

pub more_triggered : (bs : List Batch) (b : Batch) (place len : ℕ) → IsQueue bs place len
    → triggered_in (bs ++ b ∷ []) place ≡ triggered_in bs place ++ members_of b
more_triggered bs b place len q =
    ap (drop place) (flat_map-append members_of bs (b ∷ []) ∙ ap (λ ms. flat_map members_of bs ++ ms) (append-nil (members_of b)))
    ∙ drop-append-le place (flat_map members_of bs) (members_of b) (within_all bs place len q)

in_front : (bs : List Batch) (b : Batch) (place : ℕ) → 0 < length b.numbers.items → IsInFirst bs place → IsInFirst (bs ++ b ∷ []) place
in_front [] b place some zero = subst (λ k. k < length b.numbers.items) (sym zero) some
in_front (a ∷ bs) b place some inside = inside

pub queue_more : (bs : List Batch) (b : Batch) (place len : ℕ) → IsQueue bs place len → 0 < length b.numbers.items
    → IsQueue (bs ++ b ∷ []) place (len + length b.numbers.items)
queue_more bs b place len q some = record {
  some = All-push HasSome bs b q.some some;
  inside = in_front bs b place some q.inside;
  count =
      let l = ap length (more_triggered bs b place len q) in
      let a = length-append (triggered_in bs place) (members_of b) in
      let m = length_members b in
      let c = q.count in
      omega (arith, l, a, m, c);
}
