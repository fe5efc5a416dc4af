-- Requests that are filed, after each change.
use Rattle.std.proofs.Common.{◌≡◌, ◌<◌, ◌≤◌, ◌+◌, ◌==◌, if◌then◌else◌, ℕ, Bool, true, false, not, List, [], ◌∷◌, ◌++◌, length, get_or, take, drop, refl, ap, sym, subst, ◌∙◌, ⊎_elim, length-append, arith}
use Rattle.std.specs.List.{remove}
use Rattle.std.proofs.Math.Seq.{drop-nil}
use Rattle.std.proofs.lemmas.Bool.{cases_lt}
use Rattle.std.proofs.lemmas.List.{get_or_append_left, get_or_push, nil_from_length, take-append-drop, length-take-le, drop_all, drop-append-le}
use Rattle.std.proofs.lemmas.List.Edits.{length-remove, get_or-remove_below, get_or-remove_above}
use Rattle.tc_model.specs.declared.calls.Request.{Request}
use Rattle.tc_pending.specs.declared.changes.Change.{Change}
use Rattle.tc_pending.specs.declared.index.Index.{Index}
use Rattle.tc_pending.specs.declared.waiters.Waiters.{Waiters}
use Rattle.tc_pending.specs.Changes.{earlier, rewound, earlier_serials, rewound_serials, AreFiled, IsKept, IsLog}
use Rattle.tc_pending.specs.Codes.{codes_of}
use Rattle.tc_pending.specs.Filed.{AreIndexed, Has, HasFirst, IsFiled, KeepsAll}
use Rattle.tc_pending.specs.Rising.{IsAbove}
use Rattle.tc_pending.proofs.Log.{rewound-append, unnoted}
use Rattle.tc_lists.proofs.Bools.{length-none_false}
use Rattle.tc_pending.proofs.Coded.{length-codes}
use Rattle.tc_pending.proofs.Rising.{NumbersRise-push, NumbersRise-remove}

Has-same : (index : Index) (c d s t : ℕ) → d ≡ c → t ≡ s → Has index c s → Has index d t
Has-same index c d s t code serial has =
    subst (λ x. Has index x t) (sym code) (subst (λ y. Has index c y) (sym serial) has)

pub IsFiled-at : (index : Index) (below : ℕ) (codes there serials also : List ℕ) → there ≡ codes → also ≡ serials
    → IsFiled index below codes serials → IsFiled index below there also
IsFiled-at index below codes there serials also is are filed =
    subst (λ cs. IsFiled index below cs also) (sym is) (subst (λ ns. IsFiled index below codes ns) (sym are) filed)

module _ (index : Index) (below : ℕ) (codes serials : List ℕ) (filed : IsFiled index below codes serials) where
  pub IsFiled-kept : (new : Index) → KeepsAll index new serials → IsFiled new below codes serials
  IsFiled-kept new kept = record {
    each = filed.each;
    rises = filed.rises;
    has = λ k inside low. kept (get_or codes k 0) k inside (filed.has k inside low);
  }

  pub IsFiled-push : (c s : ℕ) → IsAbove serials s → below ≤ s → IsFiled index below (codes ++ c ∷ []) (serials ++ s ∷ [])
  IsFiled-push c s above least = record {
    each = omega (arith, filed.each, length-append codes (c ∷ []), length-append serials (s ∷ []));
    rises = NumbersRise-push serials s filed.rises above;
    has = λ k inside low. ⊎_elim
        (λ (among : k < length serials).
        let same : get_or (serials ++ s ∷ []) k 0 ≡ get_or serials k 0 = get_or_append_left serials (s ∷ []) 0 k among in
        Has-same index (get_or codes k 0) (get_or (codes ++ c ∷ []) k 0) (get_or serials k 0) (get_or (serials ++ s ∷ []) k 0)
        (get_or_append_left codes (c ∷ []) 0 k (omega (arith, among, filed.each))) same
        (filed.has k among (omega (arith, low, same))))
        (λ (last : length serials ≤ k).
        let at : length serials ≡ k = omega (arith, last, inside, length-append serials (s ∷ [])) in
        absurd (omega (arith, low, least, get_or_push serials s 0 k at)))
        (cases_lt k (length serials));
  }

  pub IsFiled-remove : (place : ℕ) → place < length serials → IsFiled index below (remove codes place) (remove serials place)
  IsFiled-remove place there =
      let count = length-remove serials place there in
      let also : place < length codes = omega (arith, there, filed.each) in
      record {
        each = omega (arith, filed.each, count, length-remove codes place also);
        rises = NumbersRise-remove serials place there filed.rises;
        has = λ k inside low. ⊎_elim
            (λ (before : k < place).
            let same = get_or-remove_below serials place 0 k before there in
            Has-same index (get_or codes k 0) (get_or (remove codes place) k 0) (get_or serials k 0) (get_or (remove serials place) k 0)
            (get_or-remove_below codes place 0 k before also) same
            (filed.has k (omega (arith, before, there)) (omega (arith, low, same))))
            (λ (behind : place ≤ k).
            let same = get_or-remove_above serials place 0 k behind there in
            Has-same index (get_or codes (k + 1) 0) (get_or (remove codes place) k 0) (get_or serials (k + 1) 0)
            (get_or (remove serials place) k 0)
            (get_or-remove_above codes place 0 k behind also) same
            (filed.has (k + 1) (omega (arith, inside, count)) (omega (arith, low, same))))
            (cases_lt k place);
      }

  -- the numbers from a place on that are not below the bound, entered
  pub IsFiled-entered : (new : Index) (start bound : ℕ)
      → ((k : ℕ) → k < start → get_or serials k 0 < below)
      → ((c s : ℕ) → Has index c s → Has new c s)
      → ((k : ℕ) → start ≤ k → k < length serials → Has new (get_or codes k 0) (get_or serials k 0))
      → IsFiled new bound codes serials
  IsFiled-entered new start bound low kept entered = record {
    each = filed.each;
    rises = filed.rises;
    has = λ k inside under. ⊎_elim
        (λ (before : k < start). kept (get_or codes k 0) (get_or serials k 0) (filed.has k inside (low k before)))
        (λ (behind : start ≤ k). entered k behind inside)
        (cases_lt k start);
  }

  -- those of the first requests
  pub HasFirst-filed : (start count : ℕ) → start ≤ length serials → count ≤ start
      → ((k : ℕ) → k < start → get_or serials k 0 < below) → HasFirst index codes serials count
  HasFirst-filed start count inside less low k before =
      filed.has k (omega (arith, inside, less, before)) (low k (omega (arith, less, before)))

-- where the index has some of the first requests, it has fewer
pub AreIndexed-fewer : (waiters : Waiters) (count fewer : ℕ) → fewer ≤ count → AreIndexed waiters count → AreIndexed waiters fewer
AreIndexed-fewer waiters count fewer less indexed = record {
  codes = indexed.codes;
  each = indexed.each;
  rises = indexed.rises;
  has = λ k before. indexed.has k (omega (arith, before, less));
  inside = let inside = indexed.inside in omega (arith, inside, less);
}

-- changes before others, which are taken back first
pub rewound_serials-append : (xs ys : List Change) (serials : List ℕ)
    → rewound_serials (xs ++ ys) serials ≡ rewound_serials xs (rewound_serials ys serials)
rewound_serials-append [] ys serials = refl
rewound_serials-append (c ∷ cs) ys serials = ap (earlier_serials c) (rewound_serials-append cs ys serials)

-- the changes behind the first so many, one by one
pub rewound_serials-last : (count : ℕ) (changes front : List Change) (c : Change) (serials : List ℕ) → changes ≡ front ++ c ∷ []
    → count ≤ length front
    → rewound_serials (drop count changes) serials ≡ rewound_serials (drop count front) (earlier_serials c serials)
rewound_serials-last count changes front c serials last above =
    ap (λ cs. rewound_serials (drop count cs) serials) last
    ∙ ap (λ cs. rewound_serials cs serials) (drop-append-le count front (c ∷ []) above)
    ∙ rewound_serials-append (drop count front) (c ∷ []) serials

-- what is kept, of the same requests and numbers, and where more may have wanted absence
pub IsKept-same : (index : Index) (below : ℕ) (absences : Bool) (requests new : List Request) (serials more : List ℕ)
    → new ≡ requests → more ≡ serials
    → IsKept index below absences requests serials → IsKept index below absences new more
IsKept-same index below absences requests new serials more is are kept =
    subst (λ rs. IsKept index below absences rs more) (sym is) (subst (IsKept index below absences requests) (sym are) kept)

pub IsKept-weaker : (index : Index) (below : ℕ) (some more : Bool) (requests : List Request) (serials : List ℕ)
    → (more ≡ false → some ≡ false) → IsKept index below some requests serials → IsKept index below more requests serials
IsKept-weaker index below some more requests serials still kept = record {
  filed_is = kept.filed_is;
  absences_is = λ never. kept.absences_is (still never);
}

pub AreFiled-weaker : (index : Index) (below : ℕ) (some more : Bool) (requests : List Request) (serials : List ℕ) (changes : List Change)
    → (more ≡ false → some ≡ false) → AreFiled index below some requests serials changes
    → AreFiled index below more requests serials changes
AreFiled-weaker index below some more requests serials changes still filed n =
    IsKept-weaker index below some more (rewound (drop n changes) requests) (rewound_serials (drop n changes) serials) still (filed n)

-- by what there is, and by what there was
pub AreFiled-only : (index : Index) (below : ℕ) (absences : Bool) (requests : List Request) (serials : List ℕ) (changes : List Change)
    → changes ≡ [] → IsKept index below absences requests serials → AreFiled index below absences requests serials changes
AreFiled-only index below absences requests serials changes none filed n =
    let behind : drop n changes ≡ [] = ap (drop n) none ∙ drop-nil n in
    IsKept-same index below absences requests (rewound (drop n changes) requests) serials (rewound_serials (drop n changes) serials)
    (ap (λ cs. rewound cs requests) behind) (ap (λ cs. rewound_serials cs serials) behind) filed

module _ (index : Index) (below : ℕ) (absences : Bool) (requests : List Request) (serials : List ℕ) (changes : List Change)
    (filed : AreFiled index below absences requests serials changes) where
  pub AreFiled-now : IsKept index below absences requests serials
  AreFiled-now =
      let behind : drop (length changes) changes ≡ [] = drop_all (length changes) changes (omega arith) in
      IsKept-same index below absences (rewound (drop (length changes) changes) requests) requests
      (rewound_serials (drop (length changes) changes) serials) serials
      (sym (ap (λ cs. rewound cs requests) behind)) (sym (ap (λ cs. rewound_serials cs serials) behind)) (filed (length changes))

  pub AreFiled-length : length serials ≡ length requests
  AreFiled-length = omega (arith, AreFiled-now.filed_is.each, length-codes requests (codes_of requests) refl)

  -- with one more change
  pushed : (new : List Request) (more : List ℕ) (noted : List Change) (c : Change) → noted ≡ changes ++ c ∷ []
      → earlier c new ≡ requests → earlier_serials c more ≡ serials → IsKept index below absences new more
      → AreFiled index below absences new more noted
  pushed new more noted c grown back before now n = ⊎_elim
      (λ (behind : length changes < n).
      let none : drop n noted ≡ [] =
      drop_all n noted (omega (arith, behind, ap length grown, length-append changes (c ∷ []))) in
      IsKept-same index below absences new (rewound (drop n noted) new) more (rewound_serials (drop n noted) more)
      (ap (λ cs. rewound cs new) none) (ap (λ cs. rewound_serials cs more) none) now)
      (λ (among : n ≤ length changes).
      let split : drop n noted ≡ drop n changes ++ c ∷ [] = ap (drop n) grown ∙ drop-append-le n changes (c ∷ []) among in
      IsKept-same index below absences (rewound (drop n changes) requests) (rewound (drop n noted) new)
      (rewound_serials (drop n changes) serials) (rewound_serials (drop n noted) more)
      (ap (λ cs. rewound cs new) split ∙ rewound-append (drop n changes) (c ∷ []) new ∙ ap (rewound (drop n changes)) back)
      (ap (λ cs. rewound_serials cs more) split ∙ rewound_serials-append (drop n changes) (c ∷ []) more
      ∙ ap (rewound_serials (drop n changes)) before)
      (filed n))
      (cases_lt (length changes) n)

  -- a change that is noted where there is a mark
  pub AreFiled-noted : (new : List Request) (more : List ℕ) (noted : List Change) (marks : List ℕ) (c : Change) (empty : Bool)
      → IsLog requests changes marks → empty ≡ (length marks == 0)
      → noted ≡ (if not empty then changes ++ c ∷ [] else changes) → earlier c new ≡ requests
      → earlier_serials c more ≡ serials → IsKept index below absences new more → AreFiled index below absences new more noted
  AreFiled-noted new more noted [] c empty log told is back before now =
      AreFiled-only index below absences new more noted (unnoted changes noted c empty log.oldest told is) now
  AreFiled-noted new more noted (m ∷ ms) c empty log told is back before now =
      pushed new more noted c (is ∙ ap (λ b. if not b then changes ++ c ∷ [] else changes) (told ∙ length-none_false m ms)) back before now

  -- the changes behind the first so many, taken back
  pub AreFiled-undone : (new : List Request) (more : List ℕ) (left : List Change) (top : ℕ) → top ≤ length changes
      → new ≡ rewound (drop top changes) requests → more ≡ rewound_serials (drop top changes) serials
      → left ≡ take top changes → AreFiled index below absences new more left
  AreFiled-undone new more left top there is are front n =
      let behind = drop top changes in
      let count : length left ≡ top = ap length front ∙ length-take-le top changes there in
      ⊎_elim
      (λ (past : top < n).
      let none : drop n left ≡ [] = drop_all n left (omega (arith, past, count)) in
      IsKept-same index below absences (rewound behind requests) (rewound (drop n left) new) (rewound_serials behind serials)
      (rewound_serials (drop n left) more)
      (ap (λ cs. rewound cs new) none ∙ is) (ap (λ cs. rewound_serials cs more) none ∙ are) (filed top))
      (λ (among : n ≤ top).
      let split : drop n changes ≡ drop n left ++ behind =
      ap (drop n) (sym (ap (λ cs. cs ++ behind) front ∙ take-append-drop top changes))
      ∙ drop-append-le n left behind (omega (arith, among, count)) in
      IsKept-same index below absences (rewound (drop n changes) requests) (rewound (drop n left) new)
      (rewound_serials (drop n changes) serials) (rewound_serials (drop n left) more)
      (ap (rewound (drop n left)) is ∙ sym (ap (λ cs. rewound cs requests) split ∙ rewound-append (drop n left) behind requests))
      (ap (rewound_serials (drop n left)) are
      ∙ sym (ap (λ cs. rewound_serials cs serials) split ∙ rewound_serials-append (drop n left) behind serials))
      (filed n))
      (cases_lt top n)

  -- the index with more requests, where there is no mark
  pub AreFiled-filed : (new : Index) (bound : ℕ) (marks : List ℕ) (is_marked : Bool) → IsLog requests changes marks
      → is_marked ≡ not (length marks == 0)
      → (is_marked ≡ true → (new ≡ index) × (bound ≡ below)) → IsFiled new bound (codes_of requests) serials
      → AreFiled new bound absences requests serials changes
  AreFiled-filed new bound [] is_marked log told marked now =
      AreFiled-only new bound absences requests serials changes (nil_from_length changes log.oldest)
      (record { filed_is = now; absences_is = AreFiled-now.absences_is })
  AreFiled-filed new bound (m ∷ ms) is_marked log told marked now =
      let same = marked (told ∙ ap not (length-none_false m ms)) in
      subst (λ ix. AreFiled ix bound absences requests serials changes) (sym same.0)
      (subst (λ b. AreFiled index b absences requests serials changes) (sym same.1) filed)
