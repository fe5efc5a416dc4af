-- A list of requests with its log, after each change.
use Rattle.std.proofs.Common.{◌≡◌, ◌<◌, ◌≤◌, ◌+◌, ◌-◌, ◌==◌, if◌then◌else◌, ℕ, suc, Bool, true, false, not, List, [], ◌∷◌, ◌++◌, length, get_or, take, drop, refl, ap, sym, subst, ◌∙◌, length-append, arith}
use Rattle.std.specs.List.{All, remove}
use Rattle.std.proofs.lemmas.Bool.{true≢false}
use Rattle.std.proofs.lemmas.List.{take-append-drop, length-take, length-take-le, drop_all, drop-append-le, take-append-le, nil_from_length, same_from_push, map_push}
use Rattle.std.proofs.lemmas.List.Edits.{length-insert}
use Rattle.std.proofs.lemmas.List.Elements.{All-head, All-tail}
use Rattle.tc_lists.specs.Marks.{Climbs}
use Rattle.tc_lists.proofs.Marks.{Climbs-below, Climbs-more, Climbs-push, Climbs-pop, get_or_first-push}
use Rattle.tc_lists.proofs.Bools.{length-none_false}
use Rattle.tc_model.specs.declared.calls.Request.{Request}
use Rattle.tc_pending.specs.declared.changes.Change.{Change}
use Rattle.tc_pending.specs.declared.changes.Change.TheVariants.{Added, Removed}
use Rattle.tc_lists.specs.Marks.{IsBack, IsGivenUp}
use Rattle.tc_pending.specs.Waiting.{Waiting}
use Rattle.tc_pending.specs.Changes.{earlier, rewound, Fits, AllFit, saved_at, IsLog}

-- the list as contracts see it
abbrev pub waiting : List Request → List (List Request) → Waiting
waiting now saved = record { now = now; saved = saved }

pub same_waiting : (now new : List Request) (saved kept : List (List Request)) → now ≡ new → saved ≡ kept
    → waiting now saved ≡ waiting new kept
same_waiting now new saved kept p q = cc

pub Fits-removed : (requests : List Request) (place : ℕ) (r : Request) (serial : ℕ) → place < length requests
    → Fits (Removed place r serial) (remove requests place)
Fits-removed requests place r serial inside =
    omega (arith, length-append (take place requests) (drop (suc place) requests), length-take-le place requests (omega arith))

-- no change leaves more than one request more before it
pub length-earlier : (c : Change) (requests : List Request) → Fits c requests
    → length (earlier c requests) ≤ length requests + 1
length-earlier Added requests fits = omega (arith, length-take (length requests - 1) requests)
length-earlier (Removed place r serial) requests fits = omega (arith, length-insert requests place r fits)

-- changes before others, which are taken back first
pub rewound-append : (xs ys : List Change) (requests : List Request)
    → rewound (xs ++ ys) requests ≡ rewound xs (rewound ys requests)
rewound-append [] ys requests = refl
rewound-append (c ∷ cs) ys requests = ap (earlier c) (rewound-append cs ys requests)

pub AllFit-append : (xs ys : List Change) (requests : List Request)
    → AllFit xs (rewound ys requests) → AllFit ys requests → AllFit (xs ++ ys) requests
AllFit-append [] ys requests front back = back
AllFit-append (c ∷ cs) ys requests front back =
    (subst (Fits c) (sym (rewound-append cs ys requests)) front.0, AllFit-append cs ys requests front.1 back)

pub AllFit-front : (xs ys : List Change) (requests : List Request) → AllFit (xs ++ ys) requests → AllFit xs (rewound ys requests)
AllFit-front [] ys requests fit = tt
AllFit-front (c ∷ cs) ys requests fit =
    (subst (Fits c) (rewound-append cs ys requests) fit.0, AllFit-front cs ys requests fit.1)

pub AllFit-back : (xs ys : List Change) (requests : List Request) → AllFit (xs ++ ys) requests → AllFit ys requests
AllFit-back [] ys requests fit = fit
AllFit-back (c ∷ cs) ys requests fit = AllFit-back cs ys requests fit.1

-- the changes behind the first so many, one by one
module _ (count : ℕ) (changes front : List Change) (c : Change) (requests : List Request)
    (last : changes ≡ front ++ c ∷ []) (above : count ≤ length front) where
  pub rewound-last : rewound (drop count changes) requests ≡ rewound (drop count front) (earlier c requests)
  rewound-last =
      ap (λ cs. rewound (drop count cs) requests) last
      ∙ ap (λ cs. rewound cs requests) (drop-append-le count front (c ∷ []) above)
      ∙ rewound-append (drop count front) (c ∷ []) requests

  pub take-last : take count changes ≡ take count front
  take-last = ap (take count) last ∙ take-append-le count front (c ∷ []) above

pub Fits-last : (changes front : List Change) (c : Change) (requests : List Request) → changes ≡ front ++ c ∷ []
    → AllFit changes requests → Fits c requests
Fits-last changes front c requests last fit =
    (AllFit-back front (c ∷ []) requests (subst (λ cs. AllFit cs requests) last fit)).0

pub AllFit-last : (changes front : List Change) (c : Change) (requests : List Request) → changes ≡ front ++ c ∷ []
    → AllFit changes requests → AllFit front (earlier c requests)
AllFit-last changes front c requests last fit =
    AllFit-front front (c ∷ []) requests (subst (λ cs. AllFit cs requests) last fit)

-- without a mark nothing is noted
pub IsLog-none : (requests : List Request) → IsLog requests [] []
IsLog-none requests = record { fit = tt; climbs = tt; oldest = refl }

pub unnoted : (changes noted : List Change) (c : Change) (empty : Bool) → length changes ≡ 0 → empty ≡ true
    → noted ≡ (if not empty then changes ++ c ∷ [] else changes) → noted ≡ []
unnoted changes noted c empty none told is =
    is ∙ ap (λ b. if not b then changes ++ c ∷ [] else changes) told ∙ nil_from_length changes none

-- what there was at the marks stays, once a change is noted
pub saved-noted : (marks : List ℕ) (changes : List Change) (c : Change) (requests new : List Request)
    → All (λ m. m ≤ length changes) marks → earlier c new ≡ requests
    → saved_at marks (changes ++ c ∷ []) new ≡ saved_at marks changes requests
saved-noted [] changes c requests new below back = refl
saved-noted (m ∷ ms) changes c requests new below back =
    let Below : ℕ → Type 0 = λ k. k ≤ length changes in
    let head : rewound (drop m (changes ++ c ∷ [])) new ≡ rewound (drop m changes) requests =
    rewound-last m (changes ++ c ∷ []) changes c new refl (All-head Below m ms below)
    ∙ ap (rewound (drop m changes)) back in
    let tail : saved_at ms (changes ++ c ∷ []) new ≡ saved_at ms changes requests =
    saved-noted ms changes c requests new (All-tail Below m ms below) back in
    cc

-- one change more at most is noted
pub length-noted : (changes noted : List Change) (c : Change) (empty : Bool)
    → noted ≡ (if not empty then changes ++ c ∷ [] else changes) → length noted ≤ length changes + 1
length-noted changes noted c true is = omega (arith, ap length is)
length-noted changes noted c false is = omega (arith, ap length is, length-append changes (c ∷ []))

-- a change that is noted where there is a mark
pub IsLog-noted : (requests new : List Request) (changes noted : List Change) (marks : List ℕ) (c : Change) (empty : Bool)
    → IsLog requests changes marks → empty ≡ (length marks == 0)
    → noted ≡ (if not empty then changes ++ c ∷ [] else changes) → Fits c new → earlier c new ≡ requests
    → IsLog new noted marks
IsLog-noted requests new changes noted [] c empty log told is fits back =
    subst (λ cs. IsLog new cs []) (sym (unnoted changes noted c empty log.oldest told is)) (IsLog-none new)
IsLog-noted requests new changes noted (m ∷ ms) c empty log told is fits back =
    let grown : noted ≡ changes ++ c ∷ [] = is ∙ ap (λ b. if not b then changes ++ c ∷ [] else changes) (told ∙ length-none_false m ms) in
    let longer : length changes ≤ length noted = omega (arith, ap length grown, length-append changes (c ∷ [])) in
    record {
      fit = subst (λ cs. AllFit cs new) (sym grown)
          (AllFit-append changes (c ∷ []) new (subst (AllFit changes) (sym back) log.fit) (fits, tt));
      climbs = Climbs-more (m ∷ ms) (length changes) (length noted) longer log.climbs;
      oldest = log.oldest;
    }

pub none-noted : (requests : List Request) (changes noted : List Change) (marks : List ℕ) (c : Change) (empty : Bool)
    → IsLog requests changes marks → empty ≡ (length marks == 0) → empty ≡ true
    → noted ≡ (if not empty then changes ++ c ∷ [] else changes) → noted ≡ []
none-noted requests changes noted [] c empty log told none is = unnoted changes noted c empty log.oldest told is
none-noted requests changes noted (m ∷ ms) c empty log told none is = absurd (true≢false (sym none ∙ told ∙ length-none_false m ms))

pub saved-logged : (requests new : List Request) (changes noted : List Change) (marks : List ℕ) (c : Change) (empty : Bool)
    → IsLog requests changes marks → empty ≡ (length marks == 0)
    → noted ≡ (if not empty then changes ++ c ∷ [] else changes) → earlier c new ≡ requests
    → saved_at marks noted new ≡ saved_at marks changes requests
saved-logged requests new changes noted [] c empty log told is back = refl
saved-logged requests new changes noted (m ∷ ms) c empty log told is back =
    let grown : noted ≡ changes ++ c ∷ [] = is ∙ ap (λ b. if not b then changes ++ c ∷ [] else changes) (told ∙ length-none_false m ms) in
    ap (λ cs. saved_at (m ∷ ms) cs new) grown
    ∙ saved-noted (m ∷ ms) changes c requests new (Climbs-below (m ∷ ms) (length changes) log.climbs) back

-- a mark
pub IsLog-marked : (requests : List Request) (changes : List Change) (marks new : List ℕ) → IsLog requests changes marks
    → new ≡ marks ++ length changes ∷ [] → IsLog requests changes new
IsLog-marked requests changes marks new log is = record {
  fit = log.fit;
  climbs = subst (λ ms. Climbs ms (length changes)) (sym is) (Climbs-push marks (length changes) log.climbs);
  oldest = ap (λ ms. get_or ms 0 (length changes)) is ∙ get_or_first-push marks (length changes) (length changes) ∙ log.oldest;
}

pub saved-marked : (requests : List Request) (changes : List Change) (marks new : List ℕ)
    → new ≡ marks ++ length changes ∷ [] → saved_at new changes requests ≡ saved_at marks changes requests ++ requests ∷ []
saved-marked requests changes marks new is =
    ap (λ ms. saved_at ms changes requests) is
    ∙ map_push (λ m. rewound (drop m changes) requests) marks (length changes)
    ∙ ap (λ cs. saved_at marks changes requests ++ rewound cs requests ∷ []) (drop_all (length changes) changes (omega arith))

-- the changes behind the latest mark, taken back
pub saved-undone : (requests : List Request) (changes : List Change) (top : ℕ) (marks : List ℕ) → top ≤ length changes
    → All (λ m. m ≤ top) marks
    → saved_at marks (take top changes) (rewound (drop top changes) requests) ≡ saved_at marks changes requests
saved-undone requests changes top [] there below = refl
saved-undone requests changes top (m ∷ ms) there below =
    let front = take top changes in
    let back = drop top changes in
    let parts : front ++ back ≡ changes = take-append-drop top changes in
    let low : m ≤ length front =
    omega (arith, length-take-le top changes there, All-head (λ k. k ≤ top) m ms below) in
    let split : drop m changes ≡ drop m front ++ back =
    ap (drop m) (sym parts) ∙ drop-append-le m front back low in
    let head : rewound (drop m front) (rewound back requests) ≡ rewound (drop m changes) requests =
    sym (ap (λ cs. rewound cs requests) split ∙ rewound-append (drop m front) back requests) in
    let tail = saved-undone requests changes top ms there (All-tail (λ k. k ≤ top) m ms below) in
    cc

module _ (requests : List Request) (changes : List Change) (marks before : List ℕ) (top : ℕ)
    (log : IsLog requests changes marks) (last : marks ≡ before ++ top ∷ []) where
  -- what the latest mark is
  pub climbs_last : (top ≤ length changes) × Climbs before top × Climbs before (length changes)
  climbs_last = Climbs-pop before top (length changes) (subst (λ ms. Climbs ms (length changes)) last log.climbs)

  saved_last : saved_at marks changes requests
      ≡ saved_at before changes requests ++ rewound (drop top changes) requests ∷ []
  saved_last =
      ap (λ ms. saved_at ms changes requests) last
      ∙ map_push (λ m. rewound (drop m changes) requests) before top

  oldest_last : get_or before 0 top ≡ 0
  oldest_last =
      sym (get_or_first-push before top (length changes)) ∙ ap (λ ms. get_or ms 0 (length changes)) (sym last) ∙ log.oldest

  -- the log with the changes behind the latest mark taken back
  log_undone : IsLog (rewound (drop top changes) requests) (take top changes) before
  log_undone =
      let count : length (take top changes) ≡ top = length-take-le top changes climbs_last.0 in
      record {
        fit = AllFit-front (take top changes) (drop top changes) requests
            (subst (λ cs. AllFit cs requests) (sym (take-append-drop top changes)) log.fit);
        climbs = subst (Climbs before) (sym count) climbs_last.1;
        oldest = ap (get_or before 0) count ∙ oldest_last;
      }

  pub IsLog-undone : (new : List Request) (left : List Change) → new ≡ rewound (drop top changes) requests
      → left ≡ take top changes → IsLog new left before
  IsLog-undone new left is are =
      subst (λ rs. IsLog rs left before) (sym is)
      (subst (λ cs. IsLog (rewound (drop top changes) requests) cs before) (sym are) log_undone)

  pub waiting-undone : (new : List Request) (left : List Change) → new ≡ rewound (drop top changes) requests
      → left ≡ take top changes
      → IsBack (saved_at marks changes requests) new (saved_at before left new)
  waiting-undone new left is are older latest split =
      let same = same_from_push (saved_at before changes requests) older (rewound (drop top changes) requests) latest
      (sym saved_last ∙ split) in
      let rest : saved_at before (take top changes) (rewound (drop top changes) requests) ≡ saved_at before changes requests =
      saved-undone requests changes top before climbs_last.0 (Climbs-below before top climbs_last.1) in
      let there : saved_at before left new ≡ saved_at before (take top changes) (rewound (drop top changes) requests) =
      ap (λ rs. saved_at before left rs) is ∙ ap (λ cs. saved_at before cs (rewound (drop top changes) requests)) are in
      (is ∙ same.1, there ∙ rest ∙ same.0)

  -- the latest mark, given up
  pub IsLog-kept : 0 < length before → IsLog requests changes before
  IsLog-kept some = record {
    fit = log.fit;
    climbs = climbs_last.2;
    oldest = oldest_some before some oldest_last;
  } where
    oldest_some : (ms : List ℕ) → 0 < length ms → get_or ms 0 top ≡ 0 → get_or ms 0 (length changes) ≡ 0
    oldest_some [] some is = absurd (omega (arith, some))
    oldest_some (m ∷ ms) some is = is

  pub waiting-kept : IsGivenUp (saved_at marks changes requests) (saved_at before changes requests)
  waiting-kept older latest split =
      let same = same_from_push (saved_at before changes requests) older (rewound (drop top changes) requests) latest
      (sym saved_last ∙ split) in
      same.0
