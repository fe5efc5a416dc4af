-- The last passes of columns, and the centres that are closed once these have ended.
use Rattle.std.proofs.Common.{◌≡◌, ℕ, zero, suc, ◌+◌, ◌<◌, ◌≤◌, false, List, [], ◌∷◌, ◌++◌, Some, All, cond, length, map, reverse, get_or, refl, sym, ap, ◌∙◌, subst, arith, eq-eqb}
use Rattle.std.specs.List.{slice_get}
use mathlib.Core.List.{IsPrefix}
use Rattle.std.proofs.lemmas.List.{append-nil, append_assoc, length-append, same_from_push}
use Rattle.std.proofs.lemmas.List.Sums.{get_or-le-sum_by}
use Rattle.std.proofs.lemmas.Option.{none-some, same_Some, get_or_from_slice_get}
use Rattle.tc_centre.specs.Centre.{Centre}
use Rattle.tc_centre.specs.Owners.{owner_of}
use Rattle.tc_centre.proofs.Owned.{owned-calls}
use Rattle.tc_lists.proofs.Elements.{All-append_left, All-last, All-slice_get, All-from_slice_get}
use Rattle.tc_lists.proofs.Places.{slice_get_longer, slice_get_pushed}
use Rattle.tc_lists.proofs.Prefixes.{IsPrefix-front, IsPrefix-whole, slice_get-IsPrefix}
use Rattle.tc_lists.proofs.Reversals.{reverse_push}
use Rattle.tc_model.specs.Calls.{calls_of}
use Rattle.tc_model.specs.State.{Origin}
use Rattle.tc_model.specs.declared.entries.Entry.{Entry}
use Rattle.tc_shared.specs.Passes.{IsAtRest}
use Rattle.tc_turn.specs.Order.{one_if_same}
use Rattle.tc_turn.specs.Owners.{entries_of}
use Rattle.tc_turn.specs.Passes as turnstile
use Rattle.tc_turn.specs.Passes.{TurnstileState, PassState, end_of, ended_count, AgreesWith}
use Rattle.tc_site.specs.Columns.{AreClosedFrom, AreColumns, AreTaken, HasLast, HaveLasts, IsClosedAt, IsClosedOver, IsSeenBy, LosesLast}
use Rattle.tc_site.specs.Sites.{ArePasses, IsOwnPass}
use Rattle.tc_lists.proofs.Sets.{slice_get-as_long, slice_get_inside}
use Rattle.tc_lists.proofs.Parts.{push_from_length}
use Rattle.tc_site.proofs.Sweeps.{Swept, swept-all, swept-step, swept-weaker}
use Rattle.std.proofs.Math.ListN.{set}

-- the passes that were popped are the last ones
pub loses-last : (t : TurnstileState Origin) (agent : ℕ) (old new : List (PassState Entry Origin)) (p : PassState Entry Origin)
    → HasLast t agent old → old ≡ new ++ p ∷ [] → IsOwnPass agent t p × (p.holds ≡ false)
loses-last t agent old new p last is =
    let same : last.p ≡ p = (same_from_push last.front new last.p p (sym last.is ∙ is)).1 in (
      subst (IsOwnPass agent t) same last.own,
      subst (λ (q : PassState Entry Origin). q.holds ≡ false) same last.free,
    )

module _ (t : TurnstileState Origin) (olds : List (List (PassState Entry Origin))) (row : List (turnstile.EndedState Entry)) (news : List (List (PassState Entry Origin)))
    (taken : AreTaken t olds row news) where
  -- the column whose pass has ended at a place
  taken-at : (agent : ℕ) (e : turnstile.EndedState Entry) → slice_get row agent ≡ Some e
      → (old : List (PassState Entry Origin)) × (new : List (PassState Entry Origin)) × LosesLast t agent old e new
  taken-at agent e at =
      let old = slice_get-as_long row olds agent e (sym taken.wide) at in
      let new = slice_get-as_long olds news agent old.0 taken.whole old.1 in
      let got = taken.each agent old.0 new.0 old.1 new.1 in
      (old.0, new.0, subst (λ f. LosesLast t agent old.0 f new.0) (same_Some got.0 e (sym got.1 ∙ at)) got.2)

  pub taken-own : All (λ (e : turnstile.EndedState Entry). e.table ≡ t.table) row
  taken-own =
      All-from_slice_get (λ (e : turnstile.EndedState Entry). e.table ≡ t.table) row
      (λ agent e at. let loses = (taken-at agent e at).2 in
      ap (λ (f : turnstile.EndedState Entry). f.table) loses.end_is ∙ loses.own.own.own.0)

  pub taken-whole : t.passes ≡ length olds → (n : ℕ) → n < t.passes → 0 < ended_count n row
  taken-whole passes n below =
      let inside : n < length row = let w = taken.wide in omega (arith, passes, w, below) in
      let e = slice_get_inside row n inside in
      let loses = (taken-at n e.0 e.1).2 in
      let number : e.0.number ≡ n = ap (λ (f : turnstile.EndedState Entry). f.number) loses.end_is ∙ loses.own.number in
      let one : one_if_same e.0.number n ≡ 1 = ap (λ b. cond b 1 0) (eq-eqb e.0.number n number) in
      let read : get_or row n e.0 ≡ e.0 = get_or_from_slice_get row n e.0 e.0 e.1 in
      let count : one_if_same (get_or row n e.0).number n ≤ ended_count n row =
      get_or-le-sum_by (λ (f : turnstile.EndedState Entry). one_if_same f.number n) row n e.0 inside in
      let least : one_if_same e.0.number n ≤ ended_count n row =
      subst (λ (f : turnstile.EndedState Entry). one_if_same f.number n ≤ ended_count n row) read count in
      omega (arith, one, least)

  pub closed-over : (core : Centre) → core.origin ≡ t.origin → IsAtRest core.origin core.history → All (AgreesWith owner_of core.history) row
      → ((n : ℕ) → t.passes ≤ n → entries_of owner_of n core.history ≡ []) → IsClosedOver t olds core news
  closed-over core began rest seen others = record {
    left = record { origin_is = began; rest = rest; others = λ agent past. sym (owned-calls agent core.history) ∙ others agent past };
    whole = taken.whole;
    each = λ agent old new was now.
        let got = taken.each agent old new was now in
        let loses = got.2 in
        let p = loses.p in
        let agrees : AgreesWith owner_of core.history (end_of p) =
        subst (λ (f : turnstile.EndedState Entry). AgreesWith owner_of core.history f) loses.end_is
        (All-slice_get (AgreesWith owner_of core.history) row agent got.0 seen got.1) in
        let mine : calls_of p.number core.history ≡ calls_of p.number p.seen =
        sym (owned-calls p.number core.history) ∙ agrees.1 ∙ sym loses.own.own.mine in (
          p,
          loses.is,
          record {
            seen = agrees.0;
            mine = subst (λ n. calls_of n core.history ≡ calls_of n p.seen) loses.own.number mine;
          },
        );
  }

-- a column lost its last pass, which has ended and stands at the agent's place
abbrev pub HasLost : TurnstileState Origin → List (turnstile.EndedState Entry) → ℕ → List (PassState Entry Origin) → List (PassState Entry Origin) → Type 0
HasLost t row agent old new = (e : turnstile.EndedState Entry) × (slice_get row agent ≡ Some e) × LosesLast t agent old e new

pub HasLost-longer : (t : TurnstileState Origin) (row more : List (turnstile.EndedState Entry)) (agent : ℕ) (old new : List (PassState Entry Origin))
    → HasLost t row agent old new → HasLost t (row ++ more) agent old new
HasLost-longer t row more agent old new lost = (lost.0, slice_get_longer row more agent lost.0 lost.1, lost.2)

-- one column more has lost its last pass
pub losing-more : (t : TurnstileState Origin) (row : List (turnstile.EndedState Entry)) (olds news : List (List (PassState Entry Origin))) (index : ℕ)
    (old new : List (PassState Entry Origin)) (p : PassState Entry Origin) → HaveLasts t olds → Swept (HasLost t row) olds news index → length row ≡ index
    → slice_get news index ≡ Some old → old ≡ new ++ p ∷ []
    → Swept (HasLost t (row ++ end_of p ∷ [])) olds (set news index new) (index + 1)
losing-more t row olds news index old new p lasts swept wide at is =
    let was : slice_get olds index ≡ Some old = sym (swept.same index (omega arith)) ∙ at in
    let own = (loses-last t index old new p (lasts index old was) is).0 in
    swept-step (HasLost t (row ++ end_of p ∷ [])) olds news index old new
    (swept-weaker (HasLost t row) (HasLost t (row ++ end_of p ∷ [])) olds news index (HasLost-longer t row (end_of p ∷ [])) swept) at (
      end_of p,
      subst (λ n. slice_get (row ++ end_of p ∷ []) n ≡ Some (end_of p)) wide (slice_get_pushed row (end_of p)),
      record { p = p; is = is; own = own; end_is = refl },
    )

-- the last pass of the next column may be ended
pub losing-own : (t : TurnstileState Origin) (row : List (turnstile.EndedState Entry)) (olds news : List (List (PassState Entry Origin))) (index : ℕ)
    (old new : List (PassState Entry Origin)) (p : PassState Entry Origin) → HaveLasts t olds → Swept (HasLost t row) olds news index
    → slice_get news index ≡ Some old → old ≡ new ++ p ∷ [] → IsOwnPass index t p × (p.holds ≡ false)
losing-own t row olds news index old new p lasts swept at is =
    loses-last t index old new p (lasts index old (sym (swept.same index (omega arith)) ∙ at)) is

-- the next column has a pass
pub losing-some : (t : TurnstileState Origin) (row : List (turnstile.EndedState Entry)) (olds news : List (List (PassState Entry Origin))) (index : ℕ)
    (old : List (PassState Entry Origin)) → HaveLasts t olds → Swept (HasLost t row) olds news index → slice_get news index ≡ Some old → 0 < length old
losing-some t row olds news index old lasts swept at =
    let last = lasts index old (sym (swept.same index (omega arith)) ∙ at) in
    let e = ap length last.is in
    let f = length-append last.front (last.p ∷ []) in
    omega (arith, e, f)

pub AreTaken-all : (t : TurnstileState Origin) (row : List (turnstile.EndedState Entry)) (olds news : List (List (PassState Entry Origin))) (index : ℕ)
    → Swept (HasLost t row) olds news index → length row ≡ index → length olds ≤ index → index ≤ length olds → AreTaken t olds row news
AreTaken-all t row olds news index swept wide past within = record {
  whole = swept.whole;
  wide = omega (arith, wide, past, within);
  each = swept-all (HasLost t row) olds news index swept past;
}

-- each column has the last centre's pass at its end
pub have-lasts : (ts : List (TurnstileState Origin)) (t : TurnstileState Origin) (columns : List (List (PassState Entry Origin))) → AreColumns (ts ++ t ∷ []) columns
    → HaveLasts t columns
have-lasts ts t columns columns_are agent column at =
    let are = columns_are.are agent column at in
    let long : length column ≡ length ts + 1 = are.wide ∙ length-append ts (t ∷ []) in
    let split = push_from_length column (length ts) long in
    let front = split.0 in
    let p = split.1 in
    let short : length front ≡ length ts =
    let e = ap length split.2 in let f = length-append front (p ∷ []) in omega (arith, e, f, long) in
    let here : slice_get column (length ts) ≡ Some p =
    ap (λ c. slice_get c (length ts)) split.2 ∙ subst (λ n. slice_get (front ++ p ∷ []) n ≡ Some p) short (slice_get_pushed front p) in
    record {
      front = front;
      p = p;
      is = split.2;
      own = are.each (length ts) t p (slice_get_pushed ts t) here;
      free = All-last (λ (q : PassState Entry Origin). q.holds ≡ false) front p
          (subst (All (λ (q : PassState Entry Origin). q.holds ≡ false)) split.2 (columns_are.free agent column at));
    }

-- some of a site's centres are open still, and what is left of the others stands in the list of cores, from the last one on
pub record IsClosing (all : List (TurnstileState Origin)) (columns : List (List (PassState Entry Origin))) (open_still : List (TurnstileState Origin))
    (now : List (List (PassState Entry Origin))) (cores : List Centre) : Type 0 where
  pub closed : List (TurnstileState Origin)
  pub was : all ≡ open_still ++ closed
  pub are : AreColumns open_still now
  pub whole : length now ≡ length columns
  pub fronts : (agent : ℕ) (column left : List (PassState Entry Origin)) → slice_get columns agent ≡ Some column → slice_get now agent ≡ Some left → IsPrefix left column
  pub done : AreClosedFrom columns (length open_still) closed (reverse cores)

pub closing-none : (all : List (TurnstileState Origin)) (columns : List (List (PassState Entry Origin))) → AreColumns all columns → IsClosing all columns all columns []
closing-none all columns are = record {
  closed = [];
  was = sym (append-nil all);
  are = are;
  whole = refl;
  fronts = λ agent column left at there.
      subst (λ (c : List (PassState Entry Origin)). IsPrefix left c) (same_Some left column (sym there ∙ at)) (IsPrefix-whole left);
  done = tt;
}

module _ (all : List (TurnstileState Origin)) (columns : List (List (PassState Entry Origin))) (ts : List (TurnstileState Origin)) (t : TurnstileState Origin)
    (olds news : List (List (PassState Entry Origin))) (cores : List Centre) (core : Centre) (before : IsClosing all columns (ts ++ t ∷ []) olds cores)
    (closed : IsClosedOver t olds core news) where
  -- what a column has lost
  lost : (agent : ℕ) (new : List (PassState Entry Origin)) → slice_get news agent ≡ Some new
      → (old : List (PassState Entry Origin)) × (p : PassState Entry Origin) × (slice_get olds agent ≡ Some old) × (old ≡ new ++ p ∷ []) × IsSeenBy core.history agent p
  lost agent new at =
      let old = slice_get-as_long news olds agent new (sym closed.whole) at in
      let got = closed.each agent old.0 new old.1 at in
      (old.0, got.0, old.1, got.1, got.2)

  shorter : (agent : ℕ) (old new : List (PassState Entry Origin)) (p : PassState Entry Origin) → ArePasses agent (ts ++ t ∷ []) old → old ≡ new ++ p ∷ []
      → length new ≡ length ts
  shorter agent old new p are is =
      let w = are.wide in
      let e = ap length is in
      let f = length-append new (p ∷ []) in
      let g = length-append ts (t ∷ []) in
      omega (arith, w, e, f, g)

  passes-left : (agent : ℕ) (old new : List (PassState Entry Origin)) (p : PassState Entry Origin) → ArePasses agent (ts ++ t ∷ []) old → old ≡ new ++ p ∷ []
      → ArePasses agent ts new
  passes-left agent old new p are is = record {
    wide = shorter agent old new p are is;
    each = λ k s q at there.
        are.each k s q (slice_get_longer ts (t ∷ []) k s at)
        (ap (λ c. slice_get c k) is ∙ slice_get_longer new (p ∷ []) k q there);
  }

  columns-left : AreColumns ts news
  columns-left = record {
    are = λ agent new at.
        let l = lost agent new at in
        passes-left agent l.0 new l.1 (before.are.are agent l.0 l.2) l.3;
    free = λ agent new at.
        let l = lost agent new at in
        All-append_left (λ (q : PassState Entry Origin). q.holds ≡ false) new (l.1 ∷ [])
        (subst (All (λ (q : PassState Entry Origin). q.holds ≡ false)) l.3 (before.are.free agent l.0 l.2));
  }

  closed-here : IsClosedAt columns (length ts) t core
  closed-here = record {
    left = closed.left;
    each = λ agent column p at there.
        let new = slice_get-as_long columns news agent column (closed.whole ∙ before.whole) at in
        let l = lost agent new.0 new.1 in
        let short = shorter agent l.0 new.0 l.1 (before.are.are agent l.0 l.2) l.3 in
        let front : IsPrefix (new.0 ++ l.1 ∷ []) column =
        subst (λ (c : List (PassState Entry Origin)). IsPrefix c column) l.3 (before.fronts agent column l.0 at l.2) in
        let last : slice_get column (length ts) ≡ Some l.1 =
        slice_get-IsPrefix (new.0 ++ l.1 ∷ []) column (length ts) l.1 front
        (subst (λ n. slice_get (new.0 ++ l.1 ∷ []) n ≡ Some l.1) short (slice_get_pushed new.0 l.1)) in
        subst (IsSeenBy core.history agent) (same_Some l.1 p (sym last ∙ there)) l.4;
  }

  -- one centre more is closed
  pub closing-more : IsClosing all columns ts news (cores ++ core ∷ [])
  closing-more = record {
    closed = t ∷ before.closed;
    was = before.was ∙ append_assoc ts (t ∷ []) before.closed;
    are = columns-left;
    whole = closed.whole ∙ before.whole;
    fronts = λ agent column new at there.
        let l = lost agent new there in
        IsPrefix-front new (l.1 ∷ []) column
        (subst (λ (c : List (PassState Entry Origin)). IsPrefix c column) l.3 (before.fronts agent column l.0 at l.2));
    done =
        let many : length (ts ++ t ∷ []) ≡ suc (length ts) = length-append ts (t ∷ []) ∙ (omega arith) in
        let rest : AreClosedFrom columns (suc (length ts)) before.closed (reverse cores) =
        subst (λ n. AreClosedFrom columns n before.closed (reverse cores)) many before.done in
        subst (λ xs. AreClosedFrom columns (length ts) (t ∷ before.closed) xs) (sym (reverse_push cores core)) (closed-here, rest);
  }

-- once no centre is open any more, all are closed
pub closing-all : (all : List (TurnstileState Origin)) (columns now : List (List (PassState Entry Origin))) (cores : List Centre) → IsClosing all columns [] now cores
    → AreClosedFrom columns 0 all (reverse cores)
closing-all all columns now cores closing = subst (λ ts. AreClosedFrom columns 0 ts (reverse cores)) (sym closing.was) closing.done

-- what is left of the centre at a place
pub closed-at : (columns : List (List (PassState Entry Origin))) (place : ℕ) (ts : List (TurnstileState Origin)) (cores : List Centre) → AreClosedFrom columns place ts cores
    → (k : ℕ) (core : Centre) → slice_get cores k ≡ Some core
    → (t : TurnstileState Origin) × (slice_get ts k ≡ Some t) × IsClosedAt columns (place + k) t core
closed-at columns place [] [] closed k core at = absurd (none-some core at)
closed-at columns place [] (x ∷ xs) closed k core at = absurd closed
closed-at columns place (t ∷ ts) [] closed k core at = absurd closed
closed-at columns place (t ∷ ts) (x ∷ xs) closed zero core at =
    let here : place ≡ place + 0 = omega arith in
    (t, refl, subst (λ n. IsClosedAt columns n t core) here (subst (IsClosedAt columns place t) (same_Some x core at) closed.0))
closed-at columns place (t ∷ ts) (x ∷ xs) closed (suc k) core at =
    let got = closed-at columns (suc place) ts xs closed.1 k core at in
    let here : suc place + k ≡ place + suc k = omega arith in
    (got.0, got.1, subst (λ n. IsClosedAt columns n got.0 core) here got.2)

pub closed-origins : (columns : List (List (PassState Entry Origin))) (place : ℕ) (ts : List (TurnstileState Origin)) (cores : List Centre) → AreClosedFrom columns place ts cores
    → map (λ (x : Centre). x.origin) cores ≡ map (λ (t : TurnstileState Origin). t.origin) ts
closed-origins columns place [] [] closed = refl
closed-origins columns place [] (x ∷ xs) closed = absurd closed
closed-origins columns place (t ∷ ts) [] closed = absurd closed
closed-origins columns place (t ∷ ts) (x ∷ xs) closed =
    ap (λ (o : Origin). o ∷ map (λ (y : Centre). y.origin) xs) closed.0.left.origin_is
    ∙ ap (λ os. t.origin ∷ os) (closed-origins columns (suc place) ts xs closed.1)
