-- A desk that takes a turn and holds it, and gives it back.
use Rattle.std.proofs.Common.{◌≡◌, ℕ, ◌-◌, ◌<◌, true, false, List, [], Some, None, length, get_or, set, refl, sym, ap, ◌∙◌, subst, arith, ⊎_elim}
use Rattle.std.specs.List.{slice_get, slice_index}
use Rattle.std.specs.Option.{is_none}
use Rattle.std.proofs.lemmas.Bool.{cases_eq, eq-eqb, ne_eqb}
use Rattle.std.proofs.lemmas.List.{append-nil}
use Rattle.std.proofs.lemmas.List.Elements.{All-nil}
use Rattle.std.proofs.lemmas.Option.{same_Some, get_or_from_slice_get}
use Rattle.tc_centre.specs.Centre.{Centre}
use Rattle.tc_desk.specs.Agreeing.{Agrees}
use Rattle.tc_desk.specs.Desks.{DeskState, TakesTurn}
use Rattle.tc_model.specs.Calls.{id_of}
use Rattle.tc_model.specs.State.{Origin}
use Rattle.tc_model.specs.declared.entries.Entry.{Entry}
use Rattle.tc_shared.specs.Passes.{IsPassOf, IsPaused, IsSpent, KeepsPass}
use Rattle.tc_turn.specs.Passes.{TurnstileState, PassState}
use Rattle.tc_site.specs.Desks.{AgentState, IsDesk, counts_of, desk_of, is_held, turns_of, waits_in}
use Rattle.tc_site.specs.Pausing.{HasNoneLeft, HoldsTurn, Pauses, Resumes}
use Rattle.tc_site.specs.Sites.{histories_of, origins_of}
use Rattle.tc_site.specs.Turns.{HasGrown}
use Rattle.tc_site.proofs.Calling.{are-set}
use Rattle.tc_lists.proofs.Sets.{get_or-map_at, get_or-map_set_other, map-set_both, map-set_like, slice_get-set_other, slice_get-set_same, slice_get_inside, set-slice_get}
use Rattle.tc_site.proofs.Told.{at-pass}
use Rattle.tc_site.proofs.Turned.{desk-longer, none-held, pass-free}

is-set : (passes : List (PassState Entry Origin)) (place k : ℕ) (p q x : PassState Entry Origin) → slice_get passes place ≡ Some p → slice_get (set passes place q) k ≡ Some x
    → k ≡ place → x ≡ q
is-set passes place k p q x was at here =
    same_Some x q (sym at ∙ ap (slice_get (set passes place q)) here ∙ slice_get-set_same passes place q p was)

-- the desk may take a turn at the centre of a place, whose pass this is
pub record MayPause {W : Type 0} (d : AgentState W) (place : ℕ) (t : TurnstileState Origin) (p : PassState Entry Origin) : Type 0 where
  pub centre : List ℕ
  pub named : slice_get d.site.names place ≡ Some centre
  pub at_pass : slice_get d.passes place ≡ Some p
  pub own : IsPassOf t p
  pub idle : p.holds ≡ false

pub may-pause : {W : Type 0} (d : AgentState W) → IsDesk d → (place : ℕ) (t : TurnstileState Origin) (p : PassState Entry Origin)
    → place < length d.site.names → slice_get d.site.centres place ≡ Some t → p ≡ get_or d.passes place p → is_none d.held ≡ true
    → MayPause d place t p
may-pause d is place t p inside at-t value free =
    let name = slice_get_inside d.site.names place inside in
    let at-p : slice_get d.passes place ≡ Some p = at-pass is place name.1 value in
    record {
      centre = name.0;
      named = name.1;
      at_pass = at-p;
      own = (is.are.each place t p at-t at-p).own;
      idle = pass-free d is free place name.0 name.1 t p at-t at-p;
    }

-- a desk whose pass had no turn left
module _ {W : Type 0} (d : AgentState W) (place : ℕ) (p q : PassState Entry Origin) (at-p : slice_get d.passes place ≡ Some p) (spent : IsSpent p q) where
  abbrev with_passes : List (PassState Entry Origin) → AgentState W
  with_passes passes = record { site = d.site; agent = d.agent; passes = passes; log = d.log; pending = d.pending; held = d.held }

  spent-passes : set d.passes place q ≡ d.passes
  spent-passes = ap (λ x. set d.passes place x) spent.1 ∙ set-slice_get d.passes place p at-p

  pub spent-still : (s : AgentState W) → d ≡ s
      → HasNoneLeft s place (record { site = d.site; agent = d.agent; passes = set d.passes place q; log = d.log; pending = d.pending; held = d.held })
  spent-still s same =
      subst (λ (x : AgentState W). HasNoneLeft x place (with_passes (set d.passes place q))) same
      (record {
        p = p;
        at_pass = at-p;
        none = spent.0;
        same = ap with_passes spent-passes;
      })

module _ {W : Type 0} (d : AgentState W) (is : IsDesk d) (free : is_none d.held ≡ true)
    (place : ℕ) (centre : List ℕ) (named : slice_get d.site.names place ≡ Some centre)
    (t : TurnstileState Origin) (p : PassState Entry Origin) (at-t : slice_get d.site.centres place ≡ Some t) (at-p : slice_get d.passes place ≡ Some p)
    (core : Centre) (q : PassState Entry Origin) (took : IsPaused t p core q) where
  -- the desk that holds the turn
  abbrev holder : AgentState W
  holder = record { site = d.site; agent = d.agent; passes = set d.passes place q; log = d.log; pending = d.pending; held = Some place }

  -- the pass, as it would be if it held no turn
  abbrev idle : PassState Entry Origin
  idle = record q { holds = false }

  own : IsPassOf t q
  own = took.paused.own

  number : q.number ≡ p.number
  number = ap (λ (x : PassState Entry Origin). x.number) took.after

  idle-keeps : KeepsPass t p idle
  idle-keeps = record {
    own = record { own = own.own; agent = own.agent; rest = own.rest; mine = own.mine };
    number = number;
    free = refl;
  }

  idle-grown : HasGrown (length d.log) p idle
  idle-grown = record {
    more = took.known.0;
    grown = sym took.known.1;
    mine = [];
    mine_is = ap (λ (x : PassState Entry Origin). x.mine) took.after ∙ sym (append-nil p.mine);
    above = All-nil (λ e. length d.log < (id_of e).number);
  }

  idle-desk : IsDesk (record d { passes = set d.passes place idle })
  idle-desk =
      desk-longer d is free place centre named t p at-t at-p idle idle-keeps idle-grown (ap (λ (x : PassState Entry Origin). x.mine) took.after)

  same-seen : histories_of (set d.passes place idle) ≡ histories_of (set d.passes place q)
  same-seen = map-set_both (λ (x : PassState Entry Origin). x.seen) d.passes place idle q refl

  holder-holds : (k : ℕ) (x : PassState Entry Origin) → slice_get (set d.passes place q) k ≡ Some x → x.holds ≡ is_held (Some place) k
  holder-holds k x at =
      ⊎_elim
      (λ (here : k ≡ place).
      ap (λ (y : PassState Entry Origin). y.holds) (is-set d.passes place k p q x at-p at here) ∙ took.paused.holds ∙ sym (eq-eqb place k (sym here)))
      (λ (other : k ≡ place → ⊥).
      is.holds k x (sym (slice_get-set_other d.passes place k q other) ∙ at) ∙ none-held d.held k free
      ∙ sym (ne_eqb place k (λ e. other (sym e))))
      (cases_eq k place)

  pub pause-desk : IsDesk (record { site = d.site; agent = d.agent; passes = set d.passes place q; log = d.log; pending = d.pending; held = Some place })
  pause-desk = record {
    site = is.site;
    agent_is = is.agent_is;
    are = are-set d.agent (length d.log) place d.site.centres d.passes is.are t p q at-t at-p own number;
    holds = holder-holds;
    agrees = subst (λ hs. Agrees (origins_of d.site.centres) d.site.names hs d.agent d.log) same-seen idle-desk.agrees;
    waits = is.waits;
  }

  takes : TakesTurn (desk_of d) centre (desk_of holder)
  takes =
      let turns : PassState Entry Origin → ℕ = λ x. x.turns in
      let before : slice_index (turns_of d.passes) place ≡ p.turns = get_or-map_at turns d.passes place p 0 at-p in
      let after : slice_index (turns_of (set d.passes place q)) place ≡ q.turns =
      get_or-map_at turns (set d.passes place q) place q 0 (slice_get-set_same d.passes place q p at-p) in
      let left = took.left in
      let fell : q.turns ≡ p.turns - 1 = ap turns took.after in
      record {
        place = place;
        named = named;
        one = omega (arith, before, after, left, fell);
        others = λ k other. get_or-map_set_other turns d.passes place k q 0 other;
      }

  pub pauses : (s : AgentState W) → d ≡ s
      → Pauses s place core (record { site = d.site; agent = d.agent; passes = set d.passes place q; log = d.log; pending = d.pending; held = Some place })
  pauses s same =
      subst (λ (x : AgentState W). Pauses x place core holder) same
      (record {
        t = t;
        p = p;
        q = q;
        at_centre = at-t;
        at_pass = at-p;
        took = took;
        after = refl;
        centre = centre;
        named = named;
        turn = takes;
      })

-- a desk that holds a turn gives it back
module _ {W : Type 0} (d : AgentState W) (is : IsDesk d) (place : ℕ) (core : Centre) (holds : HoldsTurn d place core) where
  abbrev t : TurnstileState Origin
  t = holds.t

  abbrev p : PassState Entry Origin
  p = holds.p

  abbrev back : PassState Entry Origin
  back = record p { holds = false }

  abbrev freed : AgentState W
  freed = record { site = d.site; agent = d.agent; passes = set d.passes place back; log = d.log; pending = d.pending; held = None }

  back-own : IsPassOf t back
  back-own =
      let own = holds.paused.own in
      record { own = own.own; agent = own.agent; rest = own.rest; mine = own.mine }

  freed-holds : (k : ℕ) (x : PassState Entry Origin) → slice_get (set d.passes place back) k ≡ Some x → x.holds ≡ is_held None k
  freed-holds k x at =
      ⊎_elim
      (λ (here : k ≡ place). ap (λ (y : PassState Entry Origin). y.holds) (is-set d.passes place k p back x holds.at_pass at here))
      (λ (other : k ≡ place → ⊥).
      is.holds k x (sym (slice_get-set_other d.passes place k back other) ∙ at) ∙ ap (λ o. is_held o k) holds.held_is
      ∙ ne_eqb place k (λ e. other (sym e)))
      (cases_eq k place)

  resume-desk : IsDesk (record { site = d.site; agent = d.agent; passes = set d.passes place (record holds.p { holds = false }); log = d.log; pending = d.pending; held = None })
  resume-desk = record {
    site = is.site;
    agent_is = is.agent_is;
    are = are-set d.agent (length d.log) place d.site.centres d.passes is.are t p back holds.at_centre holds.at_pass back-own refl;
    holds = freed-holds;
    agrees = subst (λ hs. Agrees (origins_of d.site.centres) d.site.names hs d.agent d.log)
        (sym (map-set_like (λ (x : PassState Entry Origin). x.seen) d.passes place p back holds.at_pass refl)) is.agrees;
    waits = is.waits;
  }

  resume-state : desk_of (record { site = d.site; agent = d.agent; passes = set d.passes place (record holds.p { holds = false }); log = d.log; pending = d.pending; held = None })
      ≡ record (desk_of d) { free = true }
  resume-state =
      let state : List ℕ → List ℕ → List (List Entry) → DeskState =
      λ turns seen histories. record {
        log = d.log;
        names = d.site.names;
        turns = turns;
        seen = seen;
        waits = waits_in histories d.agent d.pending;
        free = true;
      } in
      ap (λ xs. state xs (counts_of (set d.passes place back)) (histories_of (set d.passes place back)))
      (map-set_like (λ (x : PassState Entry Origin). x.turns) d.passes place p back holds.at_pass refl)
      ∙ ap (λ xs. state (turns_of d.passes) xs (histories_of (set d.passes place back)))
      (map-set_like (λ (x : PassState Entry Origin). length x.seen) d.passes place p back holds.at_pass refl)
      ∙ ap (state (turns_of d.passes) (counts_of d.passes))
      (map-set_like (λ (x : PassState Entry Origin). x.seen) d.passes place p back holds.at_pass refl)

  -- the pass and the centre at the place are those
  same-pass : (p' : PassState Entry Origin) → p' ≡ get_or d.passes place p' → p' ≡ p
  same-pass p' value = value ∙ get_or_from_slice_get d.passes place p p' holds.at_pass

  -- the desk once the pass has given back its turn
  module _ (p' q : PassState Entry Origin) (value : p' ≡ get_or d.passes place p') (after : q ≡ record p' { holds = false }) where
    back-is : q ≡ back
    back-is = after ∙ ap (λ (x : PassState Entry Origin). let y : PassState Entry Origin = record x { holds = false } in y) (same-pass p' value)

    abbrev given : PassState Entry Origin → AgentState W
    given x = record { site = d.site; agent = d.agent; passes = set d.passes place x; log = d.log; pending = d.pending; held = None }

    pub resumed-desk : IsDesk (record { site = d.site; agent = d.agent; passes = set d.passes place q; log = d.log; pending = d.pending; held = None })
    resumed-desk = subst (λ x. IsDesk (given x)) (sym back-is) resume-desk

    pub resumed-state : (s : AgentState W) → d ≡ s
        → desk_of (record { site = d.site; agent = d.agent; passes = set d.passes place q; log = d.log; pending = d.pending; held = None }) ≡ record (desk_of s) { free = true }
    resumed-state s same =
        subst (λ (x : AgentState W). desk_of (given q) ≡ record (desk_of x) { free = true }) same
        (ap (λ x. desk_of (given x)) back-is ∙ resume-state)

    pub resumes : (s : AgentState W) → d ≡ s
        → Resumes s (record { site = d.site; agent = d.agent; passes = set d.passes place q; log = d.log; pending = d.pending; held = None })
    resumes s same =
        subst (λ (x : AgentState W). Resumes x (given q)) same
        (record {
          place = place;
          p = p;
          held_is = holds.held_is;
          at_pass = holds.at_pass;
          after = ap given back-is;
        })

-- the turn that a desk holds is at the place that it knows
pub holds-here : {W : Type 0} (d s : AgentState W) (place : ℕ) (core : Centre) → d ≡ s → d.held ≡ Some place → (n : ℕ) × HoldsTurn s n core → HoldsTurn d place core
holds-here d s place core same at has =
    let here : HoldsTurn d has.0 core = subst (λ x. HoldsTurn x has.0 core) (sym same) has.1 in
    subst (λ n. HoldsTurn d n core) (same_Some has.0 place (sym here.held_is ∙ at)) here

-- a desk that took a turn may give it back
pub took-holds : {W : Type 0} (d e : AgentState W) (place : ℕ) (core : Centre) → Pauses d place core e → HoldsTurn e place core
took-holds d e place core took =
    subst (λ x. HoldsTurn x place core) (sym took.after)
    (record {
      held_is = refl;
      t = took.t;
      p = took.q;
      at_centre = took.at_centre;
      at_pass = slice_get-set_same d.passes place took.q took.p took.at_pass;
      paused = took.took.paused;
    })
