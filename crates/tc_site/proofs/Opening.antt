-- A desk that has made no call.
use Rattle.std.proofs.Common.{◌≡◌, ℕ, ◌<◌, List, [], Some, None, All, length, refl, sym, ap, ◌∙◌, subst, arith}
use Rattle.std.specs.List.{slice_get}
use Rattle.std.proofs.lemmas.List.{length-map}
use Rattle.std.proofs.lemmas.List.Elements.{All-nil}
use Rattle.std.proofs.lemmas.Option.{none-some, get_or_from_slice_get}
use Rattle.tc_desk.specs.Agreeing.{HasRow}
use Rattle.tc_model.specs.Calls.{calls_of}
use Rattle.tc_model.specs.State.{Origin}
use Rattle.tc_model.specs.declared.entries.Entry.{Entry}
use Rattle.tc_turn.specs.Passes.{PassState}
use Rattle.tc_site.specs.Sites.{SiteState, AreFresh, IsSite}
use Rattle.tc_site.specs.Desks.{AgentState, IsDesk, IsNewDesk, desk_of, turns_of}
use Rattle.tc_lists.proofs.Sets.{slice_get-as_long, slice_get_inside, slice_get-map_at, slice_get-map_from}

module _ {W : Type 0} (s : SiteState W) (agent : ℕ) (passes : List (PassState Entry Origin)) (fresh : AreFresh agent s.centres passes)
    (site : IsSite s.names s.centres s.roles) where
  abbrev new : AgentState W
  new = record { site = s; agent = agent; passes = passes; log = []; pending = None; held = None }

  seen-none : (k : ℕ) (p : PassState Entry Origin) → slice_get passes k ≡ Some p → p.seen ≡ []
  seen-none k p at =
      let t = slice_get-as_long passes s.centres k p (sym fresh.are.wide) at in
      ap (λ (q : PassState Entry Origin). q.seen) (fresh.fresh k t.0 p t.1 at)

  pub new-desk : agent < length s.roles → IsDesk (record { site = s; agent = agent; passes = passes; log = []; pending = None; held = None })
  new-desk is = record {
    site = site;
    agent_is = is;
    are = fresh.are;
    holds = λ k p at.
        let t = slice_get-as_long passes s.centres k p (sym fresh.are.wide) at in
        ap (λ (q : PassState Entry Origin). q.holds) (fresh.fresh k t.0 p t.1 at);
    agrees = record {
      numbers = λ k row at. absurd (none-some row at);
      known = λ k row at. absurd (none-some row at);
      rows = λ k place row origin history at named began there. absurd (none-some row at);
      calls = λ place centre history named there.
          let p = slice_get-map_from (λ (q : PassState Entry Origin). q.seen) passes place history there in
          let none : [] ≡ history = sym (seen-none place p.0 p.1) ∙ p.2 in
          subst (λ h. All (HasRow [] centre) (calls_of agent h)) none (All-nil (HasRow [] centre));
    };
    waits = refl;
  }

  pub new-state : IsNewDesk s.names (desk_of (record { site = s; agent = agent; passes = passes; log = []; pending = None; held = None }))
  new-state = record {
    log_is = refl;
    names_are = refl;
    wide = length-map passes (λ (p : PassState Entry Origin). p.turns) ∙ fresh.are.wide ∙ sym site.whole;
    turns_are = λ k within.
        let p = slice_get_inside passes k (let w = fresh.are.wide in let n = site.whole in omega (arith, w, n, within)) in
        let t = slice_get-as_long passes s.centres k p.0 (sym fresh.are.wide) p.1 in
        get_or_from_slice_get (turns_of passes) k p.0.turns 0 (slice_get-map_at (λ (q : PassState Entry Origin). q.turns) passes k p.0 p.1)
        ∙ ap (λ (q : PassState Entry Origin). q.turns) (fresh.fresh k t.0 p.0 t.1 p.1);
    waits_not = refl;
    is_free = refl;
  }
