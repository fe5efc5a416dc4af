-- One step of an agent: its next ask, or a look at the last.
use Rattle.std.proofs.Common.{◌≡◌, ℕ, ◌+◌, ◌<◌, true, false, List, [], ◌∷◌, ◌++◌, Some, Contains, get_or, inl, inr, length, refl, sym, ap, ◌∙◌, subst, arith}
use Rattle.std.proofs.Math.ListN.{set}
use Rattle.std.specs.List.{slice_get}
use Rattle.std.proofs.lemmas.List.{length-map, set-get_or}
use Rattle.std.proofs.lemmas.Option.{same_Some, get_or_from_slice_get, slice_get-get_or, slice_get_within}
use Rattle.tc_asks.specs.Nexts.{IsNextAsk}
use Rattle.tc_asks.specs.declared.next.Next.{Next}
use Rattle.tc_centre.specs.Centre.{Centre}
use Rattle.tc_config.specs.Configurations.{Configuration, IsConfig, centre_names}
use Rattle.tc_model.specs.Calls.{call_of}
use Rattle.tc_config.specs.Good.{IsRow, origin_of}
use Rattle.tc_config.specs.declared.configs.AgentConf.{AgentConf}
use Rattle.tc_config.specs.declared.configs.CentreConf.{CentreConf}
use Rattle.tc_desk.specs.Asks.{IsAsk}
use Rattle.tc_desk.specs.Logs.{any_pending, is_served}
use Rattle.tc_desk.specs.Served.{IsResult}
use Rattle.tc_desk.specs.declared.rows.LogRow.{LogRow}
use Rattle.tc_model.specs.Asks.{primitive_of}
use Rattle.tc_model.specs.Run.{IsNext}
use Rattle.tc_model.specs.State.{Origin}
use Rattle.tc_model.specs.declared.entries.Entry.{Entry}
use Rattle.tc_policy.specs.Places.{grant}
use Rattle.tc_policy.specs.declared.grants.Grant.{Grant}
use Rattle.tc_runner.specs.Cores.{histories}
use Rattle.tc_runner.specs.Results.{Changes, HasServed}
use Rattle.tc_runner.specs.Steps.{GoesOn, Touches}
use Rattle.tc_runner.proofs.Cores.{AreCores-set, AreHistories-set, Follows-served, core-at, cores-whole, history-at}
use Rattle.tc_runner.proofs.Follow.{Follows-numbers, Follows-refused}
use Rattle.tc_runner.proofs.Items.{item-placed}
use Rattle.tc_desk.proofs.Logs.{results-whole}
use Rattle.tc_lists.proofs.Sets.{slice_get-map_at, slice_get-set_same, slice_get_inside}

module _ (c : Configuration) (agent : ℕ) (a : AgentConf) (cores : List Centre) (log : List LogRow) (goes : GoesOn c agent a cores log) where
  pub some-agent : 0 < length c.agents
  some-agent = let within = slice_get_within c.agents agent a goes.stands in omega (arith, within)

  -- the agent's next number at a core
  pub is-next : (place : ℕ) (s : CentreConf) (x : Centre) → slice_get cores place ≡ Some x → x.origin ≡ origin_of c s
      → IsNext x.origin x.history (call_of agent (length log + 1))
  is-next place s x at from =
      let named = slice_get_within c.agents agent a goes.stands in
      record {
        agent = subst (λ (o : Origin). agent < length o.agents) (sym from)
            (omega (arith, named, length-map c.agents (λ (b : AgentConf). b.name)));
        number = Follows-numbers c agent a (histories c cores) log place x.history goes.follows
            (history-at c some-agent cores goes.are place x at);
      }

  -- the next ask goes to a centre that is there
  module _ (next : Next) (config : IsConfig c) (asks : IsNextAsk a.scripts log next) where
    pub next-placed : next.centre < length c.centres
    next-placed =
        subst (λ p. p < length c.centres) (sym asks.centre)
        (item-placed c agent a (length log) asks.step config goes.stands asks.asks.stands)

    pub next-core : next.centre < length cores
    next-core = let placed = next-placed in omega (arith, placed, cores-whole c some-agent cores goes.are)

    -- the core that was read is that of the centre
    pub core-of : (s : CentreConf) (x : Centre) → slice_get c.centres next.centre ≡ Some s → slice_get cores next.centre ≡ Some x
        → x.origin ≡ origin_of c s
    core-of s x known at =
        let core = core-at c some-agent cores goes.are next.centre s known in
        ap (λ (y : Centre). y.origin) (same_Some x core.0 (sym at ∙ core.1)) ∙ core.2

    -- the row of the ask, as the ask came to something at the core
    module _ (s : CentreConf) (known : slice_get c.centres next.centre ≡ Some s) (before after : Centre)
        (stands : slice_get cores next.centre ≡ Some before) (row : LogRow) (number : row.number ≡ length log + 1) (named : row.centre ≡ s.name)
        (is-asked : row.ask ≡ Some next.ask)
        (became : IsResult (Contains c.roles (grant a.role next.centre (primitive_of next.ask))) before.origin after.history (call_of agent (length log + 1)) next.ask row.result)
        (settled : any_pending log ≡ false) where
      abbrev pushed : List LogRow
      pushed = log ++ row ∷ []

      -- the row is the agent's next, over histories of which this is the centre's
      new-row : (hs : List (List Entry)) → slice_get hs next.centre ≡ Some after.history
          → (is : IsRow c hs agent a pushed (length log) row) × (is.step.item.centre ≡ next.centre)
      new-row hs there = (
        record {
          number = number;
          step = asks.step;
          asked = next.ask;
          asks = subst (λ rs. IsAsk a.scripts (length log) rs asks.step next.ask) (sym (results-whole log (row ∷ []))) asks.asks;
          ask = is-asked;
          centre = s;
          known = ap (slice_get c.centres) (sym asks.centre) ∙ known;
          named = named;
          history = after.history;
          there = ap (slice_get hs) (sym asks.centre) ∙ there;
          result = subst (λ (p : ℕ). IsResult (Contains c.roles (grant a.role p (primitive_of next.ask))) (origin_of c s) after.history (call_of agent (length log + 1)) next.ask row.result)
              asks.centre
              (subst (λ (o : Origin). IsResult (Contains c.roles (grant a.role next.centre (primitive_of next.ask))) o after.history (call_of agent (length log + 1)) next.ask row.result)
              (core-of s before known stands) became);
        },
        sym asks.centre,
      )

      goes-served : HasServed (call_of agent (length log + 1)) before after → is_served row.result ≡ true
          → GoesOn c agent a (set cores next.centre after) pushed × Touches agent cores (set cores next.centre after)
      goes-served served is-row =
          let are = AreCores-set c some-agent cores goes.are agent (length log + 1) next.centre before after stands served in
          let wide : next.centre < length cores = slice_get_within cores next.centre before stands in
          let there : slice_get (histories c (set cores next.centre after)) next.centre ≡ Some after.history =
          history-at c some-agent (set cores next.centre after) are next.centre after (slice_get-set_same cores next.centre after before stands) in
          let new = new-row (histories c (set cores next.centre after)) there in (
            record {
              stands = goes.stands;
              are = are;
              runs = AreHistories-set c some-agent cores goes.are agent (length log + 1) next.centre before after stands served goes.runs;
              follows = Follows-served c some-agent cores goes.are agent (length log + 1) next.centre before after stands served a log row
                  goes.follows settled refl is-row new.0 new.1;
            },
            inr (record {
              number = length log + 1;
              place = next.centre;
              before = before;
              after = after;
              stands = stands;
              served = served;
              changed = refl;
            }),
          )

      goes-refused : after ≡ before
          → GoesOn c agent a (set cores next.centre after) pushed × Touches agent cores (set cores next.centre after)
      goes-refused same =
          let kept : set cores next.centre after ≡ cores =
          ap (set cores next.centre) (same ∙ sym (get_or_from_slice_get cores next.centre before before stands))
          ∙ set-get_or cores next.centre before in
          let there : slice_get (histories c cores) next.centre ≡ Some after.history =
          history-at c some-agent cores goes.are next.centre before stands ∙ ap (λ (x : Centre). Some x.history) (sym same) in
          let new = new-row (histories c cores) there in
          let on : GoesOn c agent a cores pushed = record {
            stands = goes.stands;
            are = goes.are;
            runs = goes.runs;
            follows = Follows-refused c agent a (histories c cores) log row goes.follows settled new.0;
          } in
          (subst (λ xs. GoesOn c agent a xs pushed) (sym kept) on, inl kept)

      -- the run may go on with the row
      pub goes-asked : Changes (call_of agent (length log + 1)) before after (is_served row.result)
          → GoesOn c agent a (set cores next.centre after) pushed × Touches agent cores (set cores next.centre after)
      goes-asked change =
          elim (is_served row.result) as
          (λ b. is_served row.result ≡ b → Changes (call_of agent (length log + 1)) before after b
          → GoesOn c agent a (set cores next.centre after) pushed × Touches agent cores (set cores next.centre after))
          [ true ↦ λ is-row served. goes-served served is-row | false ↦ λ none same. goes-refused same ] refl change

    -- the centre that the ask goes to
    pub the-conf : (s : CentreConf) × (slice_get c.centres next.centre ≡ Some s)
    the-conf = slice_get_inside c.centres next.centre next-placed

    pub next-named : (names : List (List ℕ)) (name : List ℕ) → names ≡ centre_names c → get_or names next.centre name ≡ the-conf.0.name
    next-named names name are =
        get_or_from_slice_get names next.centre the-conf.0.name name
        (ap (λ ns. slice_get ns next.centre) are ∙ slice_get-map_at (λ (s : CentreConf). s.name) c.centres next.centre the-conf.0 the-conf.1)

    -- the core that is read there
    module _ (r : Centre) where
      abbrev read : Centre
      read = get_or cores next.centre r

      reads : slice_get cores next.centre ≡ Some (get_or cores next.centre r)
      reads = slice_get-get_or cores next.centre r next-core

      pub next-number : (n : ℕ) → n ≡ length log + 1 → IsNext (get_or cores next.centre r).origin (get_or cores next.centre r).history (call_of agent n)
      next-number n count =
          subst (λ m. IsNext read.origin read.history (call_of agent m)) (sym count)
          (is-next next.centre the-conf.0 read reads (core-of the-conf.0 read the-conf.1 reads))

      -- the run may go on with a row of what the ask came to there
      pub asked : (after : Centre) (n : ℕ) (grants : List Grant) (row : LogRow) → any_pending log ≡ false → n ≡ length log + 1 → grants ≡ c.roles
          → row.number ≡ n → row.centre ≡ the-conf.0.name → row.ask ≡ Some next.ask
          → IsResult (Contains grants (grant a.role next.centre (primitive_of next.ask))) (get_or cores next.centre r).origin after.history (call_of agent n) next.ask row.result
          → Changes (call_of agent n) (get_or cores next.centre r) after (is_served row.result)
          → GoesOn c agent a (set cores next.centre after) (log ++ row ∷ []) × Touches agent cores (set cores next.centre after)
      asked after n grants row settled count granted number named is-asked became change =
          let may : List Grant → Type 0 = λ gs. Contains gs (grant a.role next.centre (primitive_of next.ask)) in
          goes-asked the-conf.0 the-conf.1 read after reads row (number ∙ count) named is-asked
          (subst (λ m. IsResult (may c.roles) read.origin after.history (call_of agent m) next.ask row.result) count
          (subst (λ gs. IsResult (may gs) read.origin after.history (call_of agent n) next.ask row.result) granted became))
          settled (subst (λ m. Changes (call_of agent m) read after (is_served row.result)) count change)
