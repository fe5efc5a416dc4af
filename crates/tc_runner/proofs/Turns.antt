-- The turn of one agent in a sweep, as it is read and written.
use Rattle.std.proofs.Common.{◌≡◌, ℕ, ◌+◌, ◌<◌, Bool, true, false, List, Some, Vec, length, get_or, refl, sym, ap, ◌∙◌, subst, arith}
use Rattle.std.specs.Global.{Global}
use Rattle.std.proofs.Math.ListN.{set}
use Rattle.std.specs.List.{slice_get}
use Rattle.std.proofs.lemmas.List.{length-map, map-set}
use Rattle.std.proofs.lemmas.Option.{slice_get-get_or, slice_get_read}
use Rattle.tc_centre.specs.Centre.{Centre}
use Rattle.tc_config.specs.Configurations.{Configuration}
use Rattle.tc_config.specs.declared.configs.AgentConf.{AgentConf}
use Rattle.tc_desk.specs.declared.rows.LogRow.{LogRow}
use Rattle.tc_runner.specs.Clients.{AreClients, IsClient}
use Rattle.tc_desk.specs.Logs.{rows_of}
use Rattle.tc_runner.specs.Cores.{Goes}
use Rattle.tc_runner.specs.Steps.{GoesOn, Moves, Touches}
use Rattle.tc_runner.specs.declared.clients.Client.{Client}
use Rattle.tc_lists.proofs.Sets.{slice_get-map_at}
use Rattle.tc_runner.proofs.Sweeping.{AreClients-step, Goes-step, GoesOn-of, Sweeping, Sweeping-moved, Sweeping-still}

-- the agent that was read, and the rows of its log
pub agent-at : (c : Configuration) (agents : List AgentConf) (k : ℕ) (a : AgentConf) → agents ≡ c.agents → k < length agents → a ≡ get_or agents k a
    → slice_get c.agents k ≡ Some a
agent-at c agents k a are inside read =
    ap (λ xs. slice_get xs k) (sym are) ∙ slice_get_read agents (length agents) k a refl inside read

pub rows-at : (c : Configuration) (cores : List Centre) (logs : List (Vec LogRow Global)) (k : ℕ) (l : Vec LogRow Global) → Goes c cores (rows_of logs)
    → k < length c.agents → slice_get (rows_of logs) k ≡ Some (get_or logs k l).items
rows-at c cores logs k l goes inside =
    let whole = goes.going.follow.whole in
    slice_get-map_at (λ (v : Vec LogRow Global). v.items) logs k (get_or logs k l)
    (slice_get-get_or logs k l (omega (arith, inside, whole, length-map logs (λ (v : Vec LogRow Global). v.items))))

module _ (Whole : Type 0) (c : Configuration) (start : List (List LogRow)) (k : ℕ) (cores : List Centre) (logs : List (Vec LogRow Global)) (clients : List Client) (moved : Bool)
    (so : Sweeping Whole c start k cores (rows_of logs) clients moved) (agents : List AgentConf) (are : agents ≡ c.agents) (inside : k < length agents)
    (a : AgentConf) (read : a ≡ get_or agents k a) (l : Vec LogRow Global) (r : Client) where
  abbrev log : Vec LogRow Global
  log = get_or logs k l

  abbrev client : Client
  client = get_or clients k r

  stands : slice_get c.agents k ≡ Some a
  stands = agent-at c agents k a are inside read

  wide-clients : k < length clients
  wide-clients = let many = ap length are in omega (arith, inside, so.are.whole, many)

  at : slice_get (rows_of logs) k ≡ Some log.items
  at = rows-at c cores logs k l so.goes (let many = ap length are in omega (arith, inside, many))

  is : IsClient k a.scripts log.items client
  is = so.are.each k a log.items client stands at (slice_get-get_or clients k r wide-clients)

  pub turn-goes : GoesOn c (get_or clients k r).agent a cores (get_or logs k l).items
  turn-goes = subst (λ j. GoesOn c j a cores log.items) (sym is.agent_is) (GoesOn-of c cores (rows_of logs) k a log.items so.goes stands at)

  pub turn-client : IsClient (get_or clients k r).agent a.scripts (get_or logs k l).items (get_or clients k r)
  turn-client = record { agent_is = refl; taken = is.taken; waits = is.waits }

  -- after the step
  module _ (new : List Centre) (log' : Vec LogRow Global) (client' : Client) (touches : Touches (get_or clients k r).agent cores new)
      (goes : GoesOn c (get_or clients k r).agent a new log'.items) (fits : IsClient (get_or clients k r).agent a.scripts log'.items client') where
    rows-set : rows_of (set logs k log') ≡ set (rows_of logs) k log'.items
    rows-set = map-set (λ (v : Vec LogRow Global). v.items) logs k log'

    own-touches : Touches k cores new
    own-touches = subst (λ j. Touches j cores new) is.agent_is touches

    own-goes : GoesOn c k a new log'.items
    own-goes = subst (λ j. GoesOn c j a new log'.items) is.agent_is goes

    own-fits : IsClient k a.scripts log'.items client'
    own-fits = subst (λ j. IsClient j a.scripts log'.items client') is.agent_is fits

    pub turned-goes : Goes c new (rows_of (set logs k log'))
    turned-goes =
        subst (Goes c new) (sym rows-set) (Goes-step c cores (rows_of logs) k a log.items stands at new log'.items so.goes own-touches own-goes)

    pub turned-clients : AreClients c.agents (rows_of (set logs k log')) (set clients k client')
    turned-clients =
        subst (λ ls. AreClients c.agents ls (set clients k client')) (sym rows-set)
        (AreClients-step c cores (rows_of logs) k a log.items stands at new log'.items clients client' wide-clients so.are own-fits)

    pub turned-moved : Moves c (get_or clients k r).agent a cores new (get_or logs k l).items log'.items true
        → Sweeping Whole c start (k + 1) new (rows_of (set logs k log')) (set clients k client') true
    turned-moved moves =
        subst (λ ls. Sweeping Whole c start (k + 1) new ls (set clients k client') true) (sym rows-set)
        (Sweeping-moved c cores (rows_of logs) k a log.items stands at new log'.items Whole start clients client' moved wide-clients so own-touches own-goes own-fits moves)

    pub turned-still : Moves c (get_or clients k r).agent a cores new (get_or logs k l).items log'.items false
        → Sweeping Whole c start (k + 1) new (rows_of (set logs k log')) (set clients k client') moved
    turned-still moves =
        subst (λ ls. Sweeping Whole c start (k + 1) new ls (set clients k client') moved) (sym rows-set)
        (Sweeping-still c cores (rows_of logs) k a log.items stands at new log'.items Whole start clients client' moved wide-clients so own-touches own-goes own-fits
        (subst (λ j. Moves c j a cores new log.items log'.items false) is.agent_is moves))
