use Rattle.std.proofs.Common.{◌≡◌, ◌+◌, ◌<◌, List, Some, Ok, Err, IfOk, length, refl, rules, set, sym, ap, ◌∙◌, subst, arith}
use Rattle.std.specs.Option.{is_none}
use Rattle.std.proofs.lemmas.Option.{slice_get_within}
use Rattle.tc_desk.specs.Decided.{IsRead}
use Rattle.tc_desk.specs.Desks.{Calls, refused_log, with_row}
use Rattle.tc_desk.specs.declared.rows.LogRow.{LogRow}
use Rattle.tc_desk.specs.declared.rows.Refusal.TheVariants as refusal
use Rattle.tc_shared.specs.Passes.{SeesRoom}
use Rattle.tc_site.specs.Desks.{AgentState, IsDecidedLog, desk_of}
use Rattle.tc_site.specs.There.{IsCallThere}
use Rattle.tc_site.specs.Turns.{IsTurn, waiting_of}
use Rattle.tc_site.proofs.Told.{at-pass, decides, decides-refused, goes-after, goes-turn, keeps-gone, keeps-refused, keeps-same, lost-before, lost-told, lost-turn}
use Rattle.tc_site.proofs.Told.{pushed, refused-is, read-row, read-turn, refuses, spends-gone, spends-refused, tells}
use Rattle.tc_site.proofs.There.{allowed-may, at-name, call-there, none-there, refused-there, room-there}
use Rattle.tc_site.proofs.Turned.{desk-refused, desk-seen, desk-turned, idle-log, pass-free, pass-next}
use Rattle.tc_site.proofs.desks.AgentDeskDesk.call_at.Goals as goal

pub name-centre-requires : goal.name-centre-requires
name-centre-requires g c =
    subst (λ (x : AgentState g.row.W.Denot). c.args.place < length x.site.names) (sym c.self.view_is) c.requires.inside

pub index_mut-pass-requires : goal.index_mut-pass-requires
index_mut-pass-requires g c =
    let inside = slice_get_within c.self.inside.site.now.names c.args.place c.name-centre.result.now c.name-centre.ensures in
    let whole = c.self.invariant.site.whole in
    let wide = c.self.invariant.are.wide in
    omega (arith, inside, whole, wide)

pub centre-requires : goal.centre-requires
centre-requires g c =
    let inside = slice_get_within c.self.inside.site.now.names c.args.place c.name-centre.result.now c.name-centre.ensures in
    let whole = c.self.invariant.site.whole in
    omega (arith, inside, whole)

pub turn_at-turn-requires : goal.turn_at-turn-requires
turn_at-turn-requires g c =
    let free = ap (λ (x : AgentState g.row.W.Denot). is_none x.held) c.self.view_is ∙ c.requires.free in
    let named = c.name-centre.ensures in
    let at-p = at-pass c.self.invariant c.args.place named c.index_mut-pass.ensures.value in
    let row-is : c.len-row.result ≡ length c.self.inside.log.items =
    c.len-row.ensures ∙ c.reserve.new.self.ok.0 ∙ ap length c.reserve.ensures.items in
    record {
      own = (c.self.invariant.are.each _ _ _ c.centre.ensures at-p).own;
      free = pass-free _ c.self.invariant free _ _ named _ _ c.centre.ensures at-p;
      next = pass-next _ c.self.invariant free _ _ named _ _ c.centre.ensures at-p (c.len-row.result + 1) (ap (λ n. n + 1) row-is);
    }

pub invariant_of-self-2 : goal.invariant_of-self-2
invariant_of-self-2 g c =
    let free = ap (λ (x : AgentState g.row.W.Denot). is_none x.held) c.self.view_is ∙ c.requires.free in
    let allowed = c.in-Ok.ensures.allowed _ c.name-centre.ensures in
    let at-p = at-pass c.self.invariant c.args.place allowed.0.named c.index_mut-pass.ensures.value in
    let log = c.self.inside.log.items in
    let row-is : c.len-row.result ≡ length log = c.len-row.ensures ∙ c.reserve.new.self.ok.0 ∙ ap length c.reserve.ensures.items in
    let next = ap (λ n. n + 1) row-is in
    let became = c.in_ok-became.became in
    let name-is : c.in_ok-name.name ≡ c.name-centre.result.now = search rules in
    let ask-is : c.in_ok-asked.asked ≡ c.args.ask = search rules in
    let came : c.turn_at-turn.result ≡ Ok became = search rules in
    let turn =
    subst (λ r. IfOk r (λ b. IsTurn c.centre.result.now c.index_mut-pass.result.now (c.len-row.result + 1) c.in-Ok.op b c.turn_at-turn.new.pass)) came
    c.turn_at-turn.ensures.turn in
    desk-turned _ c.self.invariant free _ _ allowed.0.named _ _ c.centre.ensures at-p _ c.turn_at-turn.ensures.kept c.args.ask _ allowed.1 became
    (pushed became log c.reserve.new.self.items c.push_row.new.log.items c.name-centre.result.now c.in_ok-name.name c.args.ask c.in_ok-asked.asked
    c.reserve.ensures.items name-is ask-is c.push_row.ensures)
    (c.waiting-self-inside.ensures ∙ ap (λ n. waiting_of became n c.args.place) row-is)
    (idle-log c.self.inside.site.now.names log c.self.inside.pending c.self.invariant.waits (sym c.is_some-waits.ensures ∙ allowed.0.idle))
    (c.turn_at-turn.ensures.grown (length log) next)
    (subst (λ n. IsTurn c.centre.result.now c.index_mut-pass.result.now n c.in-Ok.op became c.turn_at-turn.new.pass) next turn)

pub invariant_of-self-in_err-became : goal.invariant_of-self-in_err-became
invariant_of-self-in_err-became g c =
    let free = ap (λ (x : AgentState g.row.W.Denot). is_none x.held) c.self.view_is ∙ c.requires.free in
    let named = c.name-centre.ensures in
    let at-p = at-pass c.self.invariant c.args.place named c.index_mut-pass.ensures.value in
    let room : SeesRoom c.centre.result.now c.index_mut-pass.result.now c.turn_at-turn.new.pass = search rules in
    desk-seen _ c.self.invariant free _ _ named _ _ c.centre.ensures at-p _ c.turn_at-turn.ensures.kept c.reserve.ensures.items room

pub invariant_of-self-in-Err : goal.invariant_of-self-in-Err
invariant_of-self-in-Err g c =
    let why = c.in-Err.why in
    let log = c.self.inside.log.items in
    let name-is : c.in_ok-name.name ≡ c.name-centre.result.now = search rules in
    let ask-is : c.in_ok-asked.asked ≡ c.args.ask = search rules in
    desk-refused g.W.Warden.permits _ c.self.invariant c.name-centre.result.now c.args.ask c.args.ask c.is_some-waits.result why
    (refused-is why log c.reserve.new.self.items c.push_refused.new.log.items c.name-centre.result.now c.in_ok-name.name c.args.ask c.in_ok-asked.asked
    c.reserve.ensures.items name-is ask-is c.push_refused.ensures)
    (c.in-Err.ensures.refused _ c.name-centre.ensures)

pub returns-in_err-map_err-clause-kept : goal.returns-in_err-map_err-clause-kept
returns-in_err-map_err-clause-kept g c =
    keeps-same _ c.args.self.now c.reserve.new.self.items c.self.view_is c.reserve.ensures.items c.requires.free

pub returns-in_err-map_err-clause-there : goal.returns-in_err-map_err-clause-there
returns-in_err-map_err-clause-there g c =
    λ centre at.
    let lost : c.from_residual.result ≡ Err refusal.NoMemory = search rules in
    none-there g.W.Warden.permits _ centre c.args.ask c.reserve.new.self.items c.args.self.now c.self.view_is c.from_residual.result lost

pub returns-in_err-map_err-clause-became : goal.returns-in_err-map_err-clause-became
returns-in_err-map_err-clause-became g c =
    λ centre at.
    let lost : c.from_residual.result ≡ Err refusal.NoMemory = search rules in
    lost-told _ _ centre c.args.ask c.from_residual.result lost
    (lost-before _ c.args.self.now c.reserve.new.self.items centre c.args.ask c.self.view_is c.reserve.ensures.items)

pub returns-in_err-name-clause-kept : goal.returns-in_err-name-clause-kept
returns-in_err-name-clause-kept g c =
    keeps-same _ c.args.self.now c.reserve.new.self.items c.self.view_is c.reserve.ensures.items c.requires.free

pub returns-in_err-name-clause-there : goal.returns-in_err-name-clause-there
returns-in_err-name-clause-there g c =
    λ centre at.
    let lost : c.from_residual-in_err-name.result ≡ Err refusal.NoMemory = search rules in
    none-there g.W.Warden.permits _ centre c.args.ask c.reserve.new.self.items c.args.self.now c.self.view_is c.from_residual-in_err-name.result lost

pub returns-in_err-name-clause-became : goal.returns-in_err-name-clause-became
returns-in_err-name-clause-became g c =
    λ centre at.
    let lost : c.from_residual-in_err-name.result ≡ Err refusal.NoMemory = search rules in
    lost-told _ _ centre c.args.ask c.from_residual-in_err-name.result lost
    (lost-before _ c.args.self.now c.reserve.new.self.items centre c.args.ask c.self.view_is c.reserve.ensures.items)

pub returns-in_err-asked-clause-kept : goal.returns-in_err-asked-clause-kept
returns-in_err-asked-clause-kept g c =
    keeps-same _ c.args.self.now c.reserve.new.self.items c.self.view_is c.reserve.ensures.items c.requires.free

pub returns-in_err-asked-clause-there : goal.returns-in_err-asked-clause-there
returns-in_err-asked-clause-there g c =
    λ centre at.
    let lost : c.from_residual-in_err-asked.result ≡ Err refusal.NoMemory = search rules in
    none-there g.W.Warden.permits _ centre c.args.ask c.reserve.new.self.items c.args.self.now c.self.view_is c.from_residual-in_err-asked.result lost

pub returns-in_err-asked-clause-became : goal.returns-in_err-asked-clause-became
returns-in_err-asked-clause-became g c =
    λ centre at.
    let lost : c.from_residual-in_err-asked.result ≡ Err refusal.NoMemory = search rules in
    lost-told _ _ centre c.args.ask c.from_residual-in_err-asked.result lost
    (lost-before _ c.args.self.now c.reserve.new.self.items centre c.args.ask c.self.view_is c.reserve.ensures.items)

pub returns : goal.returns
returns g c =
    let place = c.args.place in
    let op = c.in-Ok.op in
    let allowed = c.in-Ok.ensures.allowed _ c.name-centre.ensures in
    let t = c.centre.result.now in
    let p = c.index_mut-pass.result.now in
    let q = c.turn_at-turn.new.pass in
    let at-p = at-pass c.self.invariant place allowed.0.named c.index_mut-pass.ensures.value in
    let became = c.in_ok-became.became in
    let row = c.len-row.result in
    let log = c.self.inside.log.items in
    let pushed-log = c.push_row.new.log.items in
    let came : c.turn_at-turn.result ≡ Ok became = search rules in
    let turn = subst (λ r. IfOk r (λ b. IsTurn t p (row + 1) op b q)) came c.turn_at-turn.ensures.turn in
    let row-is : row ≡ length log = c.len-row.ensures ∙ c.reserve.new.self.ok.0 ∙ ap length c.reserve.ensures.items in
    let name-is : c.in_ok-name.name ≡ c.name-centre.result.now = search rules in
    let ask-is : c.in_ok-asked.asked ≡ c.args.ask = search rules in
    let log-is : pushed-log ≡ with_row log c.name-centre.result.now (Some c.args.ask) became =
    pushed became log c.reserve.new.self.items pushed-log c.name-centre.result.now c.in_ok-name.name c.args.ask c.in_ok-asked.asked
    c.reserve.ensures.items name-is ask-is c.push_row.ensures in
    let d : AgentState g.row.W.Denot = record {
      site = c.self.inside.site.now;
      agent = c.self.inside.agent;
      passes = c.self.inside.passes.items;
      log = c.self.inside.log.items;
      pending = c.self.inside.pending;
      held = c.self.inside.held;
    } in
    let e : AgentState g.row.W.Denot = record d { passes = set d.passes place q; log = pushed-log; pending = c.waiting-self-inside.result } in
    record {
      bond = ap (λ (x : AgentState g.row.W.Denot). (x.site, x.agent)) c.self.view_is;
      kept = keeps-gone _ place p q at-p pushed-log c.waiting-self-inside.result c.args.self.now c.self.view_is c.requires.free row
          (c.turn_at-turn.ensures.grown row refl)
          (λ (before : IsRead log). subst IsRead (sym log-is)
          (read-row log c.name-centre.result.now c.args.ask became (read-turn t p q (row + 1) c.args.ask op became allowed.1 turn) before));
      turns = spends-gone _ place p q at-p pushed-log c.waiting-self-inside.result c.args.self.now c.self.view_is
          (goes-turn t p q (row + 1) op became turn);
      sound = λ sound.
          decides g.W.Warden.permits _ c.self.invariant c.is_some-waits.result c.is_some-waits.ensures c.name-centre.result.now c.args.ask place
          allowed.0 op allowed.1 t p q c.centre.ensures at-p c.turn_at-turn.ensures.kept became row pushed-log row-is log-is turn
          (subst (λ (x : AgentState g.row.W.Denot). IsDecidedLog g.W.Warden.permits x.site x.agent x.log) (sym c.self.view_is) sound);
      became = at-name c.args.place (λ n. Calls (desk_of c.args.self.now) n c.args.ask c.told-told.result (desk_of e)) c.self.view_is c.name-centre.ensures (tells g.W.Warden.permits _ c.self.invariant c.is_some-waits.result c.is_some-waits.ensures c.name-centre.result.now c.args.ask place
          allowed.0 op allowed.1 t p q c.centre.ensures at-p c.turn_at-turn.ensures.kept became row pushed-log c.waiting-self-inside.result
          c.told-told.result c.args.self.now row-is log-is c.waiting-self-inside.ensures c.told-told.ensures c.self.view_is turn);
      there = at-name c.args.place (λ n. IsCallThere g.W.Warden.permits c.args.self.now n c.args.ask c.told-told.result e) c.self.view_is c.name-centre.ensures
          (call-there _ c.name-centre.result.now place allowed.0.named t p q c.centre.ensures at-p pushed-log c.waiting-self-inside.result
          g.W.Warden.permits c.args.ask op allowed.1 (allowed-may g.W.Warden.permits _ c.is_some-waits.result _ _ place allowed.0) became row
          c.told-told.result c.args.self.now row-is log-is c.told-told.ensures c.self.view_is turn);
    }

pub returns-in_err-became : goal.returns-in_err-became
returns-in_err-became g c =
    let place = c.args.place in
    let allowed = c.in-Ok.ensures.allowed _ c.name-centre.ensures in
    let t = c.centre.result.now in
    let p = c.index_mut-pass.result.now in
    let q = c.turn_at-turn.new.pass in
    let row = c.len-row.result in
    let told = c.from_residual-in_err-became.result in
    let log = c.reserve.new.self.items in
    let pending = c.self.inside.pending in
    let log-is : log ≡ c.self.inside.log.items = c.reserve.ensures.items in
    let lost : told ≡ Err refusal.NoMemory = search rules in
    let room : SeesRoom t p q = search rules in
    let at-p = at-pass c.self.invariant place allowed.0.named c.index_mut-pass.ensures.value in
    let d : AgentState g.row.W.Denot = record {
      site = c.self.inside.site.now;
      agent = c.self.inside.agent;
      passes = c.self.inside.passes.items;
      log = c.self.inside.log.items;
      pending = c.self.inside.pending;
      held = c.self.inside.held;
    } in
    let e : AgentState g.row.W.Denot = record d { passes = set d.passes place q; log = log } in
    record {
      bond = ap (λ (x : AgentState g.row.W.Denot). (x.site, x.agent)) c.self.view_is;
      kept = keeps-gone _ place p q at-p log pending c.args.self.now c.self.view_is c.requires.free row
          (c.turn_at-turn.ensures.grown row refl) (subst IsRead (sym {A = List LogRow} log-is));
      turns = spends-gone _ place p q at-p log pending c.args.self.now c.self.view_is (goes-after t p q q.seen p.mine room.sees.after);
      sound = λ sound.
          subst (λ l. IsDecidedLog g.W.Warden.permits c.self.inside.site.now c.self.inside.agent l) (sym log-is)
          (subst (λ (x : AgentState g.row.W.Denot). IsDecidedLog g.W.Warden.permits x.site x.agent x.log) (sym c.self.view_is) sound);
      became = at-name c.args.place (λ n. Calls (desk_of c.args.self.now) n c.args.ask told (desk_of e)) c.self.view_is c.name-centre.ensures (lost-told _ _ c.name-centre.result.now c.args.ask told lost
          (lost-turn g.W.Warden.permits _ c.self.invariant c.is_some-waits.result c.is_some-waits.ensures c.name-centre.result.now c.args.ask place
          allowed.0 c.in-Ok.op allowed.1 t p q c.centre.ensures at-p c.turn_at-turn.ensures.kept log c.args.self.now log-is
          c.self.view_is room.sees));
      there = at-name c.args.place (λ n. IsCallThere g.W.Warden.permits c.args.self.now n c.args.ask told e) c.self.view_is c.name-centre.ensures
          (room-there _ c.name-centre.result.now place allowed.0.named t p q c.centre.ensures at-p log pending g.W.Warden.permits c.args.ask told
          c.args.self.now lost c.self.view_is (allowed-may g.W.Warden.permits _ c.is_some-waits.result _ _ place allowed.0) room);
    }

pub returns-in-Err : goal.returns-in-Err
returns-in-Err g c =
    let permits = g.W.Warden.permits in
    let why = c.in-Err.why in
    let refused = (c.in-Err.ensures.refused _ c.name-centre.ensures) in
    let log = c.push_refused.new.log.items in
    let waits = c.is_some-waits.result in
    let name-is : c.in_ok-name.name ≡ c.name-centre.result.now = search rules in
    let ask-is : c.in_ok-asked.asked ≡ c.args.ask = search rules in
    let log-is : log ≡ refused_log c.self.inside.log.items c.name-centre.result.now c.args.ask why =
    refused-is why c.self.inside.log.items c.reserve.new.self.items log c.name-centre.result.now c.in_ok-name.name c.args.ask c.in_ok-asked.asked
    c.reserve.ensures.items name-is ask-is c.push_refused.ensures in
    let d : AgentState g.row.W.Denot = record {
      site = c.self.inside.site.now;
      agent = c.self.inside.agent;
      passes = c.self.inside.passes.items;
      log = c.self.inside.log.items;
      pending = c.self.inside.pending;
      held = c.self.inside.held;
    } in
    let e : AgentState g.row.W.Denot = record d { log = log } in
    record {
      bond = ap (λ (x : AgentState g.row.W.Denot). (x.site, x.agent)) c.self.view_is;
      kept = keeps-refused permits _ c.self.invariant waits c.is_some-waits.ensures c.name-centre.result.now c.args.ask why refused log log-is
          c.args.self.now c.self.view_is c.requires.free;
      turns = spends-refused permits _ c.self.invariant waits c.is_some-waits.ensures c.name-centre.result.now c.args.ask why refused log log-is
          c.args.self.now c.self.view_is;
      sound = λ sound.
          decides-refused permits _ c.self.invariant waits c.is_some-waits.ensures c.name-centre.result.now c.args.ask why refused log log-is
          c.args.self.now c.self.view_is
          (subst (λ (x : AgentState g.row.W.Denot). IsDecidedLog permits x.site x.agent x.log) (sym c.self.view_is) sound);
      became = at-name c.args.place (λ n. Calls (desk_of c.args.self.now) n c.args.ask (Err why) (desk_of e)) c.self.view_is c.name-centre.ensures
          (refuses permits _ c.self.invariant waits c.is_some-waits.ensures c.name-centre.result.now c.args.ask why refused log log-is
          c.args.self.now c.self.view_is);
      there = at-name c.args.place (λ n. IsCallThere g.W.Warden.permits c.args.self.now n c.args.ask (Err why) e) c.self.view_is c.name-centre.ensures
          (refused-there permits _ c.name-centre.result.now c.args.ask log c.args.self.now c.self.view_is c.self.invariant waits why refused);
    }
