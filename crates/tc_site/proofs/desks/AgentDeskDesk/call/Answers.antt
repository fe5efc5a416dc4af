use Rattle.std.proofs.Common.{◌≡◌, List, Contains, refl, rules, sym, subst}
use Rattle.std.specs.Option.{is_some}
use Rattle.tc_desk.specs.Desks.{refused_log}
use Rattle.tc_desk.specs.declared.rows.LogRow.{LogRow}
use Rattle.tc_desk.specs.declared.rows.Refusal.TheVariants as refusal
use Rattle.tc_site.specs.Desks.{AgentState, IsDecidedLog}
use Rattle.tc_site.proofs.Told.{decides-refused, keeps-refused, keeps-same, refused-is}
use Rattle.tc_site.proofs.Turned.{desk-refused}
use Rattle.tc_site.proofs.desks.AgentDeskDesk.call.Goals as goal

pub returns-in_err-map_err-clause-kept : goal.returns-in_err-map_err-clause-kept
returns-in_err-map_err-clause-kept g c =
    keeps-same _ c.args.self.now c.reserve.new.self.items c.self.view_is c.reserve.ensures.items c.requires.free

pub returns-in_err-name-clause-kept : goal.returns-in_err-name-clause-kept
returns-in_err-name-clause-kept g c =
    keeps-same _ c.args.self.now c.reserve.new.self.items c.self.view_is c.reserve.ensures.items c.requires.free

pub invariant_of-self-2 : goal.invariant_of-self-2
invariant_of-self-2 g c =
    let unknown : Contains c.self.inside.site.now.names c.args.centre.now → ⊥ = search rules in
    let name-is : c.in_ok-name.name ≡ c.args.centre.now = search rules in
    desk-refused g.W.Warden.permits _ c.self.invariant c.args.centre.now c.args.ask c.args.ask (is_some c.self.inside.pending) refusal.UnknownCentre
    (refused-is refusal.UnknownCentre c.self.inside.log.items c.reserve.new.self.items c.push_refused.new.log.items c.args.centre.now c.in_ok-name.name
    c.args.ask c.args.ask c.reserve.ensures.items name-is refl c.push_refused.ensures)
    unknown

pub returns-clause-kept : goal.returns-clause-kept
returns-clause-kept g c =
    let unknown : Contains c.self.inside.site.now.names c.args.centre.now → ⊥ = search rules in
    let name-is : c.in_ok-name.name ≡ c.args.centre.now = search rules in
    let log : List LogRow = c.push_refused.new.log.items in
    let log-is : log ≡ refused_log c.self.inside.log.items c.args.centre.now c.args.ask refusal.UnknownCentre =
    refused-is refusal.UnknownCentre c.self.inside.log.items c.reserve.new.self.items log c.args.centre.now c.in_ok-name.name c.args.ask c.args.ask
    c.reserve.ensures.items name-is refl c.push_refused.ensures in
    keeps-refused g.W.Warden.permits _ c.self.invariant (is_some c.self.inside.pending) refl c.args.centre.now c.args.ask refusal.UnknownCentre unknown
    log log-is c.args.self.now c.self.view_is c.requires.free

pub returns-clause-sound : goal.returns-clause-sound
returns-clause-sound g c = λ sound.
    let unknown : Contains c.self.inside.site.now.names c.args.centre.now → ⊥ = search rules in
    let name-is : c.in_ok-name.name ≡ c.args.centre.now = search rules in
    let log : List LogRow = c.push_refused.new.log.items in
    let log-is : log ≡ refused_log c.self.inside.log.items c.args.centre.now c.args.ask refusal.UnknownCentre =
    refused-is refusal.UnknownCentre c.self.inside.log.items c.reserve.new.self.items log c.args.centre.now c.in_ok-name.name c.args.ask c.args.ask
    c.reserve.ensures.items name-is refl c.push_refused.ensures in
    decides-refused g.W.Warden.permits _ c.self.invariant (is_some c.self.inside.pending) refl c.args.centre.now c.args.ask refusal.UnknownCentre unknown
    log log-is c.args.self.now c.self.view_is
    (subst (λ (x : AgentState g.row.W.Denot). IsDecidedLog g.W.Warden.permits x.site x.agent x.log) (sym c.self.view_is) sound)
