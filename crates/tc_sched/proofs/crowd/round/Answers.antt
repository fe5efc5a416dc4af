use denote.Param
use denote.Param.Send.{param_send}
use mir.Syntax.{named}
use Rattle.tc_sched.proofs.crowd.round.Lts as lts
use Rattle.tc_sched.proofs.Sending.{actor_send}
use Rattle.std.proofs.Common.{◌*◌, ◌+◌, length, sym, arith, subst, List, take, drop, All}
use Rattle.std.proofs.Math.Nat.{le-mul_of_pos_right}
use Rattle.tc_sched.specs.Clients.{Client}
use Rattle.tc_sched.specs.Steps.{left_in, IsReady, Settles}
use Rattle.std.proofs.lemmas.List.Elements.{All-take, All-drop}
use Rattle.tc_sched.proofs.Crowds.{all-less, settles-append}
use Rattle.tc_lists.proofs.Chunks.{by-chunks}
use Rattle.tc_sched.proofs.Chunks.{left-part}
use Rattle.tc_sched.proofs.crowd.round.Given.{Over}
use Rattle.tc_sched.proofs.crowd.round.Goals as goal
use Rattle.tc_sched.proofs.crowd.round.Goals.{After-for_each_chunk_mut}

pub for_each_chunk_mut-requires-clause-accepts : goal.for_each_chunk_mut-requires-clause-accepts
for_each_chunk_mut-requires-clause-accepts g c = λ l h start p chunk.
    let cs = c.args.actors.now in let size = c.args.size in let part = take size (drop start cs) in
    let T = left_in g.D.Desk.state cs in
    let le = left-part g.D.Desk.state size start cs in
    subst (λ (xs : List (Client g.row.D.Denot)). All (IsReady g.D.Desk.state (left_in g.D.Desk.state xs + 1) c.args.names.now) xs) (sym chunk.value)
    (all-less g.D.Desk.state g.D.Desk.bond g.D.Desk.sound (T + 1) (left_in g.D.Desk.state part + 1) c.args.names.now part (omega (arith, le))
    (All-take (IsReady g.D.Desk.state (T + 1) c.args.names.now) size (drop start cs)
    (All-drop (IsReady g.D.Desk.state (T + 1) c.args.names.now) start cs c.requires.ready)))

-- the parts have settled, so all have
settled : (g : Over) (c : After-for_each_chunk_mut g)
    → Settles g.D.Desk.state g.D.Desk.bond g.D.Desk.sound c.args.actors.now c.for_each_chunk_mut.new.s
settled g c =
    let Q : List (Client g.row.D.Denot) → List (Client g.row.D.Denot) → Type 0 = Settles g.D.Desk.state g.D.Desk.bond g.D.Desk.sound in
    let cs = c.args.actors.now in let es = c.for_each_chunk_mut.new.s in
    by-chunks Q (record { left = omega arith; went = tt }) (λ xs ys xs' ys' a b. settles-append g.D.Desk.state g.D.Desk.bond g.D.Desk.sound xs ys xs' ys' a b) c.args.size (length cs) cs es c.for_each_chunk_mut.auto.s
    (le-mul_of_pos_right (length cs) c.requires.size)
    (λ n below. let k = c.for_each_chunk_mut.ensures.chunks n below in
    subst (λ (xs : List (Client g.row.D.Denot)). Q xs (take c.args.size (drop (n * c.args.size) es))) k.argument_is (subst (Q k.argument.now) {y = take c.args.size (drop (n * c.args.size) es)} k.left k.call))

pub returns-then-load : goal.returns-then-load
returns-then-load g c = settled g (goal.at.returns-then-load g c).After-for_each_chunk_mut

pub returns : goal.returns
returns g c = settled g (goal.at.returns g c).After-for_each_chunk_mut

pub for_each_chunk_mut-requires-send-T : goal.for_each_chunk_mut-requires-send-T
for_each_chunk_mut-requires-send-T g c κs within =
    let actor = actor_send (record { mir = named 0; lft = κs.1.1.1.1.1.1.0 }) (denote.Param.param 1 g.row.D) (denote.Param.param 3 g.row.D-Bond) g.D.Desk c.type_bounds.send-D in
    param_send 1
    (lts.arg-1-1 g.row.R g.row.D g.row.G g.row.D-Bond g.R.laws g.D.laws g.G.laws g.D.Bond.laws g.R.Threads g.R.Threads-dict g.R.Wait g.R.Wait-dict g.D.Desk g.D.Desk-dict g.G.Gate g.G.Gate-dict κs)
    (record { owned = actor.owned; leaving = actor.leaving })
