use Rattle.std.proofs.Common.{map, subst, sym, arith}
use Rattle.tc_read.specs.Frames.{framed, items_of, opened, opened_in, standing, tokens_left}
use Rattle.tc_read.specs.Machine as machine
use Rattle.tc_read.specs.Views.{token_view}
use Rattle.tc_read.proofs.Loop.{Reads, reads_first, reads_next, reads_on, reads_refused, step_shorter, steps_shorter}
use Rattle.tc_read.proofs.parse.parse.Goals as goal

pub loop-stack-init : goal.loop-stack-init
loop-stack-init c =
    let ts = map token_view c.args.tokens.now in
    subst (λ frames. Reads ts (framed frames (items_of c.in_ok-stack.stack)) machine.Awaits ts) (sym c.in_ok-stack.ensures.0) (reads_first ts)

pub returns-in-None : goal.returns-in-None
returns-in-None c =
    reads_refused (map token_view c.args.tokens.now) (opened c.loop-stack.stack) machine.Awaits (tokens_left c.loop-stack.now) c.loop-stack.invariant tt (rw c.in-None.is at c.in_ok-begun.ensures)

pub returns-in-Refused : goal.returns-in-Refused
returns-in-Refused c =
    let all = map token_view c.args.tokens.now in
    let first = reads_next all (opened c.loop-stack.stack) machine.Awaits (tokens_left c.loop-stack.now)
    (opened_in c.in-Some.first.state c.begun.new.stack) (standing c.in-Some.first.state c.begun.new.stack) (tokens_left c.in-Some.first)
    c.loop-stack.invariant (rw c.in-Some.is at c.in_ok-begun.ensures) in
    let s = rw c.in-Refused.is at c.in_ok-go_on_all.ensures in
    reads_refused all s.0 (machine.Holds s.1 s.2) s.3 (reads_on all s.4 first) tt s.5

pub returns-in-Ends : goal.returns-in-Ends
returns-in-Ends c =
    let all = map token_view c.args.tokens.now in
    let first = reads_next all (opened c.loop-stack.stack) machine.Awaits (tokens_left c.loop-stack.now)
    (opened_in c.in-Some.first.state c.begun.new.stack) (standing c.in-Some.first.state c.begun.new.stack) (tokens_left c.in-Some.first)
    c.loop-stack.invariant (rw c.in-Some.is at c.in_ok-begun.ensures) in
    let s = rw c.in-Ends.is at c.in_ok-go_on_all.ensures in
    λ k. rw c.pop_item.ensures.item ((reads_on all s.2 first).same k)

pub loop-stack-smaller : goal.loop-stack-smaller
loop-stack-smaller c =
    let all = map token_view c.args.tokens.now in
    let e = rw c.in-Some.is at c.in_ok-begun.ensures in
    let first = reads_next all (opened c.loop-stack.stack) machine.Awaits (tokens_left c.loop-stack.now)
    (opened_in c.in-Some.first.state c.begun.new.stack) (standing c.in-Some.first.state c.begun.new.stack) (tokens_left c.in-Some.first)
    c.loop-stack.invariant e in
    let less = step_shorter all (opened c.loop-stack.stack) machine.Awaits (tokens_left c.loop-stack.now)
    (opened_in c.in-Some.first.state c.begun.new.stack) (standing c.in-Some.first.state c.begun.new.stack) (tokens_left c.in-Some.first)
    c.loop-stack.invariant e in
    omega (arith, less, steps_shorter all (rw c.in-Awaits.is at c.in_ok-go_on_all.ensures) first)

pub loop-stack-preserved : goal.loop-stack-preserved
loop-stack-preserved c =
    let all = map token_view c.args.tokens.now in
    let first = reads_next all (opened c.loop-stack.stack) machine.Awaits (tokens_left c.loop-stack.now)
    (opened_in c.in-Some.first.state c.begun.new.stack) (standing c.in-Some.first.state c.begun.new.stack) (tokens_left c.in-Some.first)
    c.loop-stack.invariant (rw c.in-Some.is at c.in_ok-begun.ensures) in
    reads_on all (rw c.in-Awaits.is at c.in_ok-go_on_all.ensures) first
