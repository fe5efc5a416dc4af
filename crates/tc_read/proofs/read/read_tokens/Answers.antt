use Rattle.std.proofs.Common.{refl}
use Rattle.tc_term.specs.Layouts.{TextEnd}
use Rattle.tc_read.proofs.Answering.{ended_syntax, ended_judged, ended_read}
use Rattle.tc_read.proofs.read.read_tokens.Goals as goal

pub returns-in-None : goal.returns-in-None
returns-in-None c = λ size behind ts stop g narrow at_end at_behind.
    rw c.place_or-place.ensures (ended_syntax c.args.gathered.now size c.args.end behind ts stop g narrow at_end at_behind c.if-gathered.false (rw (c.in-None.is, c.deref.ensures.value) at c.in_ok-parse.ensures))

pub returns-in-Some : goal.returns-in-Some
returns-in-Some c = λ size behind ts stop g narrow at_end at_behind.
    ended_judged c.args.gathered.now size c.args.end behind ts stop g narrow at_end at_behind c.in-Some.item c.len.result c.judge.result c.if-gathered.false (rw (c.in-Some.is, c.deref.ensures.value) at c.in_ok-parse.ensures) c.len.ensures (rw c.place_or-place.ensures at c.judge.ensures)

pub judge-requires : goal.judge-requires
judge-requires c =
    let known = c.requires in
    ended_read c.args.gathered.now c.args.end c.args.end c.args.end known.0 TextEnd known.1 known.2 refl refl c.in-Some.item c.len.result (rw (c.in-Some.is, c.deref.ensures.value) at c.in_ok-parse.ensures) c.len.ensures
