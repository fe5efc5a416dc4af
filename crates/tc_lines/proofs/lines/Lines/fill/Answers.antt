use Rattle.std.proofs.Common.{◌≡◌, ◌≤◌, ◌++◌, length, rules, take, drop}
use Rattle.std.proofs.lemmas.List.{take-append-le}
use Rattle.tc_lines.proofs.Filling.{fills}
use Rattle.tc_lines.proofs.lines.Lines.fill.Goals as goal

pub returns-clause-more : goal.returns-clause-more
returns-clause-more g c =
    let n = c.in_ok-n.n in
    let into = c.read.new.into in
    let short : n ≤ length into = search rules in
    let piece : take n (into ++ drop c.room-room.result c.args.buffer.now) ≡ take n into = take-append-le n into (drop c.room-room.result c.args.buffer.now) short in
    let is : c.push_bytes.new.into.items ≡ c.args.self.now ++ take n into = search rules in
    fills _ _ n _ _ into c.in_ok-n.ensures.bytes short is
