use Rattle.std.proofs.Common.{◌≡◌, ◌∙◌, ◌+◌, ◌*◌, ◌/◌, ◌%◌, min, ap, arith, sym, length}
use Rattle.std.proofs.lemmas.Grind.{div_ceil_times}
use Rattle.tc_writing.specs.Lines.{texts}
use Rattle.tc_writing.proofs.ByShare.{are_printed}
use Rattle.tc_writing.proofs.waves.write_wave.Goals as goal
use denote.Param.Send.{sendable}
use Rattle.std.proofs.Crossing.{crosses}
use Rattle.tc_term.proofs.name.Name.TheSendSync as name
use Rattle.tc_writing.proofs.Sharing.{entry_sync, row_sync}

pub write_shares-requires-clause-shares : goal.write_shares-requires-clause-shares
write_shares-requires-clause-shares g c =
    let ts = texts c.args.wave in
    let size = c.args.size in
    let shares = c.in-Ok.shares in
    let count : length shares.items ≡ length ts / size + min 1 (length ts % size) =
    sym shares.ok.0 ∙ c.in-Ok.ensures.len ∙ c.div_ceil.ensures ∙ ap (λ n. n / size + min 1 (n % size)) c.len.ensures in
    let reach = div_ceil_times (length ts) size c.requires.size in
    are_printed size shares.items ts (omega (arith, ap (λ n. n * size) count, reach))
    (λ i d within. (c.in-Ok.ensures.each i d (omega (arith, shares.ok.0, c.in-Ok.ensures.len, within))).1.met)

pub map_indices-printed-requires-sync-F : goal.map_indices-printed-requires-sync-F
map_indices-printed-requires-sync-F g c κs within = search (crosses, name.the_sync, entry_sync, row_sync, sendable) depth 60 fits 20000
