use Rattle.std.proofs.Common.{◌≡◌}
use Rattle.test_session_rows.proofs.playing.play_sessions.Given as goal

abbrev pub invariant-loop-session : goal.invariant-loop-session
invariant-loop-session g l = l.desks.site ≡ l.fn.desks.site
