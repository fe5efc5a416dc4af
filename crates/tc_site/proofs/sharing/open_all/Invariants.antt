use Rattle.std.proofs.Common.{◌≡◌, [], All, length}
use Rattle.tc_centre.specs.Centre.{Centre}
use Rattle.tc_site.specs.Columns.{AreOpened, columns_of}
use Rattle.tc_site.proofs.sharing.open_all.Given as goal

-- the cores so far are shared, and those that are left have served nothing
abbrev pub invariant-loop-core : goal.invariant-loop-core
invariant-loop-core l = record {
  opened : AreOpened l.agents l.yielded l.centres.items (columns_of l.columns.items);
  unserved : All (λ (x : Centre). x.history ≡ []) l.core-iterator.rest.items;
  agents_are : All (λ (x : Centre). length x.origin.agents ≡ l.agents) l.core-iterator.rest.items;
}
