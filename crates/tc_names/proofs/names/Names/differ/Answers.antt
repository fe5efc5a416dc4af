use Rattle.std.proofs.Common.{subst}
use Rattle.std.specs.List.{IsDistinct}
use Rattle.std.specs.Str.{bytes_eq}
use Rattle.std.proofs.lemmas.Map.Made.{AllPairs-from_IsDistinct}
use Rattle.std.proofs.lemmas.Slice.Eq.{bytes_eq-Decides}
use Rattle.tc_names.proofs.names.Names.differ.Goals as goal

pub returns : goal.returns
returns c =
    AllPairs-from_IsDistinct bytes_eq-Decides c.args.self.now
    (subst (IsDistinct bytes_eq) c.self.view_is c.len-count.ensures.unique)
