-- A call that is appended to typed calls.
use Rattle.std.proofs.Common.{◌≡◌, List, [], ◌∷◌, ◌++◌, sym, subst}
use Rattle.std.specs.List.{All}
use Rattle.std.proofs.lemmas.List.Elements.{All-push}
use Rattle.tc_model.specs.Typed.{IsTypedCall}
use Rattle.tc_model.specs.declared.entries.Entry.{Entry}

pub typed-push : (old new : List Entry) (e : Entry) → new ≡ old ++ e ∷ [] → IsTypedCall e → All IsTypedCall old
    → All IsTypedCall new
typed-push old new e is typed all = subst (All IsTypedCall) (sym is) (All-push IsTypedCall old e all typed)
