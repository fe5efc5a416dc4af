-- What the record of a reaction tells: which clause it was, and from where it was picked.
use Rattle.std.specs.Prelude.{ℕ}
use Rattle.tc_model.specs.declared.items.Item.{Item}
use Rattle.tc_model.specs.declared.items.Item.TheVariants.{Fired, Failed}

-- the place that an item was picked from, counted from 1
abbrev pub pick_of : Item → ℕ
pick_of (Fired pick clause effects) = pick
pick_of (Failed pick clause goal effects) = pick

-- the number of an item's clause
abbrev pub clause_of : Item → ℕ
clause_of (Fired pick clause effects) = clause
clause_of (Failed pick clause goal effects) = clause
