use Rattle.std.proofs.Common.{Bool, sym, subst}
use Rattle.tc_rows.specs.Sound.{IsAlone}
use Rattle.tc_rows.proofs.row.is_placed.Goals as goal

pub returns : goal.returns
returns c =
    let named = c.is_named.ensures.0 c.if-not-is_named.false in
    let P : Bool → Type 0 = λ b. IsAlone c.args.histories.now c.args.agent c.args.row.now.number b c.args.centre in (
      λ yes. record {
        number = named.0;
        named = named.1;
        last = c.may_stand.ensures.0 c.if-not-may_stand.false;
        alone = subst P c.is_served-served.ensures (c.is_alone.ensures.0 yes);
      },
      λ placed. c.is_alone.ensures.1 (subst P (sym c.is_served-served.ensures) placed.alone),
    )
