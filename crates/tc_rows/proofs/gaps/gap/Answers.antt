use Rattle.std.proofs.Common.{slice_index_or, sym, subst, arith}
use Rattle.std.proofs.lemmas.Option.{slice_get_within}
use Rattle.tc_rows.specs.Made.{AreMade, Rise}
use Rattle.tc_rows.proofs.Between.{between-from, between-high, between-low}
use Rattle.tc_rows.proofs.gaps.gap.Goals as goal

pub cut-first-requires : goal.cut-first-requires
cut-first-requires c = subst Rise (sym c.made_by-made.ensures) (c.requires.made c.args.id.agent).rise

pub place_behind-requires-clause-small : goal.place_behind-requires-clause-small
place_behind-requires-clause-small c = λ k d inside.
    let are = subst (AreMade c.args.id.agent c.args.history.now) (sym c.made_by-made.ensures) (c.requires.made c.args.id.agent) in
    let at = are.each k d inside in
    omega (arith, slice_get_within c.args.history.now (slice_index_or c.made_by-made.result.now k d).place at.entry at.stands)

pub returns : goal.returns
returns c = λ place within.
    let h = c.args.history.now in
    let made = c.made_by-made.result.now in
    let are = subst (AreMade c.args.id.agent h) (sym c.made_by-made.ensures) (c.requires.made c.args.id.agent) in
    let first = c.cut-first.result in (
      λ is. (
        between-low c.args.id.agent c.args.id.number h made are c.requires.none first c.cut-first.ensures.inside
            c.cut-first.ensures.point place within c.place_behind.result c.place_behind.ensures is,
        between-high c.args.id.agent c.args.id.number h made are c.requires.none first c.cut-first.ensures.inside
            c.cut-first.ensures.point place within c.place_of_next.result c.place_of_next.ensures is,
      ),
      λ both.
          between-from c.args.id.agent c.args.id.number h made are c.requires.none first c.cut-first.ensures.inside
          c.cut-first.ensures.point place within c.place_behind.result c.place_of_next.result c.place_behind.ensures c.place_of_next.ensures both.0 both.1,
    )
