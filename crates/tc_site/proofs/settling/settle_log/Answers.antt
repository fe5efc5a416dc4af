use Rattle.std.proofs.Common.{◌≡◌, ◌∙◌, ℕ, false, List, sym, subst, arith, rules}
use Rattle.tc_desk.specs.declared.rows.LogRow.{LogRow}
use Rattle.tc_desk.specs.Logs.{any_pending}
use Rattle.tc_site.specs.Settling.{PendsAlone}
use Rattle.tc_site.specs.Sites.{core_histories}
use Rattle.tc_site.proofs.Settled.{alone-agrees, alone-called, alone-core, alone-inside, alone-known, alone-settled, alone-stays, settled-none}
use Rattle.tc_site.proofs.settling.settle_log.Goals as goal

-- the row that is pending, of the same log
only : {xs ys : List LogRow} {place : ℕ} → xs ≡ ys → PendsAlone xs place → PendsAlone ys place
only {place = place} same is = subst (λ l. PendsAlone l place) same is

pub returns-in_default-clause-settled : goal.returns-in_default-clause-settled
returns-in_default-clause-settled c =
    settled-none c.args.names.now (core_histories c.args.cores.now) c.args.agent c.args.log.now.items
    (subst (λ l. any_pending l ≡ false) c.deref.ensures.value c.in_default.ensures.none)

pub index-requires : goal.index-requires
index-requires c =
    let inside = alone-inside c.args.names.now c.args.cores.now c.requires.named c.args.agent c.args.log.now.items c.in-Some.place (only c.deref.ensures.value c.in-Some.ensures.some) c.requires.agrees in
    omega (arith, inside, c.args.log.now.ok.0)

pub unreachable-requires : goal.unreachable-requires
unreachable-requires c =
    c.in_default-place_of.ensures.none
    (alone-known c.args.names.now c.args.cores.now c.requires.named c.args.agent c.args.log.now.items c.in-Some.place (only c.deref.ensures.value c.in-Some.ensures.some) c.requires.agrees
    c.index.result.now c.index.ensures)

pub overflow_add-id : goal.overflow_add-id
overflow_add-id c =
    let inside = alone-inside c.args.names.now c.args.cores.now c.requires.named c.args.agent c.args.log.now.items c.in-Some.place (only c.deref.ensures.value c.in-Some.ensures.some) c.requires.agrees in
    search (rules, inside)

pub bounds-cores-centre : goal.bounds-cores-centre
bounds-cores-centre c =
    alone-core c.args.names.now c.args.cores.now c.requires.named c.args.agent c.args.log.now.items c.in-Some.place (only c.deref.ensures.value c.in-Some.ensures.some) c.requires.agrees
    c.index.result.now c.index.ensures c.in-Some-place_of.centre c.in-Some-place_of.ensures.some

pub look-requires : goal.look-requires
look-requires c =
    alone-called c.args.names.now c.args.cores.now c.requires.named c.args.agent c.args.log.now.items c.in-Some.place (only c.deref.ensures.value c.in-Some.ensures.some) c.requires.agrees
    c.index.result.now c.index.ensures c.in-Some-place_of.centre c.in-Some-place_of.ensures.some c.index-cores-centre.result c.index-cores-centre.is

pub put_reply-requires : goal.put_reply-requires
put_reply-requires c =
    let inside = alone-inside c.args.names.now c.args.cores.now c.requires.named c.args.agent c.args.log.now.items c.in-Some.place (only c.deref.ensures.value c.in-Some.ensures.some) c.requires.agrees in
    omega (arith, inside, c.args.log.now.ok.0)

pub returns-in-Some-2-clause-settled : goal.returns-in-Some-2-clause-settled
returns-in-Some-2-clause-settled c =
    alone-settled c.args.names.now c.args.cores.now c.requires.named c.args.agent c.args.log.now.items c.in-Some.place (only c.deref.ensures.value c.in-Some.ensures.some) c.requires.agrees
    c.index.result.now c.index.ensures c.in-Some-place_of.centre c.in-Some-place_of.ensures.some c.index-cores-centre.result c.index-cores-centre.is
    c.in-Some-2.reply (sym c.in_ok-reply.ensures ∙ c.in-Some-2.is) c.put_reply.new.log.items c.put_reply.ensures

pub returns-in-Some-2-clause-agrees : goal.returns-in-Some-2-clause-agrees
returns-in-Some-2-clause-agrees c =
    alone-agrees c.args.names.now c.args.cores.now c.requires.named c.args.agent c.args.log.now.items c.in-Some.place (only c.deref.ensures.value c.in-Some.ensures.some) c.requires.agrees
    c.index.result.now c.index.ensures c.in-Some-place_of.centre c.in-Some-place_of.ensures.some c.index-cores-centre.result c.index-cores-centre.is
    c.in-Some-2.reply (sym c.in_ok-reply.ensures ∙ c.in-Some-2.is) c.put_reply.new.log.items c.put_reply.ensures

pub returns-in_default-2-clause-settled : goal.returns-in_default-2-clause-settled
returns-in_default-2-clause-settled c =
    alone-stays c.args.names.now c.args.cores.now c.requires.named c.args.agent c.args.log.now.items c.in-Some.place (only c.deref.ensures.value c.in-Some.ensures.some) c.requires.agrees
    c.index.result.now c.index.ensures c.in-Some-place_of.centre c.in-Some-place_of.ensures.some c.index-cores-centre.result c.index-cores-centre.is
    (sym c.in_ok-reply.ensures ∙ c.in_default-2.is)
