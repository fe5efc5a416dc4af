use Rattle.std.proofs.Common.{◌<◌, length, refl, sym, subst, ap, arith}
use Rattle.std.proofs.lemmas.List.{length-map}
use Rattle.std.proofs.lemmas.Result.{on_ok_weaker}
use Rattle.tc_model.specs.Calls.{is_call_of}
use Rattle.tc_model.specs.declared.entries.Entry.{Entry}
use Rattle.tc_rows.specs.Made.{IsMaker, lists_of}
use Rattle.tc_rows.proofs.Making.{noted-called, noted-looked, noted-none}
use Rattle.tc_rows.proofs.made.note.Goals as goal

pub append-requires : goal.append-requires
append-requires c =
    c.requires c.in-Called.id (subst (λ (e : Entry). IsMaker e c.in-Called.id) (sym c.in-Called.is) refl)

pub append-requires-in-Looked : goal.append-requires-in-Looked
append-requires-in-Looked c =
    c.requires c.in-Looked.id (subst (λ (e : Entry). IsMaker e c.in-Looked.id) (sym c.in-Looked.is) refl)

pub returns-in-Called-clause-noted : goal.returns-in-Called-clause-noted
returns-in-Called-clause-noted c =
    let own : c.in-Called.id.agent < length c.args.makers.now.items =
    c.requires c.in-Called.id (subst (λ (e : Entry). IsMaker e c.in-Called.id) (sym c.in-Called.is) refl) in
    on_ok_weaker c.append.result
    (λ is history at above are.
    noted-called history c.args.entry.now c.args.place c.in-Called.id (lists_of c.args.makers.now.items) (lists_of c.append.new.makers.items)
    (omega (arith, own, length-map c.args.makers.now.items (λ v. v.items))) at is above are c.in-Called.op c.in-Called.outcome c.in-Called.items c.in-Called.is)
    c.append.ensures.noted

pub returns-in-Looked-clause-noted : goal.returns-in-Looked-clause-noted
returns-in-Looked-clause-noted c =
    let own : c.in-Looked.id.agent < length c.args.makers.now.items =
    c.requires c.in-Looked.id (subst (λ (e : Entry). IsMaker e c.in-Looked.id) (sym c.in-Looked.is) refl) in
    on_ok_weaker c.append-in-Looked.result
    (λ is history at above are.
    noted-looked history c.args.entry.now c.args.place c.in-Looked.id (lists_of c.args.makers.now.items) (lists_of c.append-in-Looked.new.makers.items)
    (omega (arith, own, length-map c.args.makers.now.items (λ v. v.items))) at is above are c.in-Looked.asked c.in-Looked.reply c.in-Looked.is)
    c.append-in-Looked.ensures.noted

pub returns-in-Gave-clause-noted : goal.returns-in-Gave-clause-noted
returns-in-Gave-clause-noted c = λ history at above are.
    noted-none history c.args.entry.now (lists_of c.args.makers.now.items)
    (λ agent. ap (is_call_of agent) c.in-Gave.is) are
