use Rattle.std.proofs.Common.{◌≡◌, List, [], ◌∷◌, ◌++◌, All, Vec, length, take, drop, sym, ap, ◌∙◌, subst}
use Rattle.std.specs.Global.{Global}
use Rattle.std.proofs.lemmas.List.{length-map, nil_from_length}
use Rattle.tc_centre.specs.Centre.{Centre}
use Rattle.tc_lists.proofs.Elements.{All-append_left, All-last}
use Rattle.tc_lists.proofs.Parts.{take-append_all}
use Rattle.tc_model.specs.State.{Origin}
use Rattle.tc_model.specs.declared.entries.Entry.{Entry}
use Rattle.tc_turn.specs.Passes.{PassState}
use Rattle.tc_site.specs.Columns.{AreClosedFrom, AreColumns, HaveLasts, IsClosedOver, columns_of}
use Rattle.tc_site.specs.Sites.{HasPasses}
use Rattle.tc_site.proofs.Taken.{IsClosing, closing-all, closing-more, closing-none, have-lasts}
use Rattle.tc_site.proofs.closing.close_all.Goals as goal

pub loop-centre-init : goal.loop-centre-init
loop-centre-init c =
    let columns = columns_of c.args.columns.items in
    record {
      passes = c.requires.whole;
      closing = subst (λ (xs : List Centre). IsClosing c.args.centres.items columns c.args.centres.items columns xs) (sym c.in_ok-cores.ensures.items)
          (closing-none c.args.centres.items columns c.requires.are);
    }

pub close_last-requires-clause-whole : goal.close_last-requires-clause-whole
close_last-requires-clause-whole c =
    let n = length c.args.columns.items in
    let have = All-last (HasPasses n) c.pop.new.self.items c.in-Some.centre
    (subst (All (HasPasses n)) c.in-Some.ensures.items c.loop-centre.invariant.passes) in
    let now = length-map c.loop-centre.columns.items (λ (v : Vec (PassState Entry Origin) Global). v.items) in
    let first = length-map c.args.columns.items (λ (v : Vec (PassState Entry Origin) Global). v.items) in
    have.passes ∙ sym first ∙ sym c.loop-centre.invariant.closing.whole ∙ now ∙ sym (ap length c.deref_mut.ensures.value)

pub close_last-requires-clause-lasts : goal.close_last-requires-clause-lasts
close_last-requires-clause-lasts c =
    let now = columns_of c.loop-centre.columns.items in
    subst (λ vs. HaveLasts c.in-Some.centre (columns_of vs)) (sym c.deref_mut.ensures.value)
    (have-lasts c.pop.new.self.items c.in-Some.centre now
    (subst (λ ts. AreColumns ts now) c.in-Some.ensures.items c.loop-centre.invariant.closing.are))

pub loop-centre-preserved : goal.loop-centre-preserved
loop-centre-preserved c =
    let n = length c.args.columns.items in
    let all = c.args.centres.items in
    let columns = columns_of c.args.columns.items in
    let t = c.in-Some.centre in
    let rest = c.pop.new.self.items in
    let vecs = c.loop-centre.columns.items in
    let olds = columns_of vecs in
    let news = c.close_last.new.columns in
    let cores = c.loop-centre.cores.items in
    let core = c.in_ok-close_last.field-0 in
    let before : IsClosing all columns (rest ++ t ∷ []) olds cores =
    subst (λ ts. IsClosing all columns ts olds cores) c.in-Some.ensures.items c.loop-centre.invariant.closing in
    let closed : IsClosedOver t olds core (columns_of news) =
    subst (λ vs. IsClosedOver t (columns_of vs) core (columns_of news)) c.deref_mut.ensures.value c.in_ok-close_last.ensures in
    let many : length news ≡ length vecs =
    sym (length-map news (λ (v : Vec (PassState Entry Origin) Global). v.items)) ∙ closed.whole
    ∙ length-map vecs (λ (v : Vec (PassState Entry Origin) Global). v.items) in
    let back : take c.loop-centre.columns.len (news ++ drop (length news) vecs) ≡ news =
    take-append_all news vecs c.loop-centre.columns.len many c.loop-centre.columns.ok.0 in
    record {
      passes = All-append_left (HasPasses n) rest (t ∷ []) (subst (All (HasPasses n)) c.in-Some.ensures.items c.loop-centre.invariant.passes);
      closing = subst (λ vs. IsClosing all columns rest (columns_of vs) c.push.new.self.items) (sym back)
          (subst (λ xs. IsClosing all columns rest (columns_of news) xs) (sym c.in_ok-push.ensures.items)
          (closing-more all columns rest t olds (columns_of news) cores core before closed));
    }

pub returns : goal.returns
returns c =
    let all = c.args.centres.items in
    let columns = columns_of c.args.columns.items in
    let now = columns_of c.loop-centre.columns.items in
    let cores = c.loop-centre.cores.items in
    let none : c.loop-centre.centres.items ≡ [] =
    nil_from_length c.loop-centre.centres.items (sym c.loop-centre.centres.ok.0 ∙ c.in_default.ensures.cases.0) in
    subst (λ xs. AreClosedFrom columns 0 all xs) (sym c.reverse.ensures.items)
    (closing-all all columns now cores (subst (λ ts. IsClosing all columns ts now cores) none c.loop-centre.invariant.closing))
