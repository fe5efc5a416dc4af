use Rattle.std.proofs.Common.{All, Vec, length, sym, ap, subst}
use Rattle.std.specs.Global.{Global}
use Rattle.std.proofs.lemmas.List.{length-map}
use Rattle.tc_model.specs.State.{Origin}
use Rattle.tc_model.specs.declared.entries.Entry.{Entry}
use Rattle.tc_turn.specs.Passes.{PassState}
use Rattle.tc_site.specs.Columns.{AreClosedFrom, AreColumns, columns_of}
use Rattle.tc_desk.specs.Logs.{rows_of}
use Rattle.tc_site.specs.Sites.{SiteState, HasPasses, IsSite}
use Rattle.tc_site.proofs.Agreed.{all-agree, all-have, all-pend, are-closed, are-columns, others-none}
use Rattle.tc_site.proofs.sites.Site.close.Goals as goal

pub close_all-requires-clause-whole : goal.close_all-requires-clause-whole
close_all-requires-clause-whole g c =
    let s = c.args.self in
    let vecs = c.in_ok-columns.field-0.columns.items in
    let columns = columns_of vecs in
    let site : IsSite s.names s.centres s.roles =
    subst (λ (t : SiteState g.row.W.Denot). IsSite t.names t.centres t.roles) c.self.view_is c.self.invariant in
    let have = all-have s c.args.ended.items columns c.requires.all c.in_ok-columns.ensures.columns site in
    subst (λ n. All (HasPasses n) c.self.inside.centres.items) (length-map vecs (λ (v : Vec (PassState Entry Origin) Global). v.items))
    (subst (All (HasPasses (length columns))) (sym (ap (λ (t : SiteState g.row.W.Denot). t.centres) c.self.view_is)) have)

pub close_all-requires-clause-are : goal.close_all-requires-clause-are
close_all-requires-clause-are g c =
    let columns = columns_of c.in_ok-columns.field-0.columns.items in
    subst (λ ts. AreColumns ts columns) (sym (ap (λ (t : SiteState g.row.W.Denot). t.centres) c.self.view_is))
    (are-columns c.args.self c.args.ended.items columns c.requires.all c.in_ok-columns.ensures.columns)

pub returns-clause-closed : goal.returns-clause-closed
returns-clause-closed g c =
    let s = c.args.self in
    let columns = columns_of c.in_ok-columns.field-0.columns.items in
    let closed : AreClosedFrom columns 0 s.centres c.in_ok-cores.cores.items =
    subst (λ ts. AreClosedFrom columns 0 ts c.in_ok-cores.cores.items) (ap (λ (t : SiteState g.row.W.Denot). t.centres) c.self.view_is) c.in_ok-cores.ensures in
    are-closed s c.args.ended.items columns c.requires.all c.in_ok-columns.ensures.columns c.in_ok-cores.cores.items closed

pub returns-clause-agree : goal.returns-clause-agree
returns-clause-agree g c =
    let s = c.args.self in
    let columns = columns_of c.in_ok-columns.field-0.columns.items in
    let closed : AreClosedFrom columns 0 s.centres c.in_ok-cores.cores.items =
    subst (λ ts. AreClosedFrom columns 0 ts c.in_ok-cores.cores.items) (ap (λ (t : SiteState g.row.W.Denot). t.centres) c.self.view_is) c.in_ok-cores.ensures in
    all-agree s c.args.ended.items columns c.requires.all c.in_ok-columns.ensures.columns c.in_ok-cores.cores.items
    (rows_of c.in_ok-columns.field-0.logs.items) closed c.in_ok-columns.ensures.logs

pub returns-clause-pend : goal.returns-clause-pend
returns-clause-pend g c =
    all-pend c.args.self c.args.ended.items (columns_of c.in_ok-columns.field-0.columns.items) c.requires.all c.in_ok-columns.ensures.columns
    (rows_of c.in_ok-columns.field-0.logs.items) c.in_ok-columns.ensures.logs

pub returns-clause-others : goal.returns-clause-others
returns-clause-others g c = λ agent past.
    let s = c.args.self in
    let columns = columns_of c.in_ok-columns.field-0.columns.items in
    let site : IsSite s.names s.centres s.roles =
    subst (λ (t : SiteState g.row.W.Denot). IsSite t.names t.centres t.roles) c.self.view_is c.self.invariant in
    let closed : AreClosedFrom columns 0 s.centres c.in_ok-cores.cores.items =
    subst (λ ts. AreClosedFrom columns 0 ts c.in_ok-cores.cores.items) (ap (λ (t : SiteState g.row.W.Denot). t.centres) c.self.view_is) c.in_ok-cores.ensures in
    others-none s c.args.ended.items columns c.requires.all c.in_ok-columns.ensures.columns c.in_ok-cores.cores.items closed site agent past
