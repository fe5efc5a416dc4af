use Rattle.std.proofs.Common.{◌-◌, ◌+◌, List, ℕ, refl, subst, take, drop}
use Rattle.tc_lines.specs.Lines.{IsBreak, IsReadAs}
use Rattle.tc_lines.specs.Requests.{BeginsWith}
use Rattle.tc_lines.proofs.Cuts.{line_found}
use Rattle.tc_lines.proofs.lines.Lines.next_request.Goals as goal

pub returns-clause-some : goal.returns-clause-some
returns-clause-some c =
    let bytes = c.self.inside.bytes.items in
    let from = c.self.inside.from in
    let at = c.in-Some.end in
    let line = c.without_return.result.now in
    let asked = c.read_line_request-asked.result in
    let b : IsBreak bytes c.self.inside.looked at = subst (λ (l : List ℕ). IsBreak l c.self.inside.looked at) c.deref.ensures.value c.in-Some.ensures.some in
    let read : IsReadAs (take (at - from) (drop from bytes)) line = subst (λ (l : List ℕ). IsReadAs (take (at - from) (drop from l)) line) c.deref-2.ensures.value c.without_return.ensures in
    let found = line_found bytes line (drop (at + 1) bytes) asked from c.self.inside.looked at c.self.invariant.order c.self.invariant.within c.self.invariant.few c.self.invariant.clear b read c.read_line_request-asked.ensures refl in
    subst (λ (v : List ℕ). BeginsWith v asked (drop (at + 1) bytes)) c.self.view_is found
