-- Histories that grow by several entries.
use Rattle.std.proofs.Common.{◌≡◌, ◌++◌, ◌<◌, ℕ, List, [], ◌∷◌, All, Some, slice_get, ◌+◌, ◌-◌, length, length-append, take, drop, append_assoc, sym, ap, subst, ◌∙◌, ◌≤◌, arith}
use Rattle.std.proofs.Math.Seq.{drop-append_seam, take-append_seam, drop-append-add}
use Rattle.std.proofs.lemmas.List.{take_all, take-append-drop, length-drop}
use Rattle.std.proofs.lemmas.List.Elements.{All-append}
use Rattle.std.proofs.lemmas.List.Sums.{sum_by-append}
use Rattle.tc_lists.proofs.Places.{slice_get_longer, slice_get_pushed}
use Rattle.tc_model.specs.Calls.{id_of, calls_of}
use Rattle.tc_model.specs.Entries.{weight, weight_of}
use Rattle.tc_model.specs.Replies.{reply_of, reply_in}
use Rattle.tc_model.specs.declared.calls.CallId.{CallId}
use Rattle.tc_model.specs.declared.calls.Op.{Op}
use Rattle.tc_model.specs.declared.entries.Entry.{Entry}
use Rattle.tc_model.specs.declared.entries.Entry.TheVariants.{Called}
use Rattle.tc_centre.specs.Held.{Answers, Calls, Grows, HasMoreEntries, KeepsHeld}
use Rattle.tc_calls.specs.Places.{IsCallAt}
use Rattle.tc_calls.specs.Places.{IsGave}
use Rattle.tc_centre.specs.declared.holdings.Holdings.{Holdings}
use Rattle.tc_centre.proofs.FreshReplies.{outcome_in-fresh}

pub answers-more : (a b c : List Entry) → Answers a b → Answers b c → Answers a c
answers-more a b c first then = record {
  gaves = first.gaves ++ then.gaves;
  answers = All-append IsGave first.gaves then.gaves first.answers then.answers;
  history = then.history ∙ ap (λ es. es ++ then.gaves) first.history ∙ append_assoc a first.gaves then.gaves;
}

pub longer-more : (a b c : List Entry) → HasMoreEntries a b → HasMoreEntries b c → HasMoreEntries a c
longer-more a b c first then = record {
  more = first.more ++ then.more;
  history = then.history ∙ ap (λ es. es ++ then.more) first.history ∙ append_assoc a first.more then.more;
}

pub keeps-more : (a b c : Holdings) → KeepsHeld a b → KeepsHeld b c → KeepsHeld a c
keeps-more a b c first then = record {
  founding = then.founding ∙ first.founding;
  bag = then.bag ∙ first.bag;
  pending = then.pending ∙ first.pending;
  longer = longer-more a.history.items b.history.items c.history.items first.longer then.longer;
}

-- what stands behind the old list in the grown one
slice-behind : (old more whole : List Entry) (n : ℕ) → whole ≡ old ++ more → n ≡ length old
    → take (length whole - n) (drop n whole) ≡ more
slice-behind old more whole n grown start =
    let behind : drop n whole ≡ more =
    ap (λ m. drop m whole) start ∙ ap (drop (length old)) grown ∙ drop-append_seam old more in
    let count : length whole ≡ length old + length more = ap length grown ∙ length-append old more in
    ap (take (length whole - n)) behind ∙ take_all (length whole - n) more (omega (arith, count, start))

-- the reply to a new call is the one that the entries behind the old history give
pub new-reply : (old called new whole : List Entry) (id : CallId) (op : Op) (n : ℕ)
    → All (λ e. (id_of e).number < id.number) (calls_of id.agent old)
    → Calls id op old called → Answers called new → whole ≡ new → n ≡ length old
    → reply_in new id ≡ reply_in (take (length whole - n) (drop n whole)) id
new-reply old called new whole id op n above calls answers same start =
    let more : List Entry = Called id op calls.result calls.items ∷ answers.gaves in
    let grown : new ≡ old ++ more =
    answers.history ∙ ap (λ es. es ++ answers.gaves) calls.history
    ∙ append_assoc old (Called id op calls.result calls.items ∷ []) answers.gaves in
    ap (λ es. reply_in es id) grown
    ∙ ap reply_of (outcome_in-fresh old more id above)
    ∙ sym (ap (λ es. reply_in es id) (slice-behind old more whole n (same ∙ grown) start))

-- what a call and the answers to requests have left, by the length of the history before
module _ (id : CallId) (op : Op) (old new : List Entry) (n : ℕ) (start : n ≡ length old) (grown : Grows id op old new) where
  pub grown-before : take n new ≡ old
  grown-before = ap (λ m. take m new) start ∙ ap (take (length old)) grown.history
      ∙ take-append_seam old (Called id op grown.result grown.items ∷ grown.gaves)

  pub grown-longer : n ≤ length new
  grown-longer =
      let count = ap length grown.history ∙ length-append old (Called id op grown.result grown.items ∷ grown.gaves) in
      omega (arith, start, count)

  pub grown-call : IsCallAt new n id
  grown-call =
      let e : Entry = Called id op grown.result grown.items in
      record {
        op = op;
        result = grown.result;
        items = grown.items;
        stands =
            subst (λ es. slice_get es n ≡ Some e) (sym (grown.history ∙ sym (append_assoc old (e ∷ []) grown.gaves)))
            (slice_get_longer (old ++ e ∷ []) grown.gaves n e
            (subst (λ m. slice_get (old ++ e ∷ []) m ≡ Some e) (sym start) (slice_get_pushed old e)));
      }

  pub grown-answers : All IsGave (drop (n + 1) new)
  grown-answers =
      subst (All IsGave)
      (sym (ap (λ m. drop (m + 1) new) start ∙ ap (drop (length old + 1)) grown.history
      ∙ drop-append-add old (Called id op grown.result grown.items ∷ grown.gaves) 1))
      grown.answers

-- what a grown history weighs
pub weight-grown : (old new : List Entry) (n k w : ℕ) → take n new ≡ old → k ≡ weight old → w ≡ weight (drop n new) → k + w ≡ weight new
weight-grown old new n k w before weighs more =
    ap (λ x. x + w) (weighs ∙ ap weight (sym before)) ∙ ap (λ x. weight (take n new) + x) more
    ∙ sym (sum_by-append weight_of (take n new) (drop n new)) ∙ ap weight (take-append-drop n new)

-- what stands behind the first so many
pub slice-whole : (new whole : List Entry) (n : ℕ) → whole ≡ new → take (length whole - n) (drop n whole) ≡ drop n new
slice-whole new whole n same =
    take_all (length whole - n) (drop n whole) (omega (arith, length-drop n whole)) ∙ ap (drop n) same
