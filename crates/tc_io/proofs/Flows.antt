-- Texts handed on, one behind another.
use Rattle.std.proofs.Common.{◌≡◌, ℕ, ◌+◌, List, [], ◌++◌, Option, Some, None, Result, Ok, Err, IsErrOf, IsTrue, length, take, refl, sym, ap, subst, ◌∙◌, arith, append_assoc, length-append, append-nil}
use Rattle.std.proofs.Math.Seq.{take-append_seam, take-append-add}
use Rattle.std.proofs.lemmas.List.{take-append-le}
use Rattle.tc_io.specs.Faults.{Counts}
use Rattle.tc_io.specs.Sinks.{appended, AppendsFront}
use Rattle.tc_io.specs.declared.sinks.SinkFault.{SinkFault}
use Rattle.tc_io.specs.declared.sinks.SinkFault.TheVariants.{Failed, NoMemory}
use Rattle.tc_io.proofs.Outputs.{appended-append}
use Rattle.tc_io.specs.Flow.{Flow, HandsOn, KeepsPiece, KeepsRest, Parts, handed}

-- nothing behind what was taken
pub appended-nil : (taken : Option (List ℕ)) → appended taken [] ≡ taken
appended-nil None = refl
appended-nil (Some bytes) = ap Some (append-nil bytes)

-- a front of a text's beginning is a front of the text
pub front-longer : (old new : Option (List ℕ)) (xs ys : List ℕ) → AppendsFront old new xs → AppendsFront old new (xs ++ ys)
front-longer old new xs ys f =
    let within = f.1 in
    (f.0, omega (arith, within, length-append xs ys), f.2 ∙ ap (appended old) (sym (take-append-le f.0 xs ys within)))

-- all was handed on
pub all_handed : (text : List ℕ) (old new : Flow) → HandsOn text old new (Ok tt) → handed new ≡ appended (handed old) text
all_handed text old new hands =
    let parts = hands.parts in
    ap (λ t. appended t new.kept) parts.taken
    ∙ appended-append old.sink.taken parts.before new.kept
    ∙ ap (appended old.sink.taken) (sym parts.whole)
    ∙ sym (appended-append old.sink.taken old.kept text)

rest_taken : (bytes : List ℕ) (taken : Option (List ℕ)) (new : Flow) → KeepsRest bytes taken new
    → AppendsFront taken new.sink.taken bytes
rest_taken bytes taken new parts =
    let whole = parts.whole in (
      length parts.before,
      omega (arith, ap length whole, length-append parts.before new.kept),
      parts.taken ∙ ap (appended taken) (sym (ap (take (length parts.before)) whole ∙ take-append_seam parts.before new.kept)),
    )

piece_taken : (bytes : List ℕ) (taken : Option (List ℕ)) (new : Flow) → KeepsPiece bytes taken new
    → AppendsFront taken new.sink.taken bytes
piece_taken bytes taken new parts =
    let whole = parts.whole in
    let within = parts.within in (
      length parts.before + parts.front,
      omega (arith, within, ap length whole, length-append parts.before (new.kept ++ parts.rest), length-append new.kept parts.rest),
      parts.taken
          ∙ ap (appended taken)
          (sym
          (ap (take (length parts.before + parts.front)) whole
          ∙ take-append-add parts.before (new.kept ++ parts.rest) parts.front
          ∙ ap (λ l. parts.before ++ l) (take-append-le parts.front new.kept parts.rest within))),
    )

parts_taken : (bytes : List ℕ) (taken : Option (List ℕ)) (new : Flow) (result : Result (Unit {0}) SinkFault)
    → Parts bytes taken new result → AppendsFront taken new.sink.taken bytes
parts_taken bytes taken new (Ok done) parts = rest_taken bytes taken new parts
parts_taken bytes taken new (Err fault) parts = piece_taken bytes taken new parts

-- a front of what was kept and of the text was taken
pub front_taken : (text : List ℕ) (old new : Flow) (result : Result (Unit {0}) SinkFault) → HandsOn text old new result
    → AppendsFront old.sink.taken new.sink.taken (old.kept ++ text)
front_taken text old new result hands = parts_taken (old.kept ++ text) old.sink.taken new result hands.parts

longer_piece : (bytes more : List ℕ) (taken : Option (List ℕ)) (new : Flow) → KeepsPiece bytes taken new → KeepsPiece (bytes ++ more) taken new
longer_piece bytes more taken new parts = record {
  before = parts.before;
  rest = parts.rest ++ more;
  front = parts.front;
  whole = ap (λ l. l ++ more) parts.whole
      ∙ append_assoc parts.before (new.kept ++ parts.rest) more
      ∙ ap (λ l. parts.before ++ l) (append_assoc new.kept parts.rest more);
  within = parts.within;
  taken = parts.taken;
}

amid_fault : (text more : List ℕ) (old new : Flow) (fault : SinkFault)
    → HandsOn text old new (Err fault) → HandsOn (text ++ more) old new (Err fault)
amid_fault text more old new fault first = record {
  parts = subst (λ l. KeepsPiece l old.sink.taken new) (append_assoc old.kept text more)
      (longer_piece (old.kept ++ text) more old.sink.taken new first.parts);
  counted = first.counted;
  sure = first.sure;
  stays_sure = first.stays_sure;
}

-- what was taken, what of the rest was taken, and what is behind it
parted : (bytes more first kept second behind : List ℕ) → bytes ≡ first ++ kept → kept ++ more ≡ second ++ behind
    → bytes ++ more ≡ (first ++ second) ++ behind
parted bytes more first kept second behind whole next =
    ap (λ l. l ++ more) whole
    ∙ append_assoc first kept more
    ∙ ap (λ l. first ++ l) next
    ∙ sym (append_assoc first second behind)

both_parts : (bytes more : List ℕ) (taken : Option (List ℕ)) (mid new : Flow) (result : Result (Unit {0}) SinkFault)
    → KeepsRest bytes taken mid → Parts (mid.kept ++ more) mid.sink.taken new result → Parts (bytes ++ more) taken new result
both_parts bytes more taken mid new (Ok done) first second = record {
  before = first.before ++ second.before;
  whole = parted bytes more first.before mid.kept second.before new.kept first.whole second.whole;
  taken = second.taken
      ∙ ap (λ t. appended t second.before) first.taken
      ∙ appended-append taken first.before second.before;
}
both_parts bytes more taken mid new (Err fault) first second =
    let piece = take second.front new.kept in
    record {
      before = first.before ++ second.before;
      rest = second.rest;
      front = second.front;
      whole = parted bytes more first.before mid.kept second.before (new.kept ++ second.rest) first.whole second.whole;
      within = second.within;
      taken = second.taken
          ∙ ap (λ t. appended t (second.before ++ piece)) first.taken
          ∙ appended-append taken first.before (second.before ++ piece)
          ∙ ap (appended taken) (sym (append_assoc first.before second.before piece));
    }

-- a text that was handed on, and then another
pub both : (text more : List ℕ) (old mid new : Flow) (result : Result (Unit {0}) SinkFault)
    → HandsOn text old mid (Ok tt) → HandsOn more mid new result → HandsOn (text ++ more) old new result
both text more old mid new result first second = record {
  parts = subst (λ l. Parts l old.sink.taken new result) (append_assoc old.kept text more)
      (both_parts (old.kept ++ text) more old.sink.taken mid new result first.parts second.parts);
  counted = subst (λ n. Counts (IsErrOf result Failed) n new.sink.write_faults) (first.counted.unfailed (λ failed. cc)) second.counted;
  sure = λ sure. second.sure (subst (λ b. IsTrue b) (sym first.stays_sure) sure);
  stays_sure = second.stays_sure ∙ first.stays_sure;
}

-- a fault amid a text is a fault amid the longer one
pub amid : (text more : List ℕ) (old new : Flow) (result told : Result (Unit {0}) SinkFault) (fault : SinkFault)
    → result ≡ Err fault → told ≡ Err fault → HandsOn text old new result → HandsOn (text ++ more) old new told
amid text more old new result told fault was is first =
    subst (HandsOn (text ++ more) old new) (sym is) (amid_fault text more old new fault (subst (HandsOn text old new) was first))

-- a text that was handed on, and then another, without a fault
pub both_done : (text more : List ℕ) (old mid new : Flow) (result : Result (Unit {0}) SinkFault) → result ≡ Ok tt
    → HandsOn text old mid (Ok tt) → HandsOn more mid new result → HandsOn (text ++ more) old new (Ok tt)
both_done text more old mid new result is first second =
    subst (HandsOn (text ++ more) old new) is (both text more old mid new result first second)

-- a text that is kept, and then pieces of what is kept are written
pub kept_first : (text : List ℕ) (old new : Flow) (result : Result (Unit {0}) SinkFault)
    → HandsOn [] (record { sink = old.sink; kept = old.kept ++ text }) new result → HandsOn text old new result
kept_first text old new result then = record {
  parts = subst (λ l. Parts l old.sink.taken new result) (append-nil (old.kept ++ text)) then.parts;
  counted = then.counted;
  sure = then.sure;
  stays_sure = then.stays_sure;
}

-- nothing was handed on
pub nothing_handed : (f : Flow) → HandsOn [] f f (Ok tt)
nothing_handed f = record {
  parts = record { before = []; whole = append-nil f.kept; taken = sym (appended-nil f.sink.taken) };
  counted = record { failed = λ failed. absurd (cc); unfailed = λ unfailed. refl };
  sure = λ sure failed. cc;
  stays_sure = refl;
}

-- a text for which there was no memory
pub no_memory : (text : List ℕ) (f : Flow) → HandsOn text f f (Err NoMemory)
no_memory text f = record {
  parts = record {
    before = [];
    rest = text;
    front = 0;
    whole = refl;
    within = omega arith;
    taken = sym (appended-nil f.sink.taken);
  };
  counted = record { failed = λ failed. absurd (cc); unfailed = λ unfailed. refl };
  sure = λ sure failed. cc;
  stays_sure = refl;
}
