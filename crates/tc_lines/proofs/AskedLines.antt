-- Lines that ask at a centre are read as what they ask.
use Rattle.std.proofs.Common.{◌≡◌, ◌∙◌, ◌≤◌, ◌<◌, ◌+◌, ℕ, List, [], ◌∷◌, ◌++◌, Option, Some, None, is_some, false, Result, Ok, Err, codes, length, refl, sym, ap, subst, append-nil, length-append, arith, eq-eqb}
use Rattle.std.proofs.Math.Seq.{get_or-append_seam}
use Rattle.std.proofs.lemmas.Option.{same_Some}
use Rattle.memchr.specs.Find.{IsFirstByte, is_byte}
use Rattle.std.specs.Prelude.{slice_index}
use Rattle.tc_term.proofs.Numbered.{renumbered-pattern}
use Rattle.tc_term.specs.Faults.{Found}
use Rattle.tc_term.specs.Text.{Alone, text_in, text_of}
use Rattle.tc_term.specs.Tree.{Tree}
use Rattle.tc_read.proofs.Asked.{asked-read}
use Rattle.tc_read.proofs.AtFront.{IsStanding, canonical_at-stands}
use Rattle.tc_read.proofs.PlainText.{no_quote-behind, short-fits, short-readable}
use Rattle.tc_read.specs.Asked.{HasNoQuote, asked_of, asked_text}
use Rattle.tc_read.specs.Front.{Read, canonical_at, without_room}
use Rattle.tc_lines.specs.Asked.{IsAskedAt, IsTextOf}
use Rattle.tc_lines.specs.Requests.{IsRequest, IsRequestAs, LineReadsAs}
use Rattle.tc_lines.specs.declared.requests.BadLine.{BadLine}
use Rattle.tc_lines.specs.declared.requests.BadLine.TheVariants as bad
use Rattle.tc_lines.specs.declared.requests.LineAsk.{LineAsk}

-- where memchr finds no quote there is none
pub quote-none : (line : List ℕ) (r : Option ℕ) → IsFirstByte (is_byte 39) line r → is_some r ≡ false → HasNoQuote line
quote-none line None none e a b is =
    none (length a) (omega arith) (omega (arith, ap length is, length-append a (39 ∷ b)))
    (eq-eqb (slice_index line (length a)) 39 (ap (λ l. slice_index l (length a)) is ∙ get_or-append_seam a 39 b 0))
quote-none line (Some at) found e a b is = absurd (cc)

no_bytes : (s : List ℕ) → length s < 1 → s ≡ []
no_bytes [] none = refl
no_bytes (b ∷ s) none = absurd (omega (arith, none))

-- bytes that are read to their end as a template
pub text-read : (bytes : List ℕ) (t : Tree) (rest : List ℕ) → Some (t, rest) ≡ without_room (canonical_at bytes) → length rest < 1 → IsTextOf bytes t
text-read bytes t rest is none = by (canonical_at bytes) (canonical_at-stands bytes) is
  where
    by : (found : Read Tree) → IsStanding bytes found → Some (t, rest) ≡ without_room found → IsTextOf bytes t
    by None stands e = absurd (cc)
    by (Some (u, left, more)) stands e =
        let same = same_Some (t, rest) (u, more) e in
        let behind : more ≡ [] = sym (ap (λ r. r.1) same) ∙ no_bytes rest none in
        subst (IsTextOf bytes) (sym (ap (λ r. r.0) same)) (record {
          pattern = stands.pattern;
          text = stands.text ∙ ap (λ l. text_in Alone u ++ l) behind ∙ append-nil (text_in Alone u) ∙ sym (ap text_of (renumbered-pattern u stands.pattern));
        })

-- a short line that asks so and has no quote in it
pub asked-reads : (line name text : List ℕ) (t : Tree) → IsAskedAt line name text → IsTextOf text t → HasNoQuote line → length line ≤ 200 →
    LineReadsAs line (Found (asked_of name t) (length line))
asked-reads line name text t at stands none short =
    let is : text ≡ text_in Alone t = stands.text ∙ ap text_of (renumbered-pattern t stands.pattern) in
    let plain : HasNoQuote (text_in Alone t) = subst HasNoQuote is (no_quote-behind line (name ++ codes " ? ") text at.split none) in
    let long : length line ≡ length name + 3 + length (text_in Alone t) =
    ap length at.split ∙ omega (arith, length-append (name ++ codes " ? ") text, length-append name (codes " ? "), ap length is) in
    let few : length (text_in Alone t) ≤ 200 = omega (arith, long, short) in
    let whole : line ≡ asked_text name t = at.split ∙ ap (λ l. name ++ codes " ? " ++ l) stands.text in
    subst (λ l. LineReadsAs l (Found (asked_of name t) (length l))) (sym whole)
    (asked-read name t at.named (short-readable t stands.pattern plain few) (short-fits name t stands.pattern plain few (omega (arith, long, short))))

-- what a line asks is what the term asks that it is read as
pub reads-request : (line : List ℕ) (t : Tree) (r : Result LineAsk BadLine) → LineReadsAs line (Found t (length line)) → IsRequestAs t r → IsRequest line r
reads-request line t (Ok asked) reads is = subst (λ u. LineReadsAs line (Found u (length line))) is reads
reads-request line t (Err bad.Syntax) reads is = absurd is
reads-request line t (Err bad.Size) reads is = absurd is
reads-request line t (Err bad.Shape) reads is = (t, reads, is)
reads-request line t (Err bad.NoMemory) reads is = tt
