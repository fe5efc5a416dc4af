-- A text that is a heading and one line for each element of a list, handed on line by line.
use Rattle.std.proofs.Common.{◌≡◌, ℕ, zero, suc, ◌+◌, ◌<◌, List, [], ◌∷◌, ◌++◌, Result, Ok, Err, take, drop, length, get_or, ap, arith, refl, sym, subst, ◌∙◌, append-nil, append_assoc, take-append-drop}
use Rattle.std.specs.List.{flat_map}
use Rattle.std.proofs.lemmas.Grind.{flat_map-append}
use Rattle.tc_io.specs.declared.sinks.SinkFault.{SinkFault}
use Rattle.tc_lists.proofs.Parts.{take_read}
use Rattle.tc_io.specs.Flow.{Flow, HandsOn}
use Rattle.tc_io.specs.Sinks.{SinkState}
use Rattle.tc_io.specs.declared.sinks.SinkFault.TheVariants.{NoMemory}
use Rattle.tc_io.proofs.Flows.{amid, both, both_done, kept_first, no_memory}

-- a text was printed behind what is kept, and pieces of that were written
pub printed : (text kept after : List ℕ) (sink : SinkState) (new : Flow) (result : Result (Unit {0}) SinkFault)
    → after ≡ kept ++ text → HandsOn [] (record { sink = sink; kept = after }) new result
    → HandsOn text (record { sink = sink; kept = kept }) new result
printed text kept after sink new result is then =
    kept_first text (record { sink = sink; kept = kept }) new result
    (subst (λ bytes. HandsOn [] (record { sink = sink; kept = bytes }) new result) is then)

-- there was no memory to print a text
pub unprinted : (text kept after : List ℕ) (sink : SinkState) → after ≡ kept
    → HandsOn text (record { sink = sink; kept = kept }) (record { sink = sink; kept = after }) (Err NoMemory)
unprinted text kept after sink is =
    subst (λ bytes. HandsOn text (record { sink = sink; kept = kept }) (record { sink = sink; kept = bytes }) (Err NoMemory))
    (sym is) (no_memory text (record { sink = sink; kept = kept }))

-- the same, as it is told
pub unprinted_as : (text kept after : List ℕ) (sink : SinkState) (told : Result (Unit {0}) SinkFault) → told ≡ Err NoMemory → after ≡ kept
    → HandsOn text (record { sink = sink; kept = kept }) (record { sink = sink; kept = after }) told
unprinted_as text kept after sink told is same =
    subst (HandsOn text (record { sink = sink; kept = kept }) (record { sink = sink; kept = after })) (sym is) (unprinted text kept after sink same)

-- what is read within a list, whatever is read outside it
pub same-read : {X : Type 0} (xs : List X) (i : ℕ) (d e : X) → i < length xs → get_or xs i d ≡ get_or xs i e
same-read [] i d e within = absurd (omega (arith, within))
same-read (x ∷ xs) zero d e within = refl
same-read (x ∷ xs) (suc i) d e within = same-read xs i d e (omega (arith, within))

module _ {X : Type 0} (heading : List ℕ) (line : X → List ℕ) (xs : List X) where
  -- the heading and the lines of the first elements
  abbrev pub begun : ℕ → List ℕ
  begun i = heading ++ flat_map line (take i xs)

  -- the line of one element more
  begun-next : (i : ℕ) (x : X) → i < length xs → x ≡ get_or xs i x → begun i ++ line x ≡ begun (i + 1)
  begun-next i x within is =
      append_assoc heading (flat_map line (take i xs)) (line x)
      ∙ ap (λ l. heading ++ (flat_map line (take i xs) ++ l)) (sym (append-nil (line x)))
      ∙ ap (λ l. heading ++ l) (sym (flat_map-append line (take i xs) (x ∷ [])))
      ∙ ap (λ l. heading ++ flat_map line l) (sym (take_read xs i x within is))

  -- what is begun is a front of the whole
  begun-whole : (i : ℕ) → begun i ++ flat_map line (drop i xs) ≡ heading ++ flat_map line xs
  begun-whole i =
      append_assoc heading (flat_map line (take i xs)) (flat_map line (drop i xs))
      ∙ ap (λ l. heading ++ l) (sym (flat_map-append line (take i xs) (drop i xs)) ∙ ap (flat_map line) (take-append-drop i xs))

  -- one more line was handed on
  pub line-handed : (i : ℕ) (x : X) (old mid new : Flow) (result : Result (Unit {0}) SinkFault) → i < length xs
      → x ≡ get_or xs i x → result ≡ Ok tt → HandsOn (begun i) old mid (Ok tt) → HandsOn (line x) mid new result
      → HandsOn (begun (i + 1)) old new (Ok tt)
  line-handed i x old mid new result within is done first second =
      subst (λ text. HandsOn text old new (Ok tt)) (begun-next i x within is)
      (both_done (begun i) (line x) old mid new result done first second)

  -- a fault came amid a line
  pub line-amid : (i : ℕ) (x : X) (old mid new : Flow) (result told : Result (Unit {0}) SinkFault) (fault : SinkFault)
      → i < length xs → x ≡ get_or xs i x → result ≡ Err fault → told ≡ Err fault
      → HandsOn (begun i) old mid (Ok tt) → HandsOn (line x) mid new result
      → HandsOn (heading ++ flat_map line xs) old new told
  line-amid i x old mid new result told fault within is was told_is first second =
      subst (λ text. HandsOn text old new told)
      (ap (λ l. l ++ flat_map line (drop (i + 1) xs)) (begun-next i x within is) ∙ begun-whole (i + 1))
      (amid (begun i ++ line x) (flat_map line (drop (i + 1) xs)) old new result told fault was told_is
      (both (begun i) (line x) old mid new result first second))
