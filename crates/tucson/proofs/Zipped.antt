-- A text that is made of one part for each two elements of two lists, handed on part by part.
use Rattle.std.proofs.Common.{◌≡◌, ◌∙◌, ◌+◌, ◌<◌, ◌≤◌, ℕ, zero, suc, List, [], ◌∷◌, ◌++◌, Some, Result, Ok, Err, Vec, Global, length, map, take, drop, get_or, sym, subst, ap, ap₂, refl, arith, append-nil, append_assoc}
use Rattle.std.specs.Prelude.{slice_get}
use Rattle.std.proofs.lemmas.Option.{same_Some}
use Rattle.tc_io.specs.declared.sinks.SinkFault.{SinkFault}
use Rattle.tc_model.specs.declared.entries.Entry.{Entry}
use Rattle.tc_histtext.specs.Text.{history_text, histories_text, log_text, logs_text}
use Rattle.tc_histline.specs.declared.versions.Version.{Version}
use Rattle.tc_desk.specs.declared.rows.LogRow.{LogRow}
use Rattle.tc_config.specs.declared.configs.AgentConf.{AgentConf}
use Rattle.tc_io.specs.Flow.{Flow, HandsOn}
use Rattle.tc_io.proofs.Flows.{amid, both, both_done}

-- the same text, by another name
pub text_is : (text other : List ℕ) (old new : Flow) (result : Result (Unit {0}) SinkFault) → text ≡ other
    → HandsOn text old new result → HandsOn other old new result
text_is text other old new result is handed = subst (λ t. HandsOn t old new result) is handed

module _ {X Y : Type 0} (part : X → Y → List ℕ) where
  -- the parts of the elements at the same places
  abbrev pub zipped : List X → List Y → List ℕ
  zipped (x ∷ xs) (y ∷ ys) = part x y ++ zipped xs ys
  zipped xs ys = []

  zipped-suc : (xs : List X) (ys : List Y) (i : ℕ) (x : X) (y : Y) → i < length xs → x ≡ get_or xs i x
      → slice_get ys i ≡ Some y → zipped (take i xs) (take i ys) ++ part x y ≡ zipped (take (suc i) xs) (take (suc i) ys)
  zipped-suc [] ys i x y within is there = absurd (omega arith)
  zipped-suc (a ∷ xs) [] i x y within is there = absurd (cc)
  zipped-suc (a ∷ xs) (b ∷ ys) zero x y within is there = ap₂ part is (sym (same_Some b y there)) ∙ sym (append-nil (part a b))
  zipped-suc (a ∷ xs) (b ∷ ys) (suc i) x y within is there =
      append_assoc (part a b) (zipped (take i xs) (take i ys)) (part x y)
      ∙ ap (λ l. part a b ++ l) (zipped-suc xs ys i x y (omega (arith, within)) is there)

  zipped-next : (xs : List X) (ys : List Y) (i : ℕ) (x : X) (y : Y) → i < length xs → x ≡ get_or xs i x
      → slice_get ys i ≡ Some y → zipped (take i xs) (take i ys) ++ part x y ≡ zipped (take (i + 1) xs) (take (i + 1) ys)
  zipped-next xs ys i x y within is there =
      let next : suc i ≡ i + 1 = omega arith in
      zipped-suc xs ys i x y within is there ∙ ap (λ n. zipped (take n xs) (take n ys)) next

  zipped-nil : (xs : List X) → zipped xs [] ≡ []
  zipped-nil [] = refl
  zipped-nil (x ∷ xs) = refl

  zipped-all : (xs : List X) (ys : List Y) (i : ℕ) → length xs ≤ i → zipped (take i xs) (take i ys) ≡ zipped xs ys
  zipped-all [] ys zero end = refl
  zipped-all [] ys (suc i) end = refl
  zipped-all (a ∷ xs) ys zero end = absurd (omega (arith, end))
  zipped-all (a ∷ xs) [] (suc i) end = refl
  zipped-all (a ∷ xs) (b ∷ ys) (suc i) end = ap (λ l. part a b ++ l) (zipped-all xs ys i (omega (arith, end)))

  zipped-split : (xs : List X) (ys : List Y) (i : ℕ) → zipped (take i xs) (take i ys) ++ zipped (drop i xs) (drop i ys) ≡ zipped xs ys
  zipped-split xs ys zero = refl
  zipped-split [] ys (suc i) = refl
  zipped-split (a ∷ xs) [] (suc i) = zipped-nil (drop i xs)
  zipped-split (a ∷ xs) (b ∷ ys) (suc i) =
      append_assoc (part a b) (zipped (take i xs) (take i ys)) (zipped (drop i xs) (drop i ys))
      ∙ ap (λ l. part a b ++ l) (zipped-split xs ys i)

  module _ (xs : List X) (ys : List Y) where
    -- the parts of the first elements
    abbrev pub first : ℕ → List ℕ
    first i = zipped (take i xs) (take i ys)

    -- one more part was handed on
    pub part-handed : (i : ℕ) (x : X) (y : Y) (old mid new : Flow) (result : Result (Unit {0}) SinkFault) → i < length xs
        → x ≡ get_or xs i x → slice_get ys i ≡ Some y → result ≡ Ok tt → HandsOn (first i) old mid (Ok tt)
        → HandsOn (part x y) mid new result → HandsOn (first (i + 1)) old new (Ok tt)
    part-handed i x y old mid new result within is there done begun next =
        subst (λ text. HandsOn text old new (Ok tt)) (zipped-next xs ys i x y within is there)
        (both_done (first i) (part x y) old mid new result done begun next)

    -- a fault came amid a part
    pub part-amid : (i : ℕ) (x : X) (y : Y) (old mid new : Flow) (result told : Result (Unit {0}) SinkFault) (fault : SinkFault)
        → i < length xs → x ≡ get_or xs i x → slice_get ys i ≡ Some y → result ≡ Err fault → told ≡ Err fault
        → HandsOn (first i) old mid (Ok tt) → HandsOn (part x y) mid new result → HandsOn (zipped xs ys) old new told
    part-amid i x y old mid new result told fault within is there was told_is begun next =
        subst (λ text. HandsOn text old new told)
        (ap (λ l. l ++ zipped (drop (i + 1) xs) (drop (i + 1) ys)) (zipped-next xs ys i x y within is there) ∙ zipped-split xs ys (i + 1))
        (amid (first i ++ part x y) (zipped (drop (i + 1) xs) (drop (i + 1) ys)) old new result told fault was told_is
        (both (first i) (part x y) old mid new result begun next))

    -- all parts were handed on
    pub parts-handed : (i : ℕ) (old new : Flow) → length xs ≤ i → HandsOn (first i) old new (Ok tt)
        → HandsOn (zipped xs ys) old new (Ok tt)
    parts-handed i old new end begun =
        subst (λ text. HandsOn text old new (Ok tt)) (zipped-all xs ys i end) begun

-- the texts of histories and of logs
pub histories-zipped : (agents ns : List (List ℕ)) (hs : List (List Entry)) → histories_text agents ns hs ≡ zipped (history_text agents) ns hs
histories-zipped agents [] hs = refl
histories-zipped agents (n ∷ ns) [] = refl
histories-zipped agents (n ∷ ns) (h ∷ hs) = ap (λ l. history_text agents n h ++ l) (histories-zipped agents ns hs)

-- the text of an agent's log
abbrev pub log_of : Version → AgentConf → Vec LogRow Global → List ℕ
log_of v a log = log_text v a.name log.items

pub logs-zipped : (v : Version) (agents : List AgentConf) (logs : List (Vec LogRow Global))
    → logs_text v (map (λ (a : AgentConf). a.name) agents) (map (λ (l : Vec LogRow Global). l.items) logs) ≡ zipped (log_of v) agents logs
logs-zipped v [] logs = refl
logs-zipped v (a ∷ agents) [] = refl
logs-zipped v (a ∷ agents) (l ∷ ls) = ap (λ t. log_of v a l ++ t) (logs-zipped v agents ls)

-- a text that was handed on without a fault, and then another
pub then_more : (text more : List ℕ) (old mid new : Flow) (first result : Result (Unit {0}) SinkFault) → first ≡ Ok tt
    → HandsOn text old mid first → HandsOn more mid new result → HandsOn (text ++ more) old new result
then_more text more old mid new first result done begun next =
    both text more old mid new result (subst (HandsOn text old mid) done begun) next

-- the four parts of a text, behind one another
pub then_last : (a b c d : List ℕ) (old new : Flow) (result : Result (Unit {0}) SinkFault)
    → HandsOn (((a ++ b) ++ c) ++ d) old new result → HandsOn (a ++ (b ++ (c ++ (d ++ [])))) old new result
then_last a b c d old new result handed =
    text_is (((a ++ b) ++ c) ++ d) (a ++ (b ++ (c ++ (d ++ [])))) old new result
    (append_assoc (a ++ b) c d ∙ append_assoc a b (c ++ d) ∙ ap (λ l. a ++ (b ++ (c ++ l))) (sym (append-nil d))) handed
