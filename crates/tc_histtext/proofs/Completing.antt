-- Each stage can be completed by headings and an end.
use Rattle.std.proofs.Common.{◌≡◌, ℕ, suc, Bool, false, List, [], ◌∷◌, ◌++◌, length, All, refl, ap}
use Rattle.std.proofs.lemmas.List.Elements.{All-cons, All-head, All-nil, All-tail}
use Rattle.tc_histline.specs.declared.versions.Version.{Version}
use Rattle.tc_histline.specs.declared.versions.Version.TheVariants.{Two}
use Rattle.tc_histtext.specs.Machine.{Stage, Start, Before, Within, Reacting, Telling, Done, AreLogs, AreHistories, Rest}
use Rattle.tc_histtext.specs.ReadTexts.{histories_lines, logs_lines}
use Rattle.tc_histline.specs.declared.lines.Line.{Line}
use Rattle.tc_histline.specs.declared.lines.Line.TheVariants.{First, Centre, Agent, End}
use Rattle.tc_histtext.proofs.Machine.{no_entry, no_reaction, no_row}

-- so many empty lists
abbrev nothing_for : {X : Type 0} → List (List ℕ) → List (List X)
nothing_for [] = []
nothing_for (n ∷ ns) = [] ∷ nothing_for ns

nothing-length : (X : Type 0) (ns : List (List ℕ)) → length (nothing_for {X = X} ns) ≡ length ns
nothing-length X [] = refl
nothing-length X (n ∷ ns) = ap suc (nothing-length X ns)

module _ (good : Line → Type 0) (first : (v : Version) → good (First v)) (end : (b : Bool) → good (End b)) where
  logs-good : (ns : List (List ℕ)) → All (λ n. good (Agent n)) ns → All good (logs_lines ns (nothing_for ns) ++ End false ∷ [])
  logs-good [] all = All-cons good (End false) [] (end false) (All-nil good)
  logs-good (n ∷ ns) all =
      All-cons good (Agent n) (logs_lines ns (nothing_for ns) ++ End false ∷ [])
      (All-head (λ m. good (Agent m)) n ns all) (logs-good ns (All-tail (λ m. good (Agent m)) n ns all))

  histories-good : (ns : List (List ℕ)) (rest : List Line) → All (λ n. good (Centre n)) ns → All good rest → All good (histories_lines ns (nothing_for ns) ++ rest)
  histories-good [] rest all more = more
  histories-good (n ∷ ns) rest all more =
      All-cons good (Centre n) (histories_lines ns (nothing_for ns) ++ rest)
      (All-head (λ m. good (Centre m)) n ns all) (histories-good ns rest (All-tail (λ m. good (Centre m)) n ns all) more)

  module _ (centres agents : List (List ℕ)) where
    -- good lines that a text may have from a stage on
    pub record Completes (s : Stage) : Type 0 where
      pub lines : List Line
      pub rest : Rest centres agents s lines
      pub are : All good lines

    logs : (left : List (List ℕ)) → All (λ n. good (Agent n)) left → (ls : List Line) × AreLogs centres agents left ls × All good ls
    logs left all = (
      logs_lines left (nothing_for left) ++ End false ∷ [],
      record { logs = nothing_for left; end = false; whole = nothing-length _ left; lines = refl },
      logs-good left all,
    )

    pub histories : (left : List (List ℕ)) → All (λ n. good (Centre n)) left → All (λ n. good (Agent n)) agents → (ls : List Line) × AreHistories centres agents left ls × All good ls
    histories left all more =
        let rest = logs agents more in (
          histories_lines left (nothing_for left) ++ rest.0,
          record { histories = nothing_for left; whole = nothing-length _ left; rest = rest.0; logs = rest.1; lines = refl },
          histories-good left rest.0 all rest.2,
        )

    -- the names of which a heading is still due
    abbrev pub AreDue : Stage → Type 0
    AreDue Start = All (λ n. good (Centre n)) centres × All (λ n. good (Agent n)) agents
    AreDue (Before left) = All (λ n. good (Centre n)) left × All (λ n. good (Agent n)) agents
    AreDue (Within left) = All (λ n. good (Centre n)) left × All (λ n. good (Agent n)) agents
    AreDue (Reacting left) = All (λ n. good (Centre n)) left × All (λ n. good (Agent n)) agents
    AreDue (Telling left) = All (λ n. good (Agent n)) left
    AreDue Done = Unit {0}

    pub completes : (s : Stage) → AreDue s → Completes s
    completes Start due =
        let hs = histories centres due.0 due.1 in
        record {
          lines = First Two ∷ hs.0;
          rest = record { version = Two; rest = hs.0; histories = hs.1; lines = refl };
          are = All-cons good (First Two) hs.0 (first Two) hs.2;
        }
    completes (Before left) due = let hs = histories left due.0 due.1 in record { lines = hs.0; rest = hs.1; are = hs.2 }
    completes (Within left) due = let hs = histories left due.0 due.1 in record { lines = hs.0; rest = no_entry centres agents left hs.0 hs.1; are = hs.2 }
    completes (Reacting left) due =
        let hs = histories left due.0 due.1 in
        record { lines = hs.0; rest = no_reaction centres agents left hs.0 (no_entry centres agents left hs.0 hs.1); are = hs.2 }
    completes (Telling left) due = let ls = logs left due in record { lines = ls.0; rest = no_row centres agents left ls.0 ls.1; are = ls.2 }
    completes Done due = record { lines = []; rest = refl; are = All-nil good }
