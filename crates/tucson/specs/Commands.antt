-- Which words ask for which command.
use Rattle.std.specs.Prelude.{◌≡◌, ◌≤◌, ℕ, decimal, codes}
use Rattle.std.specs.Prelude.{Option, Some, None, List, [], ◌∷◌}
use Rattle.tucson.specs.declared.command.Command.{Command}
use Rattle.tucson.specs.declared.command.Command.TheVariants.{Run, Load, Serve, Verify}
use Rattle.tucson.specs.declared.limits.TheConstants.{MOST_AGENTS, MOST_PORT, MOST_START}
use Rattle.tucson.specs.declared.limits.TheConstants.{MOST_WORKERS, USUAL_WORKERS}

-- the word tells this number: it is the number's text, and the number is one from the least to the
-- most
pub record IsNumber (word : List ℕ) (least most n : ℕ) : Type 0 where
  pub text : word ≡ decimal n
  pub some : least ≤ n
  pub few : n ≤ most

-- the words ask for this command; a line for each form of words
abbrev pub Asks : List (List ℕ) → Command → Type 0
Asks (run ∷ []) (Run workers) = (run ≡ codes "run") × (workers ≡ USUAL_WORKERS)
Asks (run ∷ option ∷ count ∷ []) (Run workers) =
    (run ≡ codes "run") × (option ≡ codes "--workers")
    × IsNumber count 1 MOST_WORKERS workers
Asks (load ∷ count ∷ seed ∷ []) (Load agents start) =
    (load ≡ codes "load") × IsNumber count 1 MOST_AGENTS agents
    × IsNumber seed 0 MOST_START start
Asks (serve ∷ word ∷ []) (Serve port) =
    (serve ≡ codes "serve") × IsNumber word 1 MOST_PORT port
Asks (verify ∷ []) Verify = verify ≡ codes "verify"
Asks words command = ⊥

-- the words ask for this command, or for none
abbrev pub IsCommandOf : List (List ℕ) → Option Command → Type 0
IsCommandOf words (Some command) = Asks words command
IsCommandOf words None = (command : Command) → Asks words command → ⊥
