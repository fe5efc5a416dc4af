-- The configuration of the workload, clause by clause, each with a line break behind it.
use Rattle.std.specs.Prelude.{ℕ, ◌*◌, List, [], ◌∷◌, codes, decimal}
use Rattle.std.specs.List.{flat_map, range_with_len}
use Rattle.tc_lists.specs.Texts.{joined}
use Rattle.tc_load.specs.Words.{centre_of, words_of, words_of_agent}
use Rattle.tc_load.specs.declared.limits.TheConstants.{CENTRES, SCRIPTS}

-- a centre with the count 0, which takes each inc(X) that is put, and puts the next count
abbrev pub centre_text : ℕ → List ℕ
centre_text k =
    joined (
    codes "centre(c" ∷ decimal k ∷ codes ").\n" ∷
    codes "tuple(c" ∷ decimal k ∷ codes ",count(0)).\n" ∷
    codes "spec(c" ∷ decimal k ∷ codes ",reaction(out(inc(X))," ∷
    codes "(in_r(inc(X)),Y is X + 1,out_r(count(Y))))).\n" ∷ [])

-- the role may take and put tuples at a centre
abbrev pub grants_text : ℕ → List ℕ
grants_text k =
    joined (
    codes "grant(r,c" ∷ decimal k ∷ codes ",in).\n" ∷
    codes "grant(r,c" ∷ decimal k ∷ codes ",out).\n" ∷ [])

-- a script of an agent: it takes the count of the centre that the word names, and has it raised
abbrev pub script_text : ℕ → ℕ → List ℕ
script_text agent word =
    joined (
    codes "script(a" ∷ decimal agent ∷
    codes ",[c" ∷ decimal (centre_of word) ∷ codes " ? in(count(X)), c" ∷
    decimal (centre_of word) ∷ codes " ? out(inc(X))]).\n" ∷ [])

-- an agent, and a script for each of its words
abbrev pub agent_text : List ℕ → ℕ → List ℕ
agent_text words agent =
    joined (
    codes "agent(a" ∷ decimal agent ∷ codes ",r).\n" ∷
    flat_map (script_text agent) (words_of_agent words agent) ∷ [])

-- the centres, the role with its grants, and so many agents with these words
abbrev pub workload_text : ℕ → List ℕ → List ℕ
workload_text agents words =
    joined (
    flat_map centre_text (range_with_len 0 CENTRES) ∷
    codes "role(r).\n" ∷
    flat_map grants_text (range_with_len 0 CENTRES) ∷
    flat_map (agent_text words) (range_with_len 0 agents) ∷ [])

-- the workload of so many agents, with the words of the generator that starts at this number
abbrev pub load_text : ℕ → ℕ → List ℕ
load_text agents start = workload_text agents (words_of (SCRIPTS * agents) start)
