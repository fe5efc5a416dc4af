-- What is drawn: the words of a generator, and the centres that they name.
use Rattle.std.specs.Prelude.{ℕ, ◌+◌, ◌*◌, ◌%◌, ◌==◌, List, count_by}
use Rattle.std.specs.List.{slice_range}
use Rattle.rand_core.specs.Steps.{first_words}
use Rattle.rand_pcg.specs.Lcg.{started, increment_of}
use Rattle.rand_pcg.specs.Pcg.{multiplier_64, pcg32}
use Rattle.tc_load.specs.declared.limits.TheConstants.{CENTRES, SCRIPTS, STREAM}

-- so many words of the generator that starts at this number, on the stream of the workload
abbrev pub words_of : ℕ → ℕ → List ℕ
words_of count start =
    first_words pcg32 count (started 64 multiplier_64 start (increment_of 64 STREAM))

-- the centre that a word names by its low two bits
abbrev pub centre_of : ℕ → ℕ
centre_of word = word % CENTRES

-- how many of the words name this centre
abbrev pub drawn_in : ℕ → List ℕ → ℕ
drawn_in centre words = count_by (λ word. centre_of word == centre) words

-- the words of an agent: as many as it has scripts, behind those of the agents before it
abbrev pub words_of_agent : List ℕ → ℕ → List ℕ
words_of_agent words agent = slice_range words (SCRIPTS * agent) (SCRIPTS * agent + SCRIPTS)
