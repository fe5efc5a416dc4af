-- Clauses at their places in a text, whether or not those before them are read.
use Rattle.std.specs.Prelude.{◌≡◌, ◌<◌, ◌≤◌, ℕ, All, IsTrue, List, length}
use Rattle.tc_term.specs.Faults.{Found}
use Rattle.tc_term.specs.NameBytes.{has_read_names}
use Rattle.tc_term.specs.Tree.{Tree}
use Rattle.tc_term.specs.Variables.{IsPattern, var_bound}
use Rattle.tc_read.specs.Clauses.{AnswersAt, LeadsTo}
use Rattle.tc_config.specs.Configurations.{Configuration, nothing}
use Rattle.tc_config.specs.Drafts.{IsDraft, IsOfClauses, config_of}
use Rattle.tc_config.specs.Forms.{IsFormed}
use Rattle.tc_config.specs.Texts.{config_language}
use Rattle.tc_config.specs.declared.pieces.Piece.{Piece}
use Rattle.tc_config.specs.declared.progress.Progress.{Progress}

-- the clause that the reader finds in the text at the piece's place has its number of variables and
-- its form, and ends where the piece does
pub record IsPieceOf (text : List ℕ) (p : Piece) : Type 0 where
  pub term : Tree
  pub found : AnswersAt text p.from (Found term p.behind)
  pub further : p.from < p.behind
  pub inside : p.behind ≤ length text
  pub pattern : IsPattern term
  pub names : IsTrue (has_read_names term)
  pub vars : p.vars ≡ var_bound term
  pub formed : IsFormed term p.form

abbrev pub ArePiecesOf : List ℕ → List Piece → Type 0
ArePiecesOf text pieces = All (IsPieceOf text) pieces

-- the text up to a place is so many clauses, and this is what they set up
pub record IsReadTo (text : List ℕ) (from count : ℕ) (c : Configuration) : Type 0 where
  pub terms : List Tree
  pub clauses : LeadsTo config_language text 0 nothing terms from c
  pub counted : count ≡ length terms
  pub few : count ≤ from
  pub inside : from ≤ length text
  pub small : IsOfClauses count c

-- the text is read so far, and the draft is what its clauses set up
pub record IsProgressIn (text : List ℕ) (p : Progress) : Type 0 where
  pub draft : IsDraft p.draft
  pub read : IsReadTo text p.from p.count (config_of p.draft)
