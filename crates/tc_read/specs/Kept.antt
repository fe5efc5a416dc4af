-- A second meaning of the grammar: a term is kept only while it fits and no integer in it is too
-- wide.
use Rattle.std.specs.Prelude.{ℕ, ◌+◌, max, Bool, true, false, ◌&&◌, nat_le, List, []}
use Rattle.std.specs.Prelude.{◌∷◌, Option, Some, None}
use Rattle.tc_term.specs.Tree.{Tree, Compound, nodes, depth, name_bytes}
use Rattle.tc_term.specs.Grammar.{Meaning}
use Rattle.tc_term.specs.Limits.{most_depth, most_name_bytes, most_nodes}
use Rattle.tc_term.specs.Faults.{Reading, reading, trees}

-- what is kept of a part of a text: a term that fits; that it doesn't fit; or the place of the
-- first integer too wide
pub data Kept : Type 0 where
  Small : Tree → Kept
  Large : Kept
  Wide : ℕ → Kept

-- what is kept of arguments: all their terms; that they fit into no term; or the place of the first
-- integer too wide
pub data Parts : Type 0 where
  Whole : List Tree → Parts
  Oversized : Parts
  Wide_at : ℕ → Parts

abbrev pub all_nodes : List Tree → ℕ
all_nodes [] = 0
all_nodes (t ∷ ts) = nodes t + all_nodes ts

abbrev pub all_depth : List Tree → ℕ
all_depth [] = 0
all_depth (t ∷ ts) = max (depth t) (all_depth ts)

abbrev pub all_name_bytes : List Tree → ℕ
all_name_bytes [] = 0
all_name_bytes (t ∷ ts) = name_bytes t + all_name_bytes ts

abbrev pub fits_by : ℕ → ℕ → ℕ → Bool
fits_by a b c =
    nat_le a most_nodes && (nat_le b most_depth && nat_le c most_name_bytes)

abbrev pub fits : Tree → Bool
fits t = fits_by (nodes t) (depth t) (name_bytes t)

-- a compound with these arguments may fit, if its name is short
abbrev pub fits_all : List Tree → Bool
fits_all ts = fits_by (all_nodes ts + 1) (all_depth ts + 1) (all_name_bytes ts)

abbrev pub small_if : Bool → Tree → Kept
small_if true t = Small t
small_if false t = Large

abbrev pub kept_by : Option ℕ → Tree → Kept
kept_by (Some place) t = Wide place
kept_by None t = small_if (fits t) t

abbrev pub kept_of : Reading → Kept
kept_of r = kept_by r.wide r.term

abbrev pub whole_if : Bool → List Tree → Parts
whole_if true ts = Whole ts
whole_if false ts = Oversized

-- an argument before others
abbrev pub joined : Kept → Parts → Parts
joined (Wide place) parts = Wide_at place
joined Large (Wide_at place) = Wide_at place
joined Large (Whole ts) = Oversized
joined Large Oversized = Oversized
joined (Small t) (Whole ts) = whole_if (fits_all (t ∷ ts)) (t ∷ ts)
joined (Small t) Oversized = Oversized
joined (Small t) (Wide_at place) = Wide_at place

abbrev pub parts : List Kept → Parts
parts [] = Whole []
parts (k ∷ ks) = joined k (parts ks)

abbrev pub whole : List ℕ → List Tree → Kept
whole name [] = Large
whole name (t ∷ ts) = small_if (fits (Compound name (trees t ts))) (Compound name (trees t ts))

abbrev pub finished : List ℕ → Parts → Kept
finished name (Whole ts) = whole name ts
finished name Oversized = Large
finished name (Wide_at place) = Wide place

abbrev pub kept : Meaning Kept
kept = record {
  variable = λ n. kept_of (reading.variable n);
  number = λ negative n place. kept_of (reading.number negative n place);
  atom = λ name. kept_of (reading.atom name);
  compound = λ name k more. finished name (parts (k ∷ more));
}
