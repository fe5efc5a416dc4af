-- A centre as its callers see it: what it began with, and its history.
use Rattle.std.specs.Prelude.{ℕ, List, []}
use Rattle.tc_term.specs.Tree.{Tree}
use Rattle.tc_model.specs.Reactions.{Rule}
use Rattle.tc_model.specs.State.{State, Origin, origin_from, opening, after_history}
use Rattle.tc_model.specs.Entries.{weight, pending_after, IsFull}
use Rattle.tc_model.specs.declared.entries.Entry.{Entry}

-- what the centre began with, and its history
pub record Centre : Type 0 where
  pub origin : Origin
  pub history : List Entry

-- a centre that begins with these and has served nothing
abbrev pub centre_from : List ℕ → List (List ℕ) → ℕ → List Tree → List Rule → Centre
centre_from name agents budget tuples clauses = record {
  origin = origin_from name agents budget tuples clauses;
  history = [];
}

-- the state to which the history has led
abbrev pub state_of : Centre → State
state_of centre = after_history (opening centre.origin) centre.history

-- what the history weighs
abbrev pub weight_in : Centre → ℕ
weight_in centre = weight centre.history

-- how many requests wait
abbrev pub waiting_in : Centre → ℕ
waiting_in centre = pending_after centre.origin centre.history

-- another call could make the history too heavy
abbrev pub IsFullCentre : Centre → Type 0
IsFullCentre centre = IsFull centre.origin centre.history
