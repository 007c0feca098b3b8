-- The encoding over the trees of a pool.
use Rattle.std.specs.Prelude.{◌≡◌, ◌≤◌, ◌-◌, ℕ, List, [], ◌∷◌, ◌++◌, map, length, get_or, Option, Some, None, Vec}
use Rattle.std.specs.List.{All}
use Rattle.std.specs.Global.{Global}
use Rattle.data_theory.specs.declared.ids.VarId.{VarId}
use Rattle.data_theory.specs.declared.ids.TermId.{TermId}
use Rattle.data_theory.specs.IdTrees.{Tree, variable, put_tree}
use Rattle.term_pool.specs.HeadTrees.{tree_at, trees_at, IsIn, AreIn}
use Rattle.greibach.specs.PlainForms.{PlainFormSummand}
use Rattle.lps_core.specs.NumberTrees.{number_tree, equals_number}
use Rattle.lps_core.specs.TreeSummands.{TreeSummand, bound_tree, trees_of_label, put_actions, IsActionIn}
use Rattle.lps_core.specs.TreeConditions.{tree_parts, trees_without_true, conjunction_tree}
use Rattle.regular_encoder.specs.declared.layouts.Layout.{Layout}

pub record PlainLayout : Type 0 where
  pub columns : List VarId
  pub places : List (List VarId)
  pub control : Option VarId

abbrev pub plain_place : Vec VarId Global → List VarId
plain_place place = place.items

abbrev pub plain_layout : Layout → PlainLayout
plain_layout l = record { columns = l.columns.items; places = map plain_place l.places.items; control = l.control }

-- the columns of an equation's parameters; equations count from 1
abbrev pub place_at : PlainLayout → ℕ → List VarId
place_at l i = get_or l.places (i - 1) []

-- ---- the control number
abbrev pub tree_control_parts : Option VarId → ℕ → List Tree
tree_control_parts None i = []
tree_control_parts (Some v) i = equals_number (variable v) i ∷ []

abbrev pub tree_control_of : Option VarId → ℕ → List Tree
tree_control_of None i = []
tree_control_of (Some v) i = number_tree i ∷ []

-- ---- a summand
abbrev pub tree_next : PlainLayout → (VarId → Tree) → ℕ → List Tree → List Tree
tree_next l e i us = tree_control_of l.control i ++ map (bound_tree (place_at l i) (map (put_tree e) us)) l.columns

abbrev pub tree_encoded_next : PlainLayout → (VarId → Tree) → List Tree → List (ℕ × List TermId) → Option (List Tree)
tree_encoded_next l e ts [] = None
tree_encoded_next l e ts (c ∷ cs) = Some (tree_next l e c.0 (trees_at ts c.1))

abbrev pub tree_encoded : PlainLayout → ℕ → (VarId → Tree) → List Tree → PlainFormSummand → TreeSummand
tree_encoded l i e ts s = record {
  sums = s.sums;
  condition = conjunction_tree (tree_control_parts l.control i ++ trees_without_true (tree_parts (put_tree e (tree_at ts s.condition))));
  label = put_actions e (trees_of_label ts s.label);
  next = tree_encoded_next l e ts s.next;
}

-- ---- what a pool and a layout have
pub record IsCallIn (ts : List Tree) (l : PlainLayout) (c : ℕ × List TermId) : Type 0 where
  pub from_one : 1 ≤ c.0
  pub within : c.0 ≤ length l.places
  pub args : AreIn ts c.1
  pub long : length (place_at l c.0) ≡ length c.1

pub record IsFormSummandIn (ts : List Tree) (l : PlainLayout) (s : PlainFormSummand) : Type 0 where
  pub condition : IsIn ts s.condition
  pub label : All (IsActionIn ts) s.label
  pub next : All (IsCallIn ts l) s.next
