-- Terms in which no variable stands twice, walked from the last variable to the first.
use Rattle.std.specs.Prelude.{◌≡◌, ◌↔◌, ℕ, List, [], ◌∷◌, ◌++◌}
use Rattle.std.specs.List.{All, Contains}
use Rattle.data_theory.specs.declared.ids.TermId.{TermId}
use Rattle.data_theory.specs.declared.ids.VarId.{VarId}
use Rattle.data_theory.specs.Environments.{AreDistinct}
use Rattle.data_theory.specs.IdTrees.{Tree, Trees, variable, numeral, function, none, more}
use Rattle.term_pool.specs.HeadTrees.{tree_at, IsIn}

-- the variables of a tree, in their order
abbrev mutual
  pub variables_in : Tree → List ℕ
  variables_in (variable v) = v.0 ∷ []
  variables_in (numeral s z) = []
  variables_in (function f ts) = variables_in_all ts

  pub variables_in_all : Trees → List ℕ
  variables_in_all none = []
  variables_in_all (more t ts) = variables_in t ++ variables_in_all ts

-- those of terms one after another
abbrev pub variables_in_terms : List Tree → List TermId → List ℕ
variables_in_terms ts [] = []
variables_in_terms ts (t ∷ ids) = variables_in (tree_at ts t) ++ variables_in_terms ts ids

-- The variables of the term are those of the terms that wait, and then those that were seen, which differ.
pub record IsWalked (ts : List Tree) (term : TermId) (waiting : List TermId) (seen : List VarId) : Type 0 where
  pub behind : List ℕ
  pub whole : variables_in (tree_at ts term) ≡ variables_in_terms ts waiting ++ behind
  pub differ : AreDistinct behind
  pub seen_are : (v : VarId) → Contains seen v ↔ Contains behind v.0
  pub within : All (IsIn ts) waiting
