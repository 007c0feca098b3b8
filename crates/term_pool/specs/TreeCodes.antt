-- The codes of trees and pools, by which the logic tells two of them apart.
use Rattle.std.proofs.Common.{◌≡◌, ℕ, List, ap, refl}
use Rattle.std.specs.Prelude.{ℤ}
use Rattle.std.specs.Coded.{Coded, code_by, coded_ℕ, coded_ℤ, coded_list, coded×}
use base.Stored.{Gv, gnil, gnum, gcons}
use Rattle.data_theory.specs.declared.ids.VarId.{VarId}
use Rattle.data_theory.specs.declared.ids.SortId.{SortId}
use Rattle.data_theory.specs.declared.ids.FunId.{FunId}
use Rattle.data_theory.specs.IdTrees.{Tree, Trees, variable, numeral, function, none, more}
use Rattle.term_pool.specs.Pools.{PoolContents}

mutual
  pub code_tree : Tree → Gv
  code_tree (variable v) = gcons (gnum 0) (gnum v.0)
  code_tree (numeral s z) = gcons (gnum 1) (gcons (gnum s.0) (coded_ℤ.code z))
  code_tree (function f ts) = gcons (gnum 2) (gcons (gnum f.0) (code_trees ts))

  pub code_trees : Trees → Gv
  code_trees none = gnil
  code_trees (more t ts) = gcons (code_tree t) (code_trees ts)

variable_named : (v w : VarId) → v.0 ≡ w.0 → variable v ≡ variable w
variable_named v w e = ap (λ (n : ℕ). variable (record { 0 = n })) e

numeral_named : (s t : SortId) (x y : ℤ) → s.0 ≡ t.0 → x ≡ y → numeral s x ≡ numeral t y
numeral_named s t x y e h = λ i. numeral (record { 0 = e i }) (h i)

function_named : (f g : FunId) (ts us : Trees) → f.0 ≡ g.0 → ts ≡ us → function f ts ≡ function g us
function_named f g ts us e h = λ i. function (record { 0 = e i }) (h i)

mutual
  unfolding code_tree

  pub code_tree-inj : (t u : Tree) → code_tree t ≡ code_tree u → t ≡ u
  code_tree-inj (variable v) (variable w) e = let numbers : v.0 ≡ w.0 = cc in variable_named v w numbers
  code_tree-inj (numeral s x) (numeral t y) e =
      let same : x ≡ y = let coded : coded_ℤ.code x ≡ coded_ℤ.code y = cc in coded_ℤ.inj x y coded in
      let sorts : s.0 ≡ t.0 = cc in
      numeral_named s t x y sorts same
  code_tree-inj (function f ts) (function g us) e =
      let same : ts ≡ us = let coded : code_trees ts ≡ code_trees us = cc in code_trees-inj ts us coded in
      let numbers : f.0 ≡ g.0 = cc in
      function_named f g ts us numbers same
  code_tree-inj (variable v) (numeral t y) e = cc
  code_tree-inj (variable v) (function g us) e = cc
  code_tree-inj (numeral s x) (variable w) e = cc
  code_tree-inj (numeral s x) (function g us) e = cc
  code_tree-inj (function f ts) (variable w) e = cc
  code_tree-inj (function f ts) (numeral t y) e = cc

  code_trees-inj : (ts us : Trees) → code_trees ts ≡ code_trees us → ts ≡ us
  code_trees-inj none none e = λ i. none
  code_trees-inj (more t ts) (more u us) e =
      let first : code_tree t ≡ code_tree u = cc in
      let rest : code_trees ts ≡ code_trees us = cc in
      λ i. more (code_tree-inj t u first i) (code_trees-inj ts us rest i)
  code_trees-inj none (more u us) e = cc
  code_trees-inj (more t ts) none e = cc

abbrev pub coded_tree : Coded Tree
coded_tree = record { code = code_tree; inj = code_tree-inj }

abbrev pub coded_sort : Coded SortId
coded_sort = code_by ℕ coded_ℕ (λ s. s.0) (λ n. record { 0 = n }) (λ _. refl)

abbrev pub coded_fun : Coded FunId
coded_fun = code_by ℕ coded_ℕ (λ f. f.0) (λ n. record { 0 = n }) (λ _. refl)

abbrev pub coded_contents : Coded PoolContents
coded_contents =
    code_by (List Tree × List (SortId × FunId)) (coded× (coded_list coded_tree) (coded_list (coded× coded_sort coded_fun))) (λ t. (t.trees, t.constants)) (λ p. record { trees = p.0; constants = p.1 }) (λ _. refl)
