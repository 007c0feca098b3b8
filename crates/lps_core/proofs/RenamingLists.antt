-- Variables with the terms of others.
use Rattle.std.proofs.Common.{◌≡◌, ◌<◌, ◌≤◌, ◌+◌, ◌==◌, ℕ, List, [], ◌∷◌, ◌++◌, map, take, length, get_or, refl, sym, ap, ap₂, ◌∙◌, subst, arith, cond}
use Rattle.std.proofs.lemmas.List.{map-append, take_more, take_all}
use Rattle.std.proofs.lemmas.List.Elements.{All-nil, All-push}
use Rattle.data_theory.specs.declared.ids.VarId.{VarId}
use Rattle.data_theory.specs.declared.ids.TermId.{TermId}
use Rattle.data_theory.specs.IdTrees.{Tree, variable}
use Rattle.term_pool.specs.HeadTrees.{tree_at, trees_at, IsIn, AreIn}
use Rattle.term_pool.specs.Pools.{Extends}
use Rattle.term_pool.specs.Bindings.{listed, listed_terms}
use Rattle.lps_core.proofs.PoolTrees.{extends_itself, extends_on, trees_kept, all_in_kept}
use Rattle.lps_core.specs.TreeSummands.{bound_tree, renaming_tree}

abbrev listed_variables : List (VarId × TermId) → List VarId
listed_variables by = map (λ p. p.0) by

pub record IsMoving (ts : List Tree) (params place : List VarId) (i : ℕ) (us : List Tree) (by : List (VarId × TermId)) : Type 0 where
  pub kept : Extends ts us
  pub within : AreIn us (listed_terms by)
  pub variables : map (λ p. p.0) by ≡ take i params
  pub trees : trees_at us (listed_terms by) ≡ map variable (take i place)

pub moving_none : (ts : List Tree) (params place : List VarId) → IsMoving ts params place 0 ts []
moving_none ts params place = record { kept = extends_itself ts; within = All-nil (IsIn ts); variables = refl; trees = refl }

pub moving_more : (ts : List Tree) (params place : List VarId) (i : ℕ) (us : List Tree) (by : List (VarId × TermId)) (d : VarId) → IsMoving ts params place i us by → i < length params → length place ≡ length params → (vs : List Tree) (id : TermId) → Extends us vs
    → tree_at vs id ≡ variable (get_or place i d) → IsIn vs id → IsMoving ts params place (i + 1) vs (by ++ (get_or params i d, id) ∷ [])
moving_more ts params place i us by d m l e vs id x t w =
    let split : listed_terms (by ++ (get_or params i d, id) ∷ []) ≡ listed_terms by ++ id ∷ [] = map-append (λ p. p.1) by ((get_or params i d, id) ∷ []) in
    record {
      kept = extends_on ts us vs m.kept x;
      within = subst (λ z. AreIn vs z) (sym split) (All-push (IsIn vs) (listed_terms by) id (all_in_kept us vs (listed_terms by) x m.within) w);
      variables = map-append (λ p. p.0) by ((get_or params i d, id) ∷ []) ∙ ap (λ z. z ++ get_or params i d ∷ []) m.variables ∙ sym (take_more params i d l);
      trees =
          ap (trees_at vs) split
          ∙ map-append (tree_at vs) (listed_terms by) (id ∷ [])
          ∙ ap₂ (λ zs z. zs ++ z ∷ []) (trees_kept us vs (listed_terms by) x m.within ∙ m.trees) t
          ∙ sym (map-append variable (take i place) (get_or place i d ∷ []))
          ∙ ap (map variable) (sym (take_more place i d (omega (arith, l, e))));
    }

listed_bound : (ts : List Tree) (by : List (VarId × TermId)) (v : VarId) → listed ts by v ≡ bound_tree (listed_variables by) (trees_at ts (listed_terms by)) v
listed_bound ts [] v = refl
listed_bound ts (p ∷ ps) v = ap (λ t. cond (p.0.0 == v.0) (tree_at ts p.1) t) (listed_bound ts ps v)

pub moving_all : (ts : List Tree) (params place : List VarId) (i : ℕ) (us : List Tree) (by : List (VarId × TermId)) → IsMoving ts params place i us by → length params ≤ i → length place ≡ length params → (v : VarId) → listed us by v ≡ renaming_tree params place v
moving_all ts params place i us by m l e v =
    listed_bound us by v
    ∙ ap₂ (λ xs zs. bound_tree xs zs v) (m.variables ∙ take_all i params l) (m.trees ∙ ap (map variable) (take_all i place (omega (arith, l, e))))
