-- Variables with trees of others, to be put in.
use Rattle.std.proofs.Common.{◌≡◌, ◌<◌, ◌≤◌, ◌+◌, ◌==◌, ℕ, zero, suc, List, [], ◌∷◌, ◌++◌, map, take, length, get_or, refl, sym, ap, ap₂, ◌∙◌, subst, arith, cond}
use Rattle.std.proofs.lemmas.List.{map-append, take_more, take_all}
use Rattle.std.proofs.lemmas.List.Elements.{All-nil, All-push}
use Rattle.data_theory.specs.declared.ids.VarId.{VarId}
use Rattle.data_theory.specs.declared.ids.TermId.{TermId}
use Rattle.data_theory.specs.IdTrees.{Tree}
use Rattle.term_pool.specs.HeadTrees.{tree_at, trees_at, IsIn, AreIn}
use Rattle.term_pool.specs.Pools.{Extends}
use Rattle.term_pool.specs.Bindings.{listed, listed_terms}
use Rattle.lps_core.proofs.PoolTrees.{extends_itself, extends_on, trees_kept, all_in_kept}
use Rattle.lps_core.specs.TreeSummands.{bound_tree}

pub record IsMovingTo (f : ℕ → Tree) (ts : List Tree) (params : List VarId) (place : List ℕ) (i : ℕ) (us : List Tree) (by : List (VarId × TermId)) : Type 0 where
  pub kept : Extends ts us
  pub within : AreIn us (listed_terms by)
  pub variables : map (λ p. p.0) by ≡ take i params
  pub trees : trees_at us (listed_terms by) ≡ map f (take i place)

pub moving_none : (f : ℕ → Tree) (ts : List Tree) (params : List VarId) (place : List ℕ) → IsMovingTo f ts params place 0 ts []
moving_none f ts params place = record { kept = extends_itself ts; within = All-nil (IsIn ts); variables = refl; trees = refl }

pub moving_more : (f : ℕ → Tree) (ts : List Tree) (params : List VarId) (place : List ℕ) (i : ℕ) (us : List Tree) (by : List (VarId × TermId)) (d : VarId) (e : ℕ) → IsMovingTo f ts params place i us by → i < length params → length place ≡ length params
    → (vs : List Tree) (id : TermId) → Extends us vs → tree_at vs id ≡ f (get_or place i e) → IsIn vs id → IsMovingTo f ts params place (i + 1) vs (by ++ (get_or params i d, id) ∷ [])
moving_more f ts params place i us by d e m l long vs id x t w =
    let split : listed_terms (by ++ (get_or params i d, id) ∷ []) ≡ listed_terms by ++ id ∷ [] = map-append (λ p. p.1) by ((get_or params i d, id) ∷ []) in
    record {
      kept = extends_on ts us vs m.kept x;
      within = subst (λ z. AreIn vs z) (sym split) (All-push (IsIn vs) (listed_terms by) id (all_in_kept us vs (listed_terms by) x m.within) w);
      variables = map-append (λ p. p.0) by ((get_or params i d, id) ∷ []) ∙ ap (λ z. z ++ get_or params i d ∷ []) m.variables ∙ sym (take_more params i d l);
      trees =
          ap (trees_at vs) split
          ∙ map-append (tree_at vs) (listed_terms by) (id ∷ [])
          ∙ ap₂ (λ zs z. zs ++ z ∷ []) (trees_kept us vs (listed_terms by) x m.within ∙ m.trees) t
          ∙ sym (map-append f (take i place) (get_or place i e ∷ []))
          ∙ ap (map f) (sym (take_more place i e (omega (arith, l, long))));
    }

listed_bound : (ts : List Tree) (by : List (VarId × TermId)) (v : VarId) → listed ts by v ≡ bound_tree (map (λ p. p.0) by) (trees_at ts (listed_terms by)) v
listed_bound ts [] v = refl
listed_bound ts (p ∷ ps) v = ap (λ t. cond (p.0.0 == v.0) (tree_at ts p.1) t) (listed_bound ts ps v)

pub moving_all : (f : ℕ → Tree) (ts : List Tree) (params : List VarId) (place : List ℕ) (i : ℕ) (us : List Tree) (by : List (VarId × TermId)) → IsMovingTo f ts params place i us by → length params ≤ i → length place ≡ length params
    → (v : VarId) → listed us by v ≡ bound_tree params (map f place) v
moving_all f ts params place i us by m l long v =
    listed_bound us by v ∙ ap₂ (λ xs zs. bound_tree xs zs v) (m.variables ∙ take_all i params l) (m.trees ∙ ap (map f) (take_all i place (omega (arith, l, long))))

pub read_any : {A : Type 0} (xs : List A) (n : ℕ) (d e : A) → n < length xs → get_or xs n d ≡ get_or xs n e
read_any [] n d e l = absurd (omega (arith, l))
read_any (x ∷ xs) zero d e l = refl
read_any (x ∷ xs) (suc n) d e l = read_any xs n d e (omega (arith, l))
