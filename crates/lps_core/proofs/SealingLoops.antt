-- The terms of variables, and sealed summands, as loops make them.
use Rattle.std.proofs.Common.{◌≡◌, ◌<◌, ◌≤◌, ◌+◌, ℕ, List, [], ◌∷◌, ◌++◌, map, take, length, get_or, refl, sym, ap, ap₂, ◌∙◌, subst, Some}
use Rattle.std.specs.Prelude.{option_map}
use Rattle.std.specs.List.{All}
use Rattle.std.proofs.lemmas.List.{map-append, take_more, take_all}
use Rattle.std.proofs.lemmas.List.Elements.{All-nil, All-push, All-weaker}
use Rattle.data_theory.specs.declared.ids.VarId.{VarId}
use Rattle.data_theory.specs.declared.ids.TermId.{TermId}
use Rattle.data_theory.specs.IdTrees.{Tree, variable}
use Rattle.term_pool.specs.HeadTrees.{tree_at, trees_at, IsIn, AreIn}
use Rattle.term_pool.specs.Pools.{Extends}
use Rattle.lps_core.specs.declared.linears.Summand.{Summand}
use Rattle.lps_core.specs.PlainLinears.{PlainSummand, plain_summand}
use Rattle.lps_core.specs.TreeConditions.{tree_parts, trees_without_true, conjunction_tree}
use Rattle.lps_core.specs.TreeSummands.{TreeSummand, trees_of_label, trees_of_summand, IsSummandIn}
use Rattle.lps_core.specs.SealedTrees.{phase_tree, sealed_next_trees, sealed_tree, IsSealedSummand}
use Rattle.lps_core.proofs.PoolTrees.{extends_itself, extends_on, tree_kept, trees_kept, all_in_kept, actions_kept}
use Rattle.lps_core.proofs.KeptSummands.{summand_in_kept, summand_kept, summands_kept, next_trees_kept}

-- ---- variables
pub record IsTelling (ts : List Tree) (vars : List VarId) (i : ℕ) (us : List Tree) (made : List TermId) : Type 0 where
  pub kept : Extends ts us
  pub within : AreIn us made
  pub told : trees_at us made ≡ map variable (take i vars)

pub telling_none : (ts : List Tree) (vars : List VarId) → IsTelling ts vars 0 ts []
telling_none ts vars = record { kept = extends_itself ts; within = All-nil (IsIn ts); told = refl }

pub telling_more : (ts : List Tree) (vars : List VarId) (i : ℕ) (us : List Tree) (made : List TermId) (d : VarId) → IsTelling ts vars i us made → i < length vars → (vs : List Tree) (new : TermId) → Extends us vs → IsIn vs new → tree_at vs new ≡ variable (get_or vars i d)
    → IsTelling ts vars (i + 1) vs (made ++ new ∷ [])
telling_more ts vars i us made d p l vs new e w t = record {
  kept = extends_on ts us vs p.kept e;
  within = All-push (IsIn vs) made new (all_in_kept us vs made e p.within) w;
  told =
      map-append (tree_at vs) made (new ∷ [])
      ∙ ap₂ (λ zs z. zs ++ z ∷ []) (trees_kept us vs made e p.within ∙ p.told) t
      ∙ sym (map-append variable (take i vars) (get_or vars i d ∷ []))
      ∙ ap (map variable) (sym (take_more vars i d l));
}

pub telling_all : (ts : List Tree) (vars : List VarId) (i : ℕ) (us : List Tree) (made : List TermId) → IsTelling ts vars i us made → length vars ≤ i → trees_at us made ≡ map variable vars
telling_all ts vars i us made p l = p.told ∙ ap (map variable) (take_all i vars l)

-- one more term
pub one_more_term : (us vs : List Tree) (made : List TermId) (new : TermId) (trees : List Tree) (t : Tree) → Extends us vs → AreIn us made → trees_at us made ≡ trees → tree_at vs new ≡ t → trees_at vs (made ++ new ∷ []) ≡ trees ++ t ∷ []
one_more_term us vs made new trees t e w h k = map-append (tree_at vs) made (new ∷ []) ∙ ap₂ (λ zs z. zs ++ z ∷ []) (trees_kept us vs made e w ∙ h) k

pub one_more_in : (us vs : List Tree) (made : List TermId) (new : TermId) → Extends us vs → AreIn us made → IsIn vs new → AreIn vs (made ++ new ∷ [])
one_more_in us vs made new e w k = All-push (IsIn vs) made new (all_in_kept us vs made e w) k

-- ---- summands
abbrev trees_of_all : List Tree → List Summand → List TreeSummand
trees_of_all ts ss = map (trees_of_summand ts) (map plain_summand ss)

pub record IsSealing (params : List VarId) (v : VarId) (ts : List Tree) (items : List Summand) (i : ℕ) (us : List Tree) (made : List Summand) : Type 0 where
  pub kept : Extends ts us
  pub within : All (IsSummandIn us) (map plain_summand made)
  pub sealed : map (trees_of_summand us) (map plain_summand made) ≡ map (sealed_tree params v) (map (trees_of_summand ts) (map plain_summand (take i items)))

pub sealing_none : (params : List VarId) (v : VarId) (ts : List Tree) (items : List Summand) → IsSealing params v ts items 0 ts []
sealing_none params v ts items = record { kept = extends_itself ts; within = All-nil (IsSummandIn ts); sealed = refl }

pub sealing_more : (params : List VarId) (v : VarId) (ts : List Tree) (items : List Summand) (i : ℕ) (us : List Tree) (made : List Summand) (s : Summand) → IsSealing params v ts items i us made → i < length items → s ≡ get_or items i s
    → IsSummandIn ts (plain_summand s) → (vs : List Tree) (new : Summand) → Extends us vs → IsSummandIn vs (plain_summand new) → IsSealedSummand us vs params v (plain_summand s) (plain_summand new) → IsSealing params v ts items (i + 1) vs (made ++ new ∷ [])
sealing_more params v ts items i us made s p l read old vs new e w h =
    let done = map plain_summand made in
    let front = map plain_summand (take i items) in
    let items_more : map plain_summand (take (i + 1) items) ≡ front ++ plain_summand s ∷ [] = ap (map plain_summand) (take_more items i s l ∙ ap (λ z. take i items ++ z ∷ []) (sym read)) ∙ map-append plain_summand (take i items) (s ∷ []) in
    let made_more : map plain_summand (made ++ new ∷ []) ≡ done ++ plain_summand new ∷ [] = map-append plain_summand made (new ∷ []) in
    record {
      kept = extends_on ts us vs p.kept e;
      within = subst (λ z. All (IsSummandIn vs) z) (sym made_more) (All-push (IsSummandIn vs) done (plain_summand new) (All-weaker (IsSummandIn us) (IsSummandIn vs) (λ z j. summand_in_kept us vs e z j) done p.within) w);
      sealed =
          ap (map (trees_of_summand vs)) made_more
          ∙ map-append (trees_of_summand vs) done (plain_summand new ∷ [])
          ∙ ap₂ (λ zs z. zs ++ z ∷ []) (summands_kept us vs e done p.within ∙ p.sealed) (h ∙ ap (sealed_tree params v) (summand_kept ts us p.kept (plain_summand s) old))
          ∙ sym (map-append (sealed_tree params v) (map (trees_of_summand ts) front) (trees_of_summand ts (plain_summand s) ∷ []))
          ∙ ap (map (sealed_tree params v)) (sym (map-append (trees_of_summand ts) front (plain_summand s ∷ [])) ∙ ap (map (trees_of_summand ts)) (sym items_more));
    }

pub sealing_all : (params : List VarId) (v : VarId) (ts : List Tree) (items : List Summand) (i : ℕ) (us : List Tree) (made : List Summand) → IsSealing params v ts items i us made → length items ≤ i
    → map (trees_of_summand us) (map plain_summand made) ≡ map (sealed_tree params v) (map (trees_of_summand ts) (map plain_summand items))
sealing_all params v ts items i us made p l = p.sealed ∙ ap (λ z. map (sealed_tree params v) (map (trees_of_summand ts) (map plain_summand z))) (take_all i items l)

-- ---- one summand
pub sealed_made : (params : List VarId) (v : VarId) (s t : PlainSummand) (ts t1 us : List Tree) → IsSummandIn ts s → Extends ts t1 → Extends t1 us → t.sums ≡ s.sums → t.label ≡ s.label → {next : List TermId} → t.next ≡ Some next
    → IsIn t1 t.condition → tree_at t1 t.condition ≡ conjunction_tree (phase_tree v 1 ∷ trees_without_true (tree_parts (tree_at ts s.condition)))
    → trees_at us next ≡ sealed_next_trees params v (option_map (trees_at t1) s.next) → IsSealedSummand ts us params v s t
sealed_made params v s t ts t1 us old e f sums label {next} n within cond h =
    let condition : tree_at us t.condition ≡ conjunction_tree (phase_tree v 1 ∷ trees_without_true (tree_parts (tree_at ts s.condition))) = (tree_kept t1 us t.condition f within).0 ∙ cond in
    let actions : trees_of_label us t.label ≡ trees_of_label ts s.label = ap (trees_of_label us) label ∙ actions_kept ts us s.label (extends_on ts t1 us e f) old.label in
    let onward : option_map (trees_at us) t.next ≡ Some (sealed_next_trees params v (option_map (trees_at ts) s.next)) =
    ap (option_map (trees_at us)) n ∙ ap Some (h ∙ ap (sealed_next_trees params v) (next_trees_kept ts t1 e s.next old.next)) in
    ap₂ (λ x c. record { sums = x; condition = c; label = trees_of_label us t.label; next = option_map (trees_at us) t.next }) sums condition
    ∙ ap₂ (λ l o. record { sums = s.sums; condition = conjunction_tree (phase_tree v 1 ∷ trees_without_true (tree_parts (tree_at ts s.condition))); label = l; next = o }) actions onward
