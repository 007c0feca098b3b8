-- Combinations for which some parts in front of a condition tell that it is false.
use Rattle.std.proofs.Common.{◌≡◌, ◌<◌, ◌≤◌, ◌+◌, ◌⊎◌, inl, inr, ℕ, zero, suc, Bool, List, [], ◌∷◌, ◌++◌, map, take, drop, length, get_or, refl, sym, ap, ap₂, ◌∙◌, subst, arith, append_assoc, Option, Some, None}
use Rattle.std.specs.Prelude.{Contains}
use Rattle.std.specs.Option.{option_or}
use Rattle.std.specs.List.{All, zip}
use Rattle.std.proofs.lemmas.List.{map-append}
use Rattle.std.proofs.lemmas.List.Elements.{All-nil, All-cons, All-head, All-tail, All-weaker}
use Rattle.data_theory.specs.declared.ids.VarId.{VarId}
use Rattle.data_theory.specs.declared.ids.TermId.{TermId}
use Rattle.data_theory.specs.Terms.{Term, put}
use Rattle.data_theory.specs.Declarations.{Data}
use Rattle.data_theory.specs.Environments.{Environment, term_in}
use Rattle.data_theory.specs.Provable.{Equation}
use Rattle.data_theory.specs.Rewriting.{no_decided, IsDecided}
use Rattle.data_theory.specs.Signature.{Sig}
use Rattle.data_theory.specs.WholeSignatures.{IsSignature}
use Rattle.data_theory.specs.IdData.{data_meant}
use Rattle.data_theory.specs.IdTrees.{Tree, put_tree}
use Rattle.data_theory.specs.IdTerms.{term_under}
use Rattle.process_terms.specs.Communication.{conjunction_of}
use Rattle.term_pool.specs.Bindings.{listed, listed_terms}
use Rattle.term_pool.specs.HeadTrees.{tree_at, trees_at, IsIn, AreIn}
use Rattle.term_pool.specs.Pools.{Extends}
use Rattle.term_pool.proofs.NodeTrees.{tree_kept}
use Rattle.data_rewriter.specs.Standing.{IsTerm, term_at}
use Rattle.data_rewriter.proofs.Standings.{term_kept}
use Rattle.lps_core.specs.TreeConditions.{conjunction_tree}
use Rattle.lps_core.proofs.MeantParts.{chains_mean_chains}
use Rattle.lps_core.proofs.MeantTrees.{put_means}
use Rattle.lps_simulator.specs.Combinations.{LeavesOut}
use Rattle.lps_simulator.specs.LeadingParts.{FailInFront, GoesToFalse, Occurs, OccursIn, instance_at}
use Rattle.lps_simulator.specs.Rewritten.{environment_of}
use Rattle.lps_simulator.proofs.Bindings.{environment_kept, listed_means}
use Rattle.lps_simulator.proofs.FalseChains.{chain_fails, fails_before, put_chain}
use Rattle.lps_simulator.proofs.Levels.{put_alike, listed_alike}

-- ---- instances
pub instance_kept : (g : Sig) (ts us : List Tree) (by : List (VarId × TermId)) (id : TermId) → Extends ts us → All (IsTerm g ts) (listed_terms by) → IsIn ts id → instance_at g us by id ≡ instance_at g ts by id
instance_kept g ts us by id e h i = ap₂ (λ (d : Environment) (t : Term). put (term_in d) t) (environment_kept g ts us by e h) (term_kept g ts us id e i)

instances_kept : (g : Sig) (ts us : List Tree) (by : List (VarId × TermId)) (ids : List TermId) → Extends ts us → All (IsTerm g ts) (listed_terms by) → AreIn ts ids → map (instance_at g us by) ids ≡ map (instance_at g ts by) ids
instances_kept g ts us by [] e h i = refl
instances_kept g ts us by (id ∷ ids) e h i = ap₂ (λ (t : Term) (us : List Term). t ∷ us) (instance_kept g ts us by id e h (All-head (IsIn ts) id ids i)) (instances_kept g ts us by ids e h (All-tail (IsIn ts) id ids i))

pub trees_kept_at : (ts us : List Tree) (ids : List TermId) → Extends ts us → AreIn ts ids → trees_at us ids ≡ trees_at ts ids
trees_kept_at ts us [] e i = refl
trees_kept_at ts us (id ∷ ids) e i = ap₂ (λ (t : Tree) (us : List Tree). t ∷ us) (tree_kept ts us id e (All-head (IsIn ts) id ids i)) (trees_kept_at ts us ids e (All-tail (IsIn ts) id ids i))

module _ (g : Sig) (stands : IsSignature g) (ts : List Tree) where
  instance_is : (by : List (VarId × TermId)) (id : TermId) → instance_at g ts by id ≡ term_under g (put_tree (listed ts by) (tree_at ts id))
  instance_is by id = sym (put_means g stands.table (listed ts by) (environment_of g ts by) (listed_means g ts by) (tree_at ts id))

  same_instance : (by other : List (VarId × TermId)) (id : TermId) → ((v : VarId) → Occurs v (tree_at ts id) → listed ts by v ≡ listed ts other v) → instance_at g ts by id ≡ instance_at g ts other id
  same_instance by other id h = instance_is by id ∙ ap (term_under g) (put_alike (listed ts by) (listed ts other) (tree_at ts id) h) ∙ sym (instance_is other id)

  same_instances : (by other : List (VarId × TermId)) (ids : List TermId) → ((v : VarId) → OccursIn v (trees_at ts ids) → listed ts by v ≡ listed ts other v) → map (instance_at g ts by) ids ≡ map (instance_at g ts other) ids
  same_instances by other [] h = refl
  same_instances by other (id ∷ ids) h = ap₂ (λ (t : Term) (us : List Term). t ∷ us) (same_instance by other id (λ v o. h v (inl o))) (same_instances by other ids (λ v o. h v (inr o)))

  -- ---- a chain and its parts
  put_in_each : (by : List (VarId × TermId)) (ids : List TermId) → map (put (term_in (environment_of g ts by))) (map (term_under g) (trees_at ts ids)) ≡ map (instance_at g ts by) ids
  put_in_each by [] = refl
  put_in_each by (id ∷ ids) = ap (λ (us : List Term). instance_at g ts by id ∷ us) (put_in_each by ids)

  pub false_by_parts : (own : List Equation) (by : List (VarId × TermId)) (cond : TermId) (parts : List TermId) (n : ℕ) → tree_at ts cond ≡ conjunction_tree (trees_at ts parts) → FailInFront (data_meant g) own (map (instance_at g ts by) (take n parts)) → GoesToFalse (data_meant g) own (instance_at g ts by cond)
  false_by_parts own by cond parts n chain h =
      let e = environment_of g ts by in
      let is : instance_at g ts by cond ≡ conjunction_of (map (instance_at g ts by) parts) =
      ap (λ t. put (term_in e) (term_under g t)) chain
      ∙ ap (put (term_in e)) (chains_mean_chains g stands.table stands.complete (trees_at ts parts))
      ∙ put_chain (term_in e) (map (term_under g) (trees_at ts parts))
      ∙ ap conjunction_of (put_in_each by parts) in
      subst (GoesToFalse (data_meant g) own) (sym is) (chain_fails (data_meant g) own (map (instance_at g ts by) parts) (fails_before (data_meant g) own (instance_at g ts by) parts n h))

-- ---- a combination, and those that begin with the same values
-- the condition goes to `false` with these values of the sums
abbrev pub IsFalseWith : Sig → List Equation → List Tree → List VarId → List (VarId × TermId) → TermId → List TermId → Type 0
IsFalseWith g own ts sums rest cond c = GoesToFalse (data_meant g) own (instance_at g ts (zip sums c ++ rest) cond)

module _ (g : Sig) (stands : IsSignature g) (own : List Equation) (ts us : List Tree) (grows : Extends ts us) (sums : List VarId) (rest : List (VarId × TermId)) (cond : TermId) (parts : List TermId)
    (chain : tree_at ts cond ≡ conjunction_tree (trees_at ts parts)) (cond_in : IsIn ts cond) (parts_in : AreIn ts parts) where
  chain_later : tree_at us cond ≡ conjunction_tree (trees_at us parts)
  chain_later = tree_kept ts us cond grows cond_in ∙ chain ∙ ap conjunction_tree (sym (trees_kept_at ts us parts grows parts_in))

  first_in : (n : ℕ) (ids : List TermId) → AreIn ts ids → AreIn ts (take n ids)
  first_in zero ids h = All-nil (IsIn ts)
  first_in (suc n) [] h = h
  first_in (suc n) (id ∷ ids) h = All-cons (IsIn ts) id (take n ids) (All-head (IsIn ts) id ids h) (first_in n ids (All-tail (IsIn ts) id ids h))

  one_false : (c d : List TermId) (level n : ℕ) → All (IsTerm g ts) (listed_terms (zip sums c ++ rest)) → FailInFront (data_meant g) own (map (instance_at g ts (zip sums c ++ rest)) (take n parts))
      → ((v : VarId) → Contains (drop level sums) v → OccursIn v (trees_at us (take n parts)) → ⊥) → take level d ≡ take level c → IsFalseWith g own us sums rest cond d
  one_false c d level n over fails absent same =
      false_by_parts g stands us own (zip sums d ++ rest) cond parts n chain_later
      (subst (FailInFront (data_meant g) own)
      (sym (same_instances g stands us (zip sums d ++ rest) (zip sums c ++ rest) (take n parts) (λ v o. listed_alike us sums level d c rest v same (λ i. absent v i o)) ∙ instances_kept g ts us (zip sums c ++ rest) (take n parts) grows over (first_in n parts parts_in)))
      fails)

  pub all_false : (c : List TermId) (level n : ℕ) (old new : List (List TermId)) → All (IsTerm g ts) (listed_terms (zip sums c ++ rest)) → FailInFront (data_meant g) own (map (instance_at g ts (zip sums c ++ rest)) (take n parts))
      → ((v : VarId) → Contains (drop level sums) v → OccursIn v (trees_at us (take n parts)) → ⊥) → (l : LeavesOut level c old new) → All (IsFalseWith g own us sums rest cond) l.left_out
  all_false c level n old new over fails absent l =
      All-weaker (λ (d : List TermId). take level d ≡ take level c) (IsFalseWith g own us sums rest cond) (λ d same. one_false c d level n over fails absent same) l.left_out l.alike
