-- The parts of an invariant with terms for the parameters, in code.
use Rattle.std.proofs.Common.{◌≡◌, ◌==◌, ◌<◌, ◌≤◌, ◌+◌, ℕ, zero, suc, true, false, List, [], ◌∷◌, ◌++◌, map, take, length, get_or, refl, sym, ap, ap₂, ◌∙◌, subst, cond, arith, add-one, Option, Some, Vec, Result, Ok, Err}
use Rattle.std.specs.Prelude.{option_map, IfOk}
use Rattle.std.specs.Global.{Global}
use Rattle.std.specs.List.{All, AllByRecursion, zip}
use Rattle.std.proofs.lemmas.List.{map-append, length-map, take_all}
use Rattle.std.proofs.lemmas.List.Elements.{All-nil, All-cons, All-head, All-tail}
use Rattle.data_theory.specs.declared.ids.SortId.{SortId}
use Rattle.data_theory.specs.declared.ids.VarId.{VarId}
use Rattle.data_theory.specs.declared.ids.TermId.{TermId}
use Rattle.data_theory.specs.Terms.{Term, put}
use Rattle.data_theory.specs.Environments.{term_in, bound}
use Rattle.data_theory.specs.Signature.{Sig}
use Rattle.data_theory.specs.WholeSignatures.{IsSignature}
use Rattle.data_theory.specs.Table.{bool_sort}
use Rattle.data_theory.specs.IdTrees.{Tree, put_tree, trees_of}
use Rattle.data_theory.specs.IdTreeSorts.{HaveTreeSorts}
use Rattle.data_theory.specs.IdTerms.{term_under, IsTreeWithin}
use Rattle.data_theory.proofs.IdTermLemmas.{sorted_trees_are_within}
use Rattle.term_pool.specs.Bindings.{listed, listed_terms}
use Rattle.term_pool.specs.HeadTrees.{tree_at, trees_at, IsIn, AreIn}
use Rattle.term_pool.specs.Pools.{Extends}
use Rattle.data_rewriter.specs.Standing.{IsTerm, listed_at}
use Rattle.data_rewriter.proofs.Standings.{term_kept, term_stays}
use Rattle.process_terms.specs.Meanings.{bound_at, term_at}
use Rattle.process_terms.specs.SignatureEntries.{entries_of}
use Rattle.bisim_laws.specs.LinearProcesses.{variables}
use Rattle.lps_core.specs.Conditions.{parts}
use Rattle.lps_core.specs.Fitting.{sort_of_variable, IsTermOf, AreTermsOf, SummandFits}
use Rattle.lps_core.specs.PlainLinears.{PlainSummand, plain_next, summand_of}
use Rattle.lps_core.specs.TreeConditions.{tree_parts}
use Rattle.lps_core.specs.TreeSummands.{bound_tree, numbers_of}
use Rattle.lps_core.proofs.MeantTrees.{Means, bound_means, puts_mean, numbers_meant}
use Rattle.lps_core.proofs.PutWithin.{put_within}
use Rattle.lps_core.proofs.Staying.{term_is, terms_are}
use Rattle.lps_sumelm.proofs.SolvedTrees.{terms_over, terms_listed}
use Rattle.lps_invariant.specs.Places.{parts_at, next_goals}
use Rattle.lps_invariant.proofs.PartsInCode.{parts_stand_behind, parts_meant_behind}
use Rattle.lps_invariant.proofs.PutPlaces.{terms_stay_listed, terms_stay_terms}

-- ---- variables and terms, place by place
pub zip_more : (xs : List VarId) (ids : List TermId) (by new : List (VarId × TermId)) (n : ℕ) (x : VarId) (id : TermId) → n < length xs → length ids ≡ length xs → by ≡ zip (take n xs) (take n ids) → new ≡ by ++ (get_or xs n x, get_or ids n id) ∷ [] → new ≡ zip (take (n + 1) xs) (take (n + 1) ids)
zip_more xs ids by new n x id l k h e = e ∙ ap (λ (z : List (VarId × TermId)). z ++ (get_or xs n x, get_or ids n id) ∷ []) h ∙ sym (ap (λ m. zip (take m xs) (take m ids)) (add-one n) ∙ go xs ids n l k)
  where
    go : (xs : List VarId) (ids : List TermId) (n : ℕ) → n < length xs → length ids ≡ length xs → zip (take (suc n) xs) (take (suc n) ids) ≡ zip (take n xs) (take n ids) ++ (get_or xs n x, get_or ids n id) ∷ []
    go [] ids n l k = absurd (omega (arith, l))
    go (y ∷ xs) [] n l k = absurd (omega (arith, k))
    go (y ∷ xs) (i ∷ ids) zero l k = refl
    go (y ∷ xs) (i ∷ ids) (suc n) l k = ap (λ (z : List (VarId × TermId)). (y, i) ∷ z) (go xs ids n (omega (arith, l)) (omega (arith, k)))

pub zip_all : (xs : List VarId) (ids : List TermId) (by : List (VarId × TermId)) (n : ℕ) → length xs ≤ n → length ids ≡ length xs → by ≡ zip (take n xs) (take n ids) → by ≡ zip xs ids
zip_all xs ids by n l k h = h ∙ ap₂ zip (take_all n xs l) (take_all n ids (omega (arith, l, k)))

pub zip_terms : (P : TermId → Type 0) (xs : List VarId) (ids : List TermId) → All P ids → All P (listed_terms (zip xs ids))
zip_terms P [] ids h = All-nil P
zip_terms P (x ∷ xs) [] h = All-nil P
zip_terms P (x ∷ xs) (id ∷ ids) h = All-cons P id (listed_terms (zip xs ids)) (All-head P id ids h) (zip_terms P xs ids (All-tail P id ids h))

zip_listed : (ts : List Tree) (xs : List VarId) (ids : List TermId) (v : VarId) → listed ts (zip xs ids) v ≡ bound_tree xs (trees_at ts ids) v
zip_listed ts [] ids v = refl
zip_listed ts (x ∷ xs) [] v = refl
zip_listed ts (x ∷ xs) (id ∷ ids) v = ap (λ t. cond (x.0 == v.0) (tree_at ts id) t) (zip_listed ts xs ids v)

-- ---- terms of sorts
pub long_as : (g : Sig) (us : List Tree) (ss : List SortId) → HaveTreeSorts g (trees_of us) ss → length us ≡ length ss
long_as g [] [] h = refl
long_as g [] (s ∷ ss) h = absurd h
long_as g (u ∷ us) [] h = absurd h
long_as g (u ∷ us) (s ∷ ss) h = ap suc (long_as g us ss h.1)

-- one term for each parameter
pub one_each : (g : Sig) (ts : List Tree) (params : List VarId) (ids : List TermId) → AreTermsOf g ts (map (sort_of_variable g) params) ids → length ids ≡ length params
one_each g ts params ids h = sym (length-map ids (tree_at ts)) ∙ long_as g (trees_at ts ids) (map (sort_of_variable g) params) h.sorted ∙ length-map params (sort_of_variable g)

module _ (g : Sig) (ok : IsSignature g) where
  pub sorted_stands : (ts : List Tree) (s : SortId) (id : TermId) → IsTermOf g ts s id → IsTerm g ts id
  sorted_stands ts s id h = record { inside = h.within; within = sorted_trees_are_within g ok.table (tree_at ts id) s h.sorted }

  pub all_sorted_stand : (ts : List Tree) (ss : List SortId) (ids : List TermId) → AreTermsOf g ts ss ids → All (IsTerm g ts) ids
  all_sorted_stand ts ss [] h = All-nil (IsTerm g ts)
  all_sorted_stand ts [] (id ∷ ids) h = absurd h.sorted
  all_sorted_stand ts (s ∷ ss) (id ∷ ids) h =
      All-cons (IsTerm g ts) id ids (sorted_stands ts s id (record { within = All-head (IsIn ts) id ids h.within; sorted = h.sorted.0 }))
      (all_sorted_stand ts ss ids (record { within = All-tail (IsIn ts) id ids h.within; sorted = h.sorted.1 }))

  pub all_inside : (ts : List Tree) (ids : List TermId) → All (IsTerm g ts) ids → AreIn ts ids
  all_inside ts [] h = All-nil (IsIn ts)
  all_inside ts (id ∷ ids) h = All-cons (IsIn ts) id ids (All-head (IsTerm g ts) id ids h).inside (all_inside ts ids (All-tail (IsTerm g ts) id ids h))

  -- ---- what is put in
  listed_within : (ts : List Tree) (by : List (VarId × TermId)) → All (IsTerm g ts) (listed_terms by) → (x : VarId) → IsTreeWithin g (listed ts by x)
  listed_within ts [] h x = tt
  listed_within ts (p ∷ ps) h x =
      elim (p.0.0 == x.0) as (λ b. IsTreeWithin g (cond b (tree_at ts p.1) (listed ts ps x))) [
        | true ↦ (All-head (IsTerm g ts) p.1 (listed_terms ps) h).within
        | false ↦ listed_within ts ps (All-tail (IsTerm g ts) p.1 (listed_terms ps) h) x
      ]

  puts_within : (ts : List Tree) (e : VarId → Tree) → ((x : VarId) → IsTreeWithin g (e x)) → (ids : List TermId) → All (IsTerm g ts) ids → AllByRecursion (IsTreeWithin g) (map (put_tree e) (trees_at ts ids))
  puts_within ts e w [] h = tt
  puts_within ts e w (id ∷ ids) h = (put_within g ok.complete e w (tree_at ts id) (All-head (IsTerm g ts) id ids h).within, puts_within ts e w ids (All-tail (IsTerm g ts) id ids h))

  module _ (ts us : List Tree) (params : List VarId) (invariant ids made : List TermId) (by : List (VarId × TermId)) (are : by ≡ zip params ids) (terms : AreTermsOf g ts (map (sort_of_variable g) params) ids) (stand : All (IsTerm g ts) invariant) (within : AreIn us made) (put_is : trees_at us made ≡ map (put_tree (listed ts by)) (trees_at ts invariant)) where
    listed_stand : All (IsTerm g ts) (listed_terms by)
    listed_stand = rw are (zip_terms (IsTerm g ts) params ids (all_sorted_stand ts (map (sort_of_variable g) params) ids terms))

    pub put_stand : All (IsTerm g us) made
    put_stand = terms_over g ok us made (map (put_tree (listed ts by)) (trees_at ts invariant)) put_is within (puts_within ts (listed ts by) (listed_within ts by listed_stand) invariant stand)

    means : Means g (listed ts by) (bound (numbers_of params) (map (term_under g) (trees_at ts ids)))
    means x = ap (term_under g) (ap (λ z. listed ts z x) are ∙ zip_listed ts params ids x) ∙ bound_means g params (trees_at ts ids) x

    pub put_meant : (inv : Term) → listed_at g ts invariant ≡ parts inv → listed_at g us made ≡ parts_at (map (bound_at (entries_of g ts)) params) inv (map (term_at (entries_of g ts)) ids)
    put_meant inv h =
        sym (terms_listed g ok us made)
        ∙ ap (map (term_under g)) put_is
        ∙ puts_mean g ok.table (listed ts by) (bound (numbers_of params) (map (term_under g) (trees_at ts ids))) means (trees_at ts invariant)
        ∙ ap (map (put (term_in (bound (numbers_of params) (map (term_under g) (trees_at ts ids)))))) (terms_listed g ok ts invariant ∙ h)
        ∙ ap₂ (λ xs zs. map (put (term_in (bound xs zs))) (parts inv)) (sym (numbers_meant g ts params)) (sym (terms_are g ts ids terms.within))

-- ---- next terms
pub next_put : (g : Sig) (ts : List Tree) (params : List VarId) (inv : Term) (o : Option (Vec TermId Global)) (terms : Vec TermId Global) (zs : List TermId) (made : List Term) → o ≡ Some terms → zs ≡ terms.items → made ≡ parts_at (map (bound_at (entries_of g ts)) params) inv (map (term_at (entries_of g ts)) zs)
    → made ≡ next_goals (map (bound_at (entries_of g ts)) params) inv (option_map (map (term_at (entries_of g ts))) (plain_next o))
next_put g ts params inv o terms zs made e q h =
    subst (λ (z : Option (Vec TermId Global)). made ≡ next_goals (map (bound_at (entries_of g ts)) params) inv (option_map (map (term_at (entries_of g ts))) (plain_next z))) (sym e)
    (subst (λ z. made ≡ parts_at (map (bound_at (entries_of g ts)) params) inv (map (term_at (entries_of g ts)) z)) q h)

-- ---- the place of a summand
pub if_ok : {A E : Type 0} (r : Result A E) (P Q : A → Type 0) → ((a : A) → P a → Q a) → IfOk r P → IfOk r Q
if_ok (Ok a) P Q f h = f a h
if_ok (Err e) P Q f h = h

module _ (g : Sig) (ok : IsSignature g) (ts us : List Tree) (x : Extends ts us) (params : List VarId) (invariant old new : List TermId) (s : PlainSummand) (same : old ≡ invariant) (stand : All (IsTerm g ts) invariant) (fits : SummandFits g ts params s) (parts_are : trees_at us new ≡ trees_at us old ++ tree_parts (tree_at us s.condition)) (within : AreIn us old → AreIn us new) where
  old_stand : All (IsTerm g us) old
  old_stand = rw same (terms_stay_terms g ok ts us x invariant stand)

  condition_stands : IsTerm g ts s.condition
  condition_stands = sorted_stands g ok ts bool_sort s.condition fits.condition

  pub hypotheses_stand : All (IsTerm g us) new
  hypotheses_stand = parts_stand_behind g ok us old s.condition new old_stand (term_stays g ts us x s.condition condition_stands) parts_are (within (all_inside g ok us old old_stand))

  pub hypotheses_meant : (inv : Term) → listed_at g ts invariant ≡ parts inv → listed_at g us new ≡ parts inv ++ parts (summand_of (entries_of g ts) s).condition
  hypotheses_meant inv h =
      parts_meant_behind g ok us old s.condition new (term_stays g ts us x s.condition condition_stands) parts_are
      ∙ ap₂ (λ xs c. xs ++ parts c) (ap (listed_at g us) same ∙ terms_stay_listed g ok ts us x invariant stand ∙ h) (term_kept g ts us s.condition x fits.condition.within ∙ sym (term_is g ts s.condition fits.condition.within))

-- the variables of a summand
pub variables_are : (g : Sig) (ts : List Tree) (slice vars front sums params : List VarId) → slice ≡ vars → vars ≡ front ++ params → front ≡ sums → numbers_of slice ≡ variables (map (bound_at (entries_of g ts)) sums) ++ variables (map (bound_at (entries_of g ts)) params)
variables_are g ts slice vars front sums params a b d =
    ap numbers_of (a ∙ b ∙ ap (λ z. z ++ params) d) ∙ map-append (λ (v : VarId). v.0) sums params ∙ ap₂ (λ xs ys. xs ++ ys) (sym (numbers_meant g ts sums)) (sym (numbers_meant g ts params))
