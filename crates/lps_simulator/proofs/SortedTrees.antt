-- A tree whose term has a sort of the signature has that sort itself.
use Rattle.std.proofs.Common.{◌≡◌, ◌<◌, inl, inr, ℕ, zero, suc, Bool, true, false, cond, ◌&&◌, ◌||◌, List, [], ◌∷◌, map, length, refl, sym, ap, ◌∙◌, subst, arith}
use Rattle.std.specs.Prelude.{Some, slice_get, ℤ, pos}
use Rattle.std.specs.List.{All}
use Rattle.std.proofs.lemmas.List.Elements.{All-head, All-tail}
use Rattle.std.proofs.lemmas.Option.{same_Some}
use lib.Signed.{lt_z}
use lib.IntN.{neg_ℤ}
use Rattle.data_theory.specs.declared.ids.SortId.{SortId}
use Rattle.data_theory.specs.declared.ids.FunId.{FunId}
use Rattle.data_theory.specs.declared.signature.Variable.{Variable}
use Rattle.data_theory.specs.Terms as terms
use Rattle.data_theory.specs.Terms.{Sort, boolean, positive, natural, integer, list, named, Symbol, Terms, apply}
use Rattle.data_theory.specs.Complete.{IsFunctionWithin}
use Rattle.data_theory.specs.Declarations.{Declares, IsNumberOf, HasSort, HaveSorts}
use Rattle.data_theory.specs.Functions.{Function, arguments_of}
use Rattle.data_theory.specs.Table.{pos_sort, nat_sort, int_sort}
use Rattle.data_theory.specs.Signature.{Sig}
use Rattle.data_theory.specs.WholeSignatures.{IsSignature}
use Rattle.data_theory.specs.IdData.{data_meant}
use Rattle.data_theory.specs.IdTerms.{sort_under, symbol_under, term_under, terms_under, variable_sorts, IsTreeWithin, AreTreesWithin}
use Rattle.data_theory.specs.IdTrees.{Tree, Trees, variable, numeral, function, none, more, is_over, is_minus, apply_tree}
use Rattle.data_theory.specs.IdTreeSorts.{IsNumberIn, HasTreeSort, HaveTreeSorts}
use Rattle.data_theory.proofs.IdSortLemmas.{different_sorts_mean_different_sorts}
use Rattle.data_theory.proofs.IdSymbolLemmas.{positive_is, natural_is, integer_is, positive_within, natural_within, integer_within, number_sort_alone, symbol_fits}
use Rattle.data_theory.proofs.IdTermLemmas.{merging_trees_merges_terms}

-- ---- lists
stands_there : {A : Type 0} (xs : List A) (i : ℕ) → i < length xs → (x : A) × (slice_get xs i ≡ Some x)
stands_there [] i l = let never : ⊥ = omega (arith, l) in absurd never
stands_there (x ∷ xs) zero l = (x, refl)
stands_there (x ∷ xs) (suc i) l = stands_there xs i (omega (arith, l))

all_there : {A : Type 0} (P : A → Type 0) (xs : List A) → All P xs → (i : ℕ) (x : A) → slice_get xs i ≡ Some x → P x
all_there P [] all i x e = cc
all_there P (y ∷ xs) all zero x e = subst P (same_Some y x e) (All-head P y xs all)
all_there P (y ∷ xs) all (suc i) x e = all_there P xs (All-tail P y xs all) i x e

module _ (g : Sig) (signature : IsSignature g) where
  abbrev Within : SortId → Type 0
  Within s = s.0 < length g.sorts

  same_sort : (a s : SortId) → Within a → Within s → sort_under g a ≡ sort_under g s → a ≡ s
  same_sort a s l k e = different_sorts_mean_different_sorts g signature.table a s l k e

  -- ---- variables
  its_variable : (vs : List Variable) → All (λ (v : Variable). Within v.sort) vs → (n : ℕ) (s : SortId) → Within s → Declares (map (λ (v : Variable). sort_under g v.sort) vs) n (sort_under g s) → (x : Variable) × (slice_get vs n ≡ Some x) × (x.sort ≡ s)
  its_variable [] all n s l h = absurd h
  its_variable (v ∷ vs) all zero s l h = (v, refl, same_sort v.sort s (All-head (λ (x : Variable). Within x.sort) v vs all) l h)
  its_variable (v ∷ vs) all (suc n) s l h = its_variable vs (All-tail (λ (x : Variable). Within x.sort) v vs all) n s l h

  -- ---- numerals
  its_number : (a : SortId) (z : ℤ) (s : Sort) → sort_under g a ≡ s → IsNumberOf s z → IsNumberIn a z
  its_number a z positive e h = inl (let same : a.0 ≡ 1 = number_sort_alone g signature.table pos_sort positive (positive_within g signature.table) (positive_is g signature.table) (λ x. cc) a e in ap (λ (n : ℕ). record { 0 = n }) same, h)
  its_number a z natural e h = inr (inl (let same : a.0 ≡ 2 = number_sort_alone g signature.table nat_sort natural (natural_within g signature.table) (natural_is g signature.table) (λ x. cc) a e in ap (λ (n : ℕ). record { 0 = n }) same, h))
  its_number a z integer e h = inr (inr (let same : a.0 ≡ 3 = number_sort_alone g signature.table int_sort integer (integer_within g signature.table) (integer_is g signature.table) (λ x. cc) a e in ap (λ (n : ℕ). record { 0 = n }) same))
  its_number a z boolean e h = absurd h
  its_number a z (list s) e h = absurd h
  its_number a z (named d) e h = absurd h

  -- ---- what stands unmerged
  no_numeral : (y : Symbol) (us : Terms) (f : FunId) (s : SortId) (z : ℤ) (b c d : Bool) → term_under g (cond b (numeral nat_sort z) (cond c (numeral int_sort z) (cond d (numeral int_sort (neg_ℤ z)) (function f (more (numeral s z) none))))) ≡ terms.application y us
      → cond b (numeral nat_sort z) (cond c (numeral int_sort z) (cond d (numeral int_sort (neg_ℤ z)) (function f (more (numeral s z) none)))) ≡ function f (more (numeral s z) none)
  no_numeral y us f s z true c d e = let never : ⊥ = cc in absurd never
  no_numeral y us f s z false true d e = let never : ⊥ = cc in absurd never
  no_numeral y us f s z false false true e = let never : ⊥ = cc in absurd never
  no_numeral y us f s z false false false e = refl

  stays_apart : (f : FunId) (ts : Trees) → apply (symbol_under g f) (terms_under g ts) ≡ terms.application (symbol_under g f) (terms_under g ts) → apply_tree f ts ≡ function f ts
  stays_apart f none e = refl
  stays_apart f (more (numeral s z) none) e =
      no_numeral (symbol_under g f) (terms_under g (more (numeral s z) none)) f s z (is_over 3 pos_sort f s) (is_over 4 nat_sort f s || is_over 5 pos_sort f s) (is_minus f s && lt_z (pos 0) z)
      (merging_trees_merges_terms g signature.table f (more (numeral s z) none) ∙ e)
  stays_apart f (more (variable v) ts) e = refl
  stays_apart f (more (function h us) ts) e = refl
  stays_apart f (more (numeral s z) (more t ts)) e = refl

  -- ---- trees
  arguments_within : (f : Function) (b : Bool) (ss : List SortId) → All Within ss → All Within (cond b [] ss)
  arguments_within f true ss all = λ k x l. let never : ⊥ = omega (arith, l) in absurd never
  arguments_within f false ss all = all

  mutual
    pub sorted_back : (t : Tree) (s : SortId) → IsTreeWithin g t → Within s → HasSort (data_meant g) (variable_sorts g) (term_under g t) (sort_under g s) → HasTreeSort g t s
    sorted_back (variable v) s w l h = its_variable g.variables (λ k x i. (signature.complete.within.variables k x i).1) v.0 s l h
    sorted_back (numeral a z) s w l h =
        let same : a ≡ s = same_sort a s w l h.0 in
        (same, (its_number a z (sort_under g s) h.0 h.1.0, h.1.1))
    sorted_back (function f ts) s w l h =
        let there = stands_there g.functions f.0 w.0 in
        let e : Function = there.0 in
        let fits = symbol_fits g signature.table f e there.1 in
        let within = all_there (IsFunctionWithin (length g.texts) (length g.sorts) (length g.functions)) g.functions signature.complete.within.functions_within f.0 e there.1 in (
          e,
          there.1,
          same_sort e.result s within.gives l (sym fits.2 ∙ h.2),
          all_sorted_back ts (arguments_of e) w.1 (arguments_within e e.is_list_constant e.sorts within.found) (subst (HaveSorts (data_meant g) (variable_sorts g) (terms_under g ts)) fits.1 h.1),
          stays_apart f ts h.3,
        )

    pub all_sorted_back : (ts : Trees) (ss : List SortId) → AreTreesWithin g ts → All Within ss → HaveSorts (data_meant g) (variable_sorts g) (terms_under g ts) (map (sort_under g) ss) → HaveTreeSorts g ts ss
    all_sorted_back none [] w l h = tt
    all_sorted_back none (s ∷ ss) w l h = absurd h
    all_sorted_back (more t ts) [] w l h = absurd h
    all_sorted_back (more t ts) (s ∷ ss) w l h = (sorted_back t s w.0 (All-head Within s ss l) h.0, all_sorted_back ts ss w.1 (All-tail Within s ss l) h.1)
