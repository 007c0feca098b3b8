-- The trees that the table of first values gives are those of the first values.
use Rattle.std.proofs.Common.{◌≡◌, ◌==◌, ◌<◌, ◌≤◌, ◌+◌, ◌*◌, ℕ, zero, suc, Bool, true, false, cond, List, [], ◌∷◌, length, Option, Some, None, ℤ, pos, negsuc, refl, sym, ap, ◌∙◌, subst, arith, ⊎_elim, inl, inr}
use Rattle.std.specs.Prelude.{slice_get, IsSome, MatchOption}
use Rattle.std.specs.Option.{option_map_or}
use Rattle.std.specs.List.{All, Contains}
use Rattle.std.proofs.lemmas.Option.{slice_get_within, slice_get_cases, get_or_from_slice_get}
use Rattle.data_theory.specs.declared.ids.SortId.{SortId}
use Rattle.data_theory.specs.declared.ids.FunId.{FunId}
use Rattle.data_theory.specs.Sorts.{IsBare}
use Rattle.data_theory.specs.Functions.{Function, arguments_of}
use Rattle.data_theory.specs.Signature.{Sig}
use Rattle.data_theory.specs.IdTreeSorts.{IsNumberIn, HasNumber}
use Rattle.data_theory.specs.IdTrees.{Tree, function, none, more, trees_of, apply_tree}
use Rattle.data_theory.specs.WholeSignatures.{IsSignature}
use Rattle.data_theory.proofs.CompleteLemmas.{four_sorts}
use Rattle.term_pool.specs.declared.first_values.First.{First}
use Rattle.term_pool.specs.declared.first_values.Root.{Root}
use Rattle.term_pool.specs.declared.first_values.Root.TheVariants.{Number, Constructor, Constant}
use Rattle.term_pool.specs.ConstructorValues.{ConstructorValue, ConstructorValues, a_number, built, a_constant, no_value, value_then, IsValueOf, HasValue, number_weight, weight, weights, ComesBefore, lighter, IsFirstValue, AreFirstOf}
use Rattle.term_pool.specs.FirstValues.{root_of, IsFirstOf, IsEntryOf, AreFirstValues}
use Rattle.term_pool.specs.FirstTerms.{first_number, first_at, HasEntry, HasRootAt, IsRootWithin, function_arguments, root_arguments, sorts_under, IsTreeOf, AreTreesOf, of_number, of_constructor, of_constant, no_trees, tree_then}
use Rattle.term_pool.specs.Constants.{tree_with, trees_with, constant_of}
use Rattle.term_pool.proofs.Lists.{contains_none, contains_cons}
use Rattle.term_pool.proofs.FirstValueLemmas.{arguments_first, first_value_once}
use Rattle.term_pool.proofs.ConstructorTrees.{constructor_unmerged}
use Rattle.term_pool.proofs.SortSearch.{weight_at, Descends, entry_within}

-- ---- numbers
-- the sort of a number is one of Pos, Nat and Int
number_sort : (s : SortId) (z : ℤ) → IsNumberIn s z → s.0 < 4
number_sort s z (inl p) = let n = ap (λ (x : SortId). x.0) p.0 in omega (arith, n)
number_sort s z (inr (inl p)) = let n = ap (λ (x : SortId). x.0) p.0 in omega (arith, n)
number_sort s z (inr (inr p)) = let n = ap (λ (x : SortId). x.0) p in omega (arith, n)

-- each of them has its first number
pub first_has_number : (s : SortId) (z : ℤ) → HasNumber s z → HasNumber s (first_number s)
first_has_number s z has = by_sort has.0
  where
    by_sort : IsNumberIn s z → HasNumber s (first_number s)
    by_sort (inl p) = subst (λ (x : SortId). HasNumber x (first_number x)) (sym p.0) (inl (refl, omega arith), omega arith)
    by_sort (inr (inl p)) = subst (λ (x : SortId). HasNumber x (first_number x)) (sym p.0) (inr (inl (refl, omega arith)), omega arith)
    by_sort (inr (inr p)) = subst (λ (x : SortId). HasNumber x (first_number x)) (sym p) (inr (inr refl), omega arith)

first_weighs_one : (s : SortId) (z : ℤ) → IsNumberIn s z → number_weight s (first_number s) ≡ 1
first_weighs_one s z (inl p) = ap (λ (x : SortId). number_weight x (first_number x)) p.0
first_weighs_one s z (inr (inl p)) = ap (λ (x : SortId). number_weight x (first_number x)) p.0
first_weighs_one s z (inr (inr p)) = ap (λ (x : SortId). number_weight x (first_number x)) p

some_weight : (b : Bool) (m n : ℕ) → 1 ≤ m → 1 ≤ n → 1 ≤ cond b m n
some_weight true m n a b = a
some_weight false m n a b = b

weighs_some : (s : SortId) (z : ℤ) → 1 ≤ number_weight s z
weighs_some s (pos zero) = omega arith
weighs_some s (pos (suc n)) = some_weight (s.0 == 1) (suc n) (cond (s.0 == 2) (suc n + 1) (2 * suc n)) (omega arith) (some_weight (s.0 == 2) (suc n + 1) (2 * suc n) (omega arith) (omega arith))
weighs_some s (negsuc n) = omega arith

-- no value of a number sort comes before its first number
pub first_number_is_first : (g : Sig) (s a : SortId) (z : ℤ) → IsFirstValue g s (a_number a z) → a_number a z ≡ a_number s (first_number s)
first_number_is_first g s a z first =
    let has = first.of_sort.1 in
    ⊎_elim
    (λ same. same)
    (λ before. absurd (not_before before))
    (first.first (a_number s (first_number s)) (refl, first_has_number s z has))
  where
    not_before : ComesBefore g s (a_number a z) (a_number s (first_number s)) → ⊥
    not_before (lighter l) = let one = first_weighs_one s z first.of_sort.1.0 in omega (arith, l, one, weighs_some a z)

-- ---- the table
module _ (g : Sig) (stands : IsSignature g) (firsts : List (Option First)) (table : AreFirstValues g firsts) where
  entry_read : (s : SortId) → s.0 < length firsts → (e : Option First) × (slice_get firsts s.0 ≡ Some e) × (first_at firsts s ≡ e)
  entry_read s within =
      ⊎_elim
      (λ found. (found.0, found.2, get_or_from_slice_get firsts s.0 found.0 None found.2))
      (λ beyond. absurd (omega (arith, within, beyond)))
      (slice_get_cases firsts s.0).1

  pub entry_is : (s : SortId) (e : First) → first_at firsts s ≡ Some e → IsFirstOf g s e
  entry_is s e at =
      let read = entry_read s (entry_within firsts s (subst IsSome (sym at) refl)) in
      subst (IsEntryOf g s) (sym read.2 ∙ at) (table.first s read.0 read.1)

  value_within : (s : SortId) (v : ConstructorValue) → IsValueOf g v s → s.0 < length g.sorts
  value_within s (a_number a z) is = omega (arith, number_sort s z is.1.0, four_sorts g stands.complete)
  value_within s (built f vs) is = slice_get_within g.sorts s.0 is.1.0 is.1.1
  value_within s (a_constant d) is = slice_get_within g.sorts s.0 is.1.0 is.1.1

  pub has_entry : (s : SortId) → HasValue g s → HasEntry firsts s
  has_entry s has =
      let within = value_within s has.0 has.1 in
      let read = entry_read s (omega (arith, within, table.count)) in
      by_entry read.0 read.1 read.2
    where
      by_entry : (e : Option First) → slice_get firsts s.0 ≡ Some e → first_at firsts s ≡ e → HasEntry firsts s
      by_entry None at is = absurd (table.first s None at has)
      by_entry (Some e) at is = subst IsSome (sym is) refl

  pub some_entry : (s : SortId) → HasEntry firsts s → (e : First) × (first_at firsts s ≡ Some e)
  some_entry s has = by_entry (first_at firsts s) refl has
    where
      by_entry : (o : Option First) → first_at firsts s ≡ o → IsSome o → (e : First) × (first_at firsts s ≡ Some e)
      by_entry None is h = cc
      by_entry (Some e) is h = (e, is)

  -- the entry of a sort with this first value
  pub entry_of : (s : SortId) (v : ConstructorValue) → IsFirstValue g s v → (e : First) × (first_at firsts s ≡ Some e) × (weight v ≡ e.weight) × (root_of v ≡ e.root)
  entry_of s v first =
      let some = some_entry s (has_entry s (v, first.of_sort)) in
      let is = entry_is s some.0 some.1 in
      let same = first_value_once g s is.0 v is.1 first in
      (some.0, some.1, ap weight (sym same) ∙ is.2, ap root_of (sym same) ∙ is.3)

  -- the first value of a sort with this root
  pub value_of : (s : SortId) (r : Root) → HasRootAt firsts s r → (v : ConstructorValue) × IsFirstValue g s v × (root_of v ≡ r)
  value_of s r at = let is = entry_is s at.0 at.1 in (is.0, is.1, is.3 ∙ at.2)

  weight_is : (s : SortId) (v : ConstructorValue) → IsFirstValue g s v → weight_at firsts s ≡ weight v
  weight_is s v first = let e = entry_of s v first in ap (λ o. option_map_or (λ (x : First). x.weight) o 0) e.1 ∙ sym e.2

  -- ---- the arguments of a first value
  pub arguments_are : (fs : List Function) (f : FunId) (e : Function) → slice_get fs f.0 ≡ Some e → function_arguments fs f ≡ arguments_of e
  arguments_are fs f e at = ap (λ o. option_map_or arguments_of o []) at

  pub under_is : (fs : List Function) (s : SortId) (v : ConstructorValue) (f : FunId) (vs : ConstructorValues) → IsFirstValue g s v → v ≡ built f vs → sorts_under fs firsts s ≡ function_arguments fs f
  under_is fs s v f vs first same =
      let e = entry_of s v first in
      let root : Constructor f ≡ e.0.root = ap root_of (sym same) ∙ e.3 in
      ap (λ o. option_map_or (λ (x : First). root_arguments fs x.root) o []) e.1 ∙ ap (root_arguments fs) (sym root)

  among_first : (vs : ConstructorValues) (ss : List SortId) (a : SortId) → AreFirstOf g vs ss → Contains ss a → (w : ConstructorValue) × IsFirstValue g a w × (weight w ≤ weights vs)
  among_first no_value [] a first has = absurd (contains_none a has)
  among_first (value_then v vs) [] a first has = absurd first
  among_first no_value (s ∷ ss) a first has = absurd first
  among_first (value_then v vs) (s ∷ ss) a first has =
      ⊎_elim
      (λ same. (v, subst (λ x. IsFirstValue g x v) same first.0, omega arith))
      (λ rest. let found = among_first vs ss a first.1 rest in (found.0, found.1, omega (arith, found.2)))
      (contains_cons s a ss has)

  -- an argument sort of a first value, with its own first value
  pub argument_first : (s : SortId) → HasEntry firsts s → (a : SortId) → Contains (sorts_under g.functions firsts s) a → (w : ConstructorValue) × IsFirstValue g a w × (weight w < weight_at firsts s)
  argument_first s has a under =
      let some = some_entry s has in
      let is = entry_is s some.0 some.1 in
      by_value is.0 is.1 under
    where
      by_value : (v : ConstructorValue) → IsFirstValue g s v → Contains (sorts_under g.functions firsts s) a → (w : ConstructorValue) × IsFirstValue g a w × (weight w < weight_at firsts s)
      by_value (built f vs) first under =
          let part = first.of_sort.2 in
          let sorts = under_is g.functions s (built f vs) f vs first refl ∙ arguments_are g.functions f part.0 part.1 in
          let found = among_first vs (arguments_of part.0) a (arguments_first g s f vs first part.0 part.1) (subst (λ l. Contains l a) sorts under) in
          (found.0, found.1, omega (arith, found.2, weight_is s (built f vs) first))
      by_value (a_number b z) first under =
          let e = entry_of s (a_number b z) first in
          let none : sorts_under g.functions firsts s ≡ [] = ap (λ o. option_map_or (λ (x : First). root_arguments g.functions x.root) o []) e.1 ∙ ap (root_arguments g.functions) (sym e.3) in
          absurd (contains_none a (subst (λ l. Contains l a) none under))
      by_value (a_constant d) first under =
          let e = entry_of s (a_constant d) first in
          let none : sorts_under g.functions firsts s ≡ [] = ap (λ o. option_map_or (λ (x : First). root_arguments g.functions x.root) o []) e.1 ∙ ap (root_arguments g.functions) (sym e.3) in
          absurd (contains_none a (subst (λ l. Contains l a) none under))

  pub table_descends : Descends g.functions firsts
  table_descends s has a under =
      let w = argument_first s has a under in
      (has_entry a (w.0, w.1.of_sort), omega (arith, weight_is a w.0 w.1, w.2))

  pub constructor_within : (s : SortId) (f : FunId) → HasRootAt firsts s (Constructor f) → f.0 < length g.functions
  constructor_within s f at = let v = value_of s (Constructor f) at in by_value v.0 v.1 v.2
    where
      by_value : (v : ConstructorValue) → IsFirstValue g s v → root_of v ≡ Constructor f → f.0 < length g.functions
      by_value (built h vs) first root = let same : h ≡ f = cc in subst (λ (x : FunId). x.0 < length g.functions) same (slice_get_within g.functions h.0 first.of_sort.2.0 first.of_sort.2.1)
      by_value (a_number a z) first root = absurd cc
      by_value (a_constant d) first root = absurd cc

  pub root_within : (s : SortId) (r : Root) → HasRootAt firsts s r → IsRootWithin (length g.functions) r
  root_within s (Constructor f) at = constructor_within s f at
  root_within s Number at = tt
  root_within s Constant at = tt

  pub number_ready : (s : SortId) → HasRootAt firsts s Number → HasNumber s (first_number s)
  number_ready s at = let v = value_of s Number at in by_value v.0 v.1 v.2
    where
      by_value : (v : ConstructorValue) → IsFirstValue g s v → root_of v ≡ Number → HasNumber s (first_number s)
      by_value (a_number a z) first root = first_has_number s z first.of_sort.1
      by_value (built h vs) first root = absurd cc
      by_value (a_constant d) first root = absurd cc

  pub constant_is_bare : (s : SortId) → HasRootAt firsts s Constant → IsBare g.sorts s
  constant_is_bare s at = let v = value_of s Constant at in by_value v.0 v.1 v.2
    where
      by_value : (v : ConstructorValue) → IsFirstValue g s v → root_of v ≡ Constant → IsBare g.sorts s
      by_value (a_constant d) first root = first.of_sort.1
      by_value (built h vs) first root = absurd cc
      by_value (a_number a z) first root = absurd cc

pub under_root : (fs : List Function) (firsts : List (Option First)) (s : SortId) (r : Root) → HasRootAt firsts s r → sorts_under fs firsts s ≡ root_arguments fs r
under_root fs firsts s r at = ap (λ o. option_map_or (λ (x : First). root_arguments fs x.root) o []) at.1 ∙ ap (root_arguments fs) at.2

pub none_outside : (ks ss : List SortId) (o : Option SortId) → ((x : SortId) → o ≡ Some x → ⊥) → MatchOption o (All (Contains ks) ss) (λ s. Contains ss s × ¬ (Contains ks s)) → All (Contains ks) ss
none_outside ks ss None other h = h
none_outside ks ss (Some x) other h = absurd (other x refl)

-- ---- trees and constants
abbrev pub IsOver : List Function → Sig → Type 0
IsOver fs g = (i : ℕ) (f : Function) → slice_get g.functions i ≡ Some f → slice_get fs i ≡ Some f

module _ (g : Sig) (stands : IsSignature g) (firsts : List (Option First)) (table : AreFirstValues g firsts) where
  module _ (fs : List Function) (over : IsOver fs g) (cs : List (SortId × FunId)) where
    mutual
      pub same_tree : (s : SortId) (t : Tree) → IsTreeOf fs firsts cs s t → (v : ConstructorValue) → IsFirstValue g s v → t ≡ tree_with (constant_of cs) v
      same_tree s t (of_number at is) (a_number a z) first = is ∙ sym (ap (tree_with (constant_of cs)) (first_number_is_first g s a z first))
      same_tree s t (of_number at is) (built f vs) first = let e = value_of g stands firsts table s Number at in let same = first_value_once g s e.0 (built f vs) e.1 first in let wrong : Number ≡ Constructor f = sym e.2 ∙ ap root_of same in absurd cc
      same_tree s t (of_number at is) (a_constant d) first = let e = value_of g stands firsts table s Number at in let same = first_value_once g s e.0 (a_constant d) e.1 first in let wrong : Number ≡ Constant = sym e.2 ∙ ap root_of same in absurd cc
      same_tree s t (of_constructor h ts at args is) (built f vs) first =
          let e = value_of g stands firsts table s (Constructor h) at in
          let same = first_value_once g s e.0 (built f vs) e.1 first in
          let root : Constructor h ≡ Constructor f = sym e.2 ∙ ap root_of same in
          let fun : h ≡ f = cc in
          let part = first.of_sort.2 in
          let sorts : function_arguments fs h ≡ arguments_of part.0 = ap (function_arguments fs) fun ∙ arguments_are g stands firsts table fs f part.0 (over f.0 part.0 part.1) in
          let trees = same_trees (function_arguments fs h) ts args vs (subst (AreFirstOf g vs) (sym sorts) (arguments_first g s f vs first part.0 part.1)) in
          is ∙ ((λ i. apply_tree (fun i) (trees i)) ∙ constructor_unmerged g stands (constant_of cs) s f vs first.of_sort)
      same_tree s t (of_constructor h ts at args is) (a_number a z) first = let e = value_of g stands firsts table s (Constructor h) at in let same = first_value_once g s e.0 (a_number a z) e.1 first in let wrong : Constructor h ≡ Number = sym e.2 ∙ ap root_of same in absurd cc
      same_tree s t (of_constructor h ts at args is) (a_constant d) first = let e = value_of g stands firsts table s (Constructor h) at in let same = first_value_once g s e.0 (a_constant d) e.1 first in let wrong : Constructor h ≡ Constant = sym e.2 ∙ ap root_of same in absurd cc
      same_tree s t (of_constant at is) (a_constant d) first = is ∙ ap (λ (x : SortId). function (constant_of cs x) none) (sym first.of_sort.0)
      same_tree s t (of_constant at is) (built f vs) first = let e = value_of g stands firsts table s Constant at in let same = first_value_once g s e.0 (built f vs) e.1 first in let wrong : Constant ≡ Constructor f = sym e.2 ∙ ap root_of same in absurd cc
      same_tree s t (of_constant at is) (a_number a z) first = let e = value_of g stands firsts table s Constant at in let same = first_value_once g s e.0 (a_number a z) e.1 first in let wrong : Constant ≡ Number = sym e.2 ∙ ap root_of same in absurd cc

      pub same_trees : (ss : List SortId) (ts : List Tree) → AreTreesOf fs firsts cs ss ts → (vs : ConstructorValues) → AreFirstOf g vs ss → trees_of ts ≡ trees_with (constant_of cs) vs
      same_trees [] [] no_trees no_value first = refl
      same_trees [] [] no_trees (value_then v vs) first = absurd first
      same_trees (s ∷ ss) (t ∷ ts) (tree_then one rest) (value_then v vs) first = λ i. more (same_tree s t one v first.0 i) (same_trees ss ts rest vs first.1 i)
      same_trees (s ∷ ss) (t ∷ ts) (tree_then one rest) no_value first = absurd first
